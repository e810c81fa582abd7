-- `stopped` meets its contract.
-- Assumes nothing.
use Rattle.listing_rules.specs.Machine.{ended}
use Rattle.listing.proofs.stopped.Goals as goal

pub returns-then-exact : goal.returns-then-exact
unfolding ended
returns-then-exact c = rw (c.start-reader.ensures, c.if-exact.true)

pub returns : goal.returns
unfolding ended
returns c = rw (c.start-reader.ensures, c.if-exact.false)
