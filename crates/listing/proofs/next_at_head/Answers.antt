-- `next_at_head` meets its contract.
-- Assumes nothing.
use borrow.Author.Tests.{ne_eqb}
use Rattle.refusals.proofs.Answers.{number_not_0}
use Rattle.listing_rules.specs.Machine.{begun}
use Rattle.listing.proofs.next_at_head.Goals as goal

pub returns-then-has_ended : goal.returns-then-has_ended
unfolding begun
returns-then-has_ended c = rw (← c.in-Ok.ensures.same, ← c.has_ended.ensures, c.if-has_ended.true) c.in_blocks.ensures

pub returns-in-Err : goal.returns-in-Err
unfolding begun
returns-in-Err c = rw (← c.in-Err.ensures.same, ne_eqb _ 0 (number_not_0 c.in-Err.field-0)) c.stopped.ensures
