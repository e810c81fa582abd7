-- `places::place_at` meets its contract.
-- Assumes nothing.
use borrow.Author.Tests.{le-ltb, lt-ltb}
use Rattle.bc7_format.specs.Places.{place_at}
use Rattle.bc7_places.proofs.places.place_at.Goals as goal

pub returns-then-number-lt-VALUES : goal.returns-then-number-lt-VALUES
unfolding place_at
returns-then-number-lt-VALUES c = rw (lt-ltb _ 4 c.if-number-lt-VALUES.true)

pub returns-then-number-lt-P_BITS : goal.returns-then-number-lt-P_BITS
unfolding place_at
returns-then-number-lt-P_BITS c = rw (le-ltb _ 4 c.if-number-lt-VALUES.false, lt-ltb _ 28 c.if-number-lt-P_BITS.true)

pub returns-then-number-lt-FIRST : goal.returns-then-number-lt-FIRST
unfolding place_at
returns-then-number-lt-FIRST c = rw (le-ltb _ 4 c.if-number-lt-VALUES.false, le-ltb _ 28 c.if-number-lt-P_BITS.false, lt-ltb _ 34 c.if-number-lt-FIRST.true)

pub returns-else-number-lt-FIRST : goal.returns-else-number-lt-FIRST
unfolding place_at
returns-else-number-lt-FIRST c = rw (le-ltb _ 4 c.if-number-lt-VALUES.false, le-ltb _ 28 c.if-number-lt-P_BITS.false, le-ltb _ 34 c.if-number-lt-FIRST.false)
