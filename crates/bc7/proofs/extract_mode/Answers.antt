-- The mode, from the low byte.
-- Assumes nothing.
use native.Mathlib.Nat.{lt_of_le_of_lt}
use lib.Count.{trailing_le}
use lib.Dec.{lit<}
use Rattle.bcn_format.proofs.Trailing.{trailing_count}
use Rattle.bc7.proofs.extract_mode.Goals as goal

pub overflow_cast-result-2 : goal.overflow_cast-result-2
overflow_cast-result-2 c = record { fits = lt_of_le_of_lt (trailing_le 8 _) (lit< tt) }

pub returns : goal.returns
returns c = rw c.low_u8.ensures.same (trailing_count 8 _)
