-- `sets::word_of` meets its contract.
-- Assumes nothing.
use Prim.Native.Nat.{◌≤◌}
use Rattle.indexes.proofs.sets.Words.{Upper}
use Rattle.indexes.proofs.sets.word_of.Given as goal

abbrev pub invariant-loop-i : goal.invariant-loop-i
invariant-loop-i l = (l.i ≤ 16) × Upper l.width l.indexes l.i l.word

abbrev pub decreases-loop-i : goal.decreases-loop-i
decreases-loop-i l = l.i
