-- All colours by an index, in part, two at a turn.
-- Assumes nothing.
use Prim.Native.Nat.{◌*◌}
use Rattle.laws.proofs.Filled.{Filled}
use Rattle.bc7_fields.specs.Painting.{between}
use Rattle.bc7_drawing.specs.Words.{endpoint}
use Rattle.bc7_unpartitioned.specs.Crossing.{kept_word}
use Rattle.bc7_unpartitioned.proofs.words.Given as goal

abbrev pub invariant-loop-k : goal.invariant-loop-k
invariant-loop-k g l = Filled g.row.N 0 (λ i. kept_word l.colour (between g.row.W (endpoint l.e 0 0) (endpoint l.e 0 1) i)) (2 * l.k) l.q
