-- `sets::parts_of` meets its contract.
-- Assumes nothing.
use mathlib.Core.Path.{◌≡◌}
use Prim.Native.Nat.{◌*◌, ◌/◌, ◌^◌}
use Rattle.laws.proofs.Filled.{Filled}
use Rattle.bcn_format.specs.Indexes.{part}
use Rattle.indexes.proofs.sets.parts_of.Given as goal

abbrev pub invariant-loop-part : goal.invariant-loop-part
invariant-loop-part l =
    Filled 16 0 (part l.word l.width) l.part-index l.part-items × (l.rest ≡ l.word / 2 ^ (l.part-index * l.width))
