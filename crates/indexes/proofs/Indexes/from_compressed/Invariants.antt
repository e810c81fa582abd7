-- `Indexes::from_compressed` meets its contract.
-- Assumes nothing.
use Rattle.std.proofs.Common.{◌∷◌}
use lib.ListN.{drop}
use Rattle.bcn_format.specs.Indexes.{expanded}
use Rattle.indexes.proofs.Anchoring.{Awaiting}
use Rattle.indexes.proofs.Indexes.from_compressed.Given as goal

abbrev pub invariant-loop-fixup : goal.invariant-loop-fixup
invariant-loop-fixup g l =
    Awaiting l.fn.bits (expanded l.fn.bits (0 ∷ l.fn.fixups) l.fn.compressed) (drop l.fixup-index l.fn.fixups) l.uncompressed
