-- `sets::top_of` meets its contract.
-- Assumes nothing.
use mathlib.Core.Path.{refl}
use Rattle.bcn_format.specs.Block.{field}
use Rattle.indexes.proofs.sets.top_of.Goals as goal
use Rattle.indexes.proofs.sets.top_of.Goals.{Start}

pub returns : goal.returns
unfolding field
returns c = refl
