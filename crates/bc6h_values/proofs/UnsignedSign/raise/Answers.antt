-- Sixteen bits stay.
-- Assumes nothing.
use Rattle.std.proofs.Common.{refl}
use Rattle.bc6h_format.specs.Widening.{widened, widened_unsigned}
use Rattle.bc6h_values.proofs.UnsignedSign.raise.Goals as goal

pub returns : goal.returns
unfolding widened widened_unsigned
returns c = refl
