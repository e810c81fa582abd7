-- 31 · 2^10 of 2^16 is 31 of 64.
-- Assumes nothing.
use Rattle.std.proofs.Common.{◌≡◌, ℕ, ◌*◌, ◌/◌, arith}
use Rattle.bc6h_format.specs.Halves.{finished, finished_unsigned}
use Rattle.bc6h_values.proofs.UnsignedSign.finish.Goals as goal

scaled : (v : ℕ) → v * 31744 / 65536 ≡ finished_unsigned v
unfolding finished_unsigned
scaled v = omega arith

pub returns : goal.returns
unfolding finished
returns c = scaled _
