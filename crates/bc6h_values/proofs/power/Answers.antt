-- A power of two, by a shift.
-- Assumes nothing.
use Rattle.std.proofs.Common.{◌^◌, ◌∙◌, one-mul, arith, lit<, shl_exact}
use Rattle.bc6h_values.proofs.power.Goals as goal

pub returns : goal.returns
returns c = shl_exact {a = 1} 1 c.args.bits 16 (lit< tt) (omega arith) ∙ one-mul (2 ^ c.args.bits)
