-- `mixed` meets its contract.
-- Assumes nothing.
use mathlib.Core.Path.{refl}
use Prim.Native.Nat.{◌-◌, ◌*◌, ◌≤◌}
use native.Mathlib.Omega.{arith}
use Rattle.bcn_format.specs.Drawing.{drawn}
use Rattle.bcn_format.proofs.Drawing.{drawn_lt}
use Rattle.bc7_plain.proofs.Rows.{product}
use Rattle.bc7_plain.proofs.mixed.Goals as goal
use Rattle.bc7_plain.proofs.mixed.Goals.{Start}

one : (c : Start) → (64 - c.args.weight) * c.args.first ≤ 64 * 255
one c = product 64 255 (omega arith) (omega arith)

two : (c : Start) → c.args.weight * c.args.second ≤ 64 * 255
two c = product 64 255 (omega arith) (omega arith)

pub overflow_mul-result : goal.overflow_mul-result
overflow_mul-result c = omega (arith, one c)

pub overflow_mul-result-2 : goal.overflow_mul-result-2
overflow_mul-result-2 c = omega (arith, two c)

pub overflow_add-result : goal.overflow_add-result
overflow_add-result c = omega (arith, one c, two c)

pub overflow_add-result-2 : goal.overflow_add-result-2
overflow_add-result-2 c = omega (arith, one c, two c)

pub overflow_cast-result : goal.overflow_cast-result
unfolding drawn
overflow_cast-result c = omega (arith, drawn_lt c.args.first c.args.second c.args.weight c.requires.first c.requires.second c.requires.weight)

pub returns : goal.returns
unfolding drawn
returns c = refl
