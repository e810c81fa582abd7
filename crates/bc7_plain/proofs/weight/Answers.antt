-- `weight` meets its contract: what is computed is what the format prints.
-- Assumes nothing.
use mathlib.Core.Path.{ap, ◌∙◌}
use Prim.Native.Nat.{ℕ, ◌+◌, ◌-◌, ◌*◌, ◌/◌, ◌%◌, ◌^◌}
use mathlib.Core.Path.{◌≡◌}
use native.Mathlib.Omega.{arith}
use Rattle.bcn_format.proofs.Weighing.{Counted, computed, computed_weight, counted}
use Rattle.bc7_plain.proofs.weight.Goals as goal
use Rattle.bc7_plain.proofs.weight.Goals.{Start}

cnt : (c : Start) → Counted c.args.width
cnt c = counted c.args.width c.requires.least c.requires.most

many : (c : Start) → 1 * 2 ^ c.args.width % 2 ^ 64 ≡ 2 ^ c.args.width
many c = omega (arith, (cnt c).most)

pub overflow_shl-last : goal.overflow_shl-last
overflow_shl-last c = omega (arith, c.requires.most)

pub overflow_sub-last : goal.overflow_sub-last
overflow_sub-last c = omega (arith, many c, (cnt c).least)

pub overflow_mul-result : goal.overflow_mul-result
overflow_mul-result c = omega (arith, c.requires.within, (cnt c).most)

pub overflow_add-result : goal.overflow_add-result
overflow_add-result c = omega (arith, c.requires.within, many c, (cnt c).most)

pub nonzero_div-result-2 : goal.nonzero_div-result-2
nonzero_div-result-2 c = omega (arith, many c, (cnt c).least)

pub returns : goal.returns
unfolding computed
returns c =
    let i = c.args.index in
    ap (λ (n : ℕ). (64 * i + (n - 1) / 2) / (n - 1)) (many c) ∙ computed_weight c.args.width i c.requires
