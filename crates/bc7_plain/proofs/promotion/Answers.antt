-- `promotion` meets its contract.
-- Assumes nothing.
use mathlib.Core.Path.{◌≡◌, ap, sym, subst}
use Prim.Native.Nat.{ℕ, ◌+◌, ◌-◌, ◌*◌, ◌/◌, ◌%◌, ◌^◌, ◌<◌}
use native.Mathlib.Omega.{arith}
use lib.Pow.{shl_exact, shl_lt, shr_le}
use Rattle.bcn_format.specs.Drawing.{promoted}
use Rattle.bcn_format.proofs.Drawing.{promoted_lt}
use Rattle.bc7_plain.proofs.promotion.Goals as goal
use Rattle.bc7_plain.proofs.promotion.Goals.{Start}

-- nothing is lost at the top
top : (c : Start) → c.args.value * 2 ^ (8 - c.args.width) % 2 ^ 64 ≡ c.args.value * 2 ^ (8 - c.args.width)
top c = shl_exact c.args.width (8 - c.args.width) 64 c.requires.within (omega (arith, c.requires.most))

below : (c : Start) → c.args.value * 2 ^ (8 - c.args.width) < 256
below c =
    let e : c.args.width + (8 - c.args.width) ≡ 8 = omega (arith, c.requires.most) in
    subst (λ (n : ℕ). c.args.value * 2 ^ (8 - c.args.width) < 2 ^ n) e (shl_lt c.args.width (8 - c.args.width) c.requires.within)

pub overflow_add-result : goal.overflow_add-result
overflow_add-result c =
    let x : ℕ = c.args.value * 2 ^ (8 - c.args.width) % 2 ^ 64 in
    let small : x < 256 = subst (λ (n : ℕ). n < 256) (sym (top c)) (below c) in
    omega (arith, small, shr_le x c.args.width)

pub returns : goal.returns
unfolding promoted
returns c =
    let w : ℕ = c.args.width in
    let e = ap (λ (x : ℕ). x + x / 2 ^ w) (top c) in
    record { is = e; small = subst (λ (x : ℕ). x < 256) (sym e) (promoted_lt w c.args.value c.requires.most c.requires.within) }
