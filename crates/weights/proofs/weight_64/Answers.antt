-- A weight of 64.
-- Assumes nothing.
use mathlib.Core.Path.{ap, ◌∙◌}
use Prim.Native.Nat.{ℕ, ◌+◌, ◌-◌, ◌*◌, ◌/◌}
use native.Mathlib.Omega.{arith}
use Rattle.bcn_format.proofs.Drawing.{weight_le}
use Rattle.bcn_format.proofs.Weighing.{Counted, computed, computed_weight, counted}
use Rattle.weights.proofs.weight_64.Goals as goal

cnt : (c : goal.Start) → Counted c.args.bits
cnt c = counted c.args.bits c.requires.least c.requires.most

pub nonzero_div-result-2 : goal.nonzero_div-result-2
nonzero_div-result-2 c = omega (arith, (cnt c).is, (cnt c).least)

pub returns : goal.returns
unfolding computed
returns c =
    let i = c.args.index in
    let e = ap (λ (n : ℕ). (64 * i + (n - 1) / 2) / (n - 1)) (cnt c).is ∙ computed_weight c.args.bits i c.requires in
    record { is = e; most = rw e (weight_le _ _ c.requires.least c.requires.most c.requires.within) }
