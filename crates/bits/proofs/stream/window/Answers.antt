-- `stream::window` meets its contract.
-- Assumes nothing.
use mathlib.Core.Path.{◌≡◌, ap, ◌∙◌}
use Prim.Native.Nat.{ℕ, ◌-◌, ◌/◌, ◌%◌, ◌^◌}
use native.Mathlib.Omega.{arith}
use Rattle.laws.proofs.Words.{window_high, window_low}
use Rattle.bits.proofs.stream.window.Goals as goal

pub returns-then-at-lt64 : goal.returns-then-at-lt64
returns-then-at-lt64 c =
    let s = c in
    λ h. window_low s.args.low s.args.high s.args.at s.ranges.low.fits c.if-at-lt64.true

pub returns-else-at-lt64 : goal.returns-else-at-lt64
returns-else-at-lt64 c =
    let s = c in
    λ h. let e : s.args.at % 64 ≡ s.args.at - 64 = omega arith in
    ap (λ (k : ℕ). s.args.high / 2 ^ k) e
    ∙ window_high s.args.low s.args.high s.args.at s.ranges.low.fits s.ranges.high.fits c.if-at-lt64.false
