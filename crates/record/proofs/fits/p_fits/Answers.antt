-- `fits::p_fits` meets its contract.
-- Assumes nothing.
use mathlib.Core.Path.{◌≡◌, refl, ◌∙◌, ap, sym, subst}
use mathlib.Core.Bool.{Bool, true, false}
use Prim.Native.Nat.{ℕ, ◌^◌}
use mir.Val.{bool_byte}
use native.Mathlib.Omega.{arith}
use lib.Dec.{ltb}
use lib.ListN.{get_or}
use Rattle.laws.specs.Tables.{below, pick}
use Rattle.laws.proofs.Scan.{scan_fails, scan_more}
use Rattle.record.proofs.fits.p_fits.Goals as goal
use Rattle.record.proofs.fits.p_fits.Invariants.{test}
use Rattle.record.proofs.fits.p_fits.Goals.{After-value_fits}

as_picked : (b : Bool) → bool_byte b ≡ pick b 1 0
as_picked true = refl
as_picked false = refl

tested : (c : After-value_fits) → c.value_fits.result ≡ test c.args.row c.args.p c.loop-k.k
tested c =
    c.value_fits.ensures
    ∙ ap (λ (w : ℕ). ltb (get_or c.args.p c.loop-k.k 0) (2 ^ w)) (c.from.ensures ∙ as_picked (ltb c.loop-k.k c.args.row.p))

pub returns-then-not-value_fits : goal.returns-then-not-value_fits
returns-then-not-value_fits c =
    sym (scan_fails 6 (test c.args.row c.args.p) _ c.loop-k-test.true
    (sym (tested (goal.at.returns-then-not-value_fits c).After-value_fits) ∙ c.if-not-value_fits.true))

pub loop-k-preserved : goal.loop-k-preserved
loop-k-preserved c =
    scan_more (test c.args.row c.args.p) _ c.loop-k.invariant
    (sym (tested (goal.at.loop-k-preserved c).After-value_fits) ∙ c.if-not-value_fits.false)

pub returns : goal.returns
returns c =
    let end : c.loop-k.k ≡ 6 = omega (arith, c.loop-k.auto.k-end) in
    sym (subst (λ (n : ℕ). below n (test c.args.row c.args.p) ≡ true) end c.loop-k.invariant)
