-- `fits::endpoints_fit` meets its contract.
-- Assumes nothing.
use mathlib.Core.Path.{◌≡◌, refl, ◌∙◌, ap, sym}
use mathlib.Core.Bool.{Bool}
use Prim.Native.Nat.{ℕ, ◌+◌, ◌^◌}
use lib.Dec.{ltb}
use lib.ListN.{get_or}
use Rattle.laws.specs.Tables.{below, both}
use Rattle.record.specs.Fitting.{value_bits}
use Rattle.laws.proofs.Scan.{below_add}
use Rattle.laws.proofs.Tests.{first_fails, first_holds}
use Rattle.record.proofs.fits.endpoints_fit.Goals as goal
use Rattle.record.proofs.fits.endpoints_fit.Goals.{Start}

-- value i fits, and all
abbrev test : (s : Start) → ℕ → Bool
test s i = ltb (get_or s.args.e i 0) (2 ^ value_bits s.args.row i)

thirds : (s : Start) → below 24 (test s) ≡ both (below 8 (test s)) (both (below 8 (λ i. test s (8 + i))) (below 8 (λ i. test s (16 + i))))
thirds s = below_add 8 16 (test s) ∙ ap (both (below 8 (test s))) (below_add 8 8 (λ i. test s (8 + i)))

pub returns-then-not-endpoints_fit_at : goal.returns-then-not-endpoints_fit_at
returns-then-not-endpoints_fit_at c = sym (first_fails _ _ (thirds c.before.before) (sym c.endpoints_fit_at.ensures ∙ c.if-not-endpoints_fit_at.true))

pub returns-then-not-endpoints_fit_at-2 : goal.returns-then-not-endpoints_fit_at-2
returns-then-not-endpoints_fit_at-2 c =
    sym (first_holds _ _ (thirds c.before.before.before.before)
    (sym c.endpoints_fit_at.ensures ∙ c.if-not-endpoints_fit_at.false)
    ∙ first_fails _ _ refl (sym c.endpoints_fit_at-2.ensures ∙ c.if-not-endpoints_fit_at-2.true))

pub returns : goal.returns
returns c =
    c.endpoints_fit_at-3.ensures
    ∙ sym (first_holds _ _ (thirds c.before.before.before.before.before)
    (sym c.endpoints_fit_at.ensures ∙ c.if-not-endpoints_fit_at.false)
    ∙ first_holds _ _ refl (sym c.endpoints_fit_at-2.ensures ∙ c.if-not-endpoints_fit_at-2.false))
