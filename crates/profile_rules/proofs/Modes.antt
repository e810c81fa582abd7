-- Which blocks the profile admits, by tests and in words.
-- Assumes nothing.
use mathlib.Core.Path.{◌≡◌, sym}
use mathlib.Core.Logic.{◌⊎◌, inl, inr, ⊎_elim}
use mathlib.Core.Bool.{true, false, not}
use mathlib.Core.List.{List}
use Prim.Native.Nat.{ℕ, ◌≤◌}
use native.Mathlib.Nat.{eq-or-lt_of_le}
use native.Mathlib.Omega.{arith}
use borrow.Author.Tests.{le-leb, leb-true, not-false, not-true}
use lib.Dec.{leb}
use Rattle.laws.proofs.Tests.{both_true, no_both, not_so}
use Rattle.bc7_format.specs.Modes.{mode_of}
use Rattle.profile_rules.specs.Profile.{Admitted, admits}

between : (m : ℕ) → 4 ≤ m → m ≤ 6 → (m ≡ 4) ⊎ ((m ≡ 5) ⊎ (m ≡ 6))
between m low high = ⊎_elim (λ e. inl (sym e)) (λ l. inr (⊎_elim (λ e. inl (sym e)) (λ g. inr (omega (arith, g, high))) (eq-or-lt_of_le l)))
    (eq-or-lt_of_le low)

module _ (bs : List ℕ) where
  pub admits_is : admits bs ≡ true → Admitted bs
  unfolding admits
  admits_is e =
      let (low, high) = both_true (leb 4 (mode_of bs)) (leb (mode_of bs) 6) e in
      between (mode_of bs) (leb-true 4 (mode_of bs) low) (leb-true (mode_of bs) 6 high)

  pub within_admitted : 4 ≤ mode_of bs → mode_of bs ≤ 6 → admits bs ≡ true
  unfolding admits
  within_admitted low high = rw (le-leb 4 (mode_of bs) low, le-leb (mode_of bs) 6 high)

  pub is_admitted : Admitted bs → admits bs ≡ true
  is_admitted a =
      let low : 4 ≤ mode_of bs = ⊎_elim (λ e. omega (arith, e)) (⊎_elim (λ e. omega (arith, e)) (λ e. omega (arith, e))) a in
      let high : mode_of bs ≤ 6 = ⊎_elim (λ e. omega (arith, e)) (⊎_elim (λ e. omega (arith, e)) (λ e. omega (arith, e))) a in
      within_admitted low high

  pub not_admitted : (Admitted bs → ⊥) → admits bs ≡ false
  not_admitted n = not_so (admits bs) (λ e. n (admits_is e))

  -- what the test of breaking says
  pub breaks_not : not (admits bs) ≡ false → Admitted bs
  breaks_not e = admits_is (not-false (admits bs) e)

  pub breaks_is : not (admits bs) ≡ true → Admitted bs → ⊥
  breaks_is e a = no_both (is_admitted a) (not-true (admits bs) e)
