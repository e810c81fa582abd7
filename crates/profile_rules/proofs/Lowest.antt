-- The lowest number below n that passes a test.
-- Assumes nothing.
use mathlib.Core.Path.{◌≡◌, refl, ◌∙◌, sym}
use mathlib.Core.Logic.{⊎_elim}
use mathlib.Core.Bool.{Bool, true, false}
use Prim.Native.Nat.{ℕ, zero, suc, ◌<◌, ◌≤◌}
use native.Mathlib.Nat.{eq-or-lt_of_le, le_of_suc-le-suc, le_refl, not-suc-le-zero}
use native.Mathlib.Omega.{arith}
use Rattle.laws.specs.Tables.{pick}
use Rattle.laws.proofs.Cases.{lt_or}
use Rattle.laws.proofs.Tests.{no_both}
use Rattle.profile_rules.specs.Profile.{lowest}

most_step : (b : Bool) (m n : ℕ) → m ≤ n → pick b 0 (suc m) ≤ suc n
most_step true m n h = omega arith
most_step false m n h = omega (arith, h)

pub lowest_most : (n : ℕ) (t : ℕ → Bool) → lowest n t ≤ n
unfolding lowest
lowest_most zero t = le_refl 0
lowest_most (suc n) t = most_step (t 0) (lowest n (λ k. t (suc k))) n (lowest_most n (λ k. t (suc k)))

module _ (t : ℕ → Bool) where
  passes_step : (b : Bool) (m n : ℕ) → t 0 ≡ b → (m < n → t (suc m) ≡ true) → pick b 0 (suc m) < suc n → t (pick b 0 (suc m)) ≡ true
  passes_step true m n e f h = e
  passes_step false m n e f h = f (le_of_suc-le-suc h)

  before_step : (b : Bool) (m : ℕ) → t 0 ≡ b → ((k : ℕ) → k < m → t (suc k) ≡ false) → (k : ℕ) → k < pick b 0 (suc m) → t k ≡ false
  before_step true m e f k h = absurd (not-suc-le-zero h)
  before_step false m e f zero h = e
  before_step false m e f (suc k) h = f k (le_of_suc-le-suc h)

-- where it is below n, it passes
pub lowest_passes : (n : ℕ) (t : ℕ → Bool) → lowest n t < n → t (lowest n t) ≡ true
unfolding lowest
lowest_passes zero t h = absurd (not-suc-le-zero h)
lowest_passes (suc n) t h = passes_step t (t 0) (lowest n (λ k. t (suc k))) n refl (lowest_passes n (λ k. t (suc k))) h

-- and none before it does
pub none_before : (n : ℕ) (t : ℕ → Bool) (k : ℕ) → k < lowest n t → t k ≡ false
unfolding lowest
none_before zero t k h = absurd (not-suc-le-zero h)
none_before (suc n) t k h = before_step t (t 0) (lowest n (λ k. t (suc k))) refl (none_before n (λ k. t (suc k))) k h

-- these two say which it is
pub lowest_is : (n : ℕ) (t : ℕ → Bool) (b : ℕ) → b ≤ n → (b < n → t b ≡ true) → ((k : ℕ) → k < b → t k ≡ false) → lowest n t ≡ b
lowest_is n t b most passes before = ⊎_elim
    (λ l. absurd (no_both (lowest_passes n t (omega (arith, l, most))) (before (lowest n t) l)))
    (λ g. ⊎_elim (λ e. sym e) (λ l. absurd (no_both (passes (omega (arith, l, lowest_most n t))) (none_before n t b l))) (eq-or-lt_of_le g))
    (lt_or (lowest n t) b)

-- two tests that answer alike below n have the same lowest
pub lowest_same : (n : ℕ) (t u : ℕ → Bool) → ((k : ℕ) → k < n → t k ≡ u k) → lowest n t ≡ lowest n u
lowest_same n t u same =
    let most = lowest_most n u in
    lowest_is n t (lowest n u) most (λ l. same (lowest n u) l ∙ lowest_passes n u l)
    (λ k l. same k (omega (arith, l, most)) ∙ none_before n u k l)
