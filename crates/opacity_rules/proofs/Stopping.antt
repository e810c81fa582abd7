-- Tests one after the other, up to the first that fails, are all of them.
-- Assumes nothing.
use mathlib.Core.Path.{◌≡◌, sym, subst}
use mathlib.Core.Bool.{Bool}
use Prim.Native.Nat.{ℕ, zero, suc, ◌+◌, ◌<◌}
use native.Mathlib.Nat.{add-zero, le_of_suc-le-suc, not-suc-le-zero, zero-add}
use native.Mathlib.Omega.{arith}
use lib.Dec.{T}
use Rattle.laws.specs.Tables.{below}
use Rattle.laws.proofs.Tests.{at, below_intro, both_intro, both_left, both_right, same_test}
use Rattle.opacity_rules.specs.Opacity.{up_to_first}

module _ (f : ℕ → Bool) where
  one_further : (q k : ℕ) → suc q + k ≡ q + suc k
  one_further q k = omega arith

  each_passed : (q n : ℕ) → T (up_to_first q n f) → (k : ℕ) → k < n → T (f (q + k))
  each_passed q zero t k h = absurd (not-suc-le-zero h)
  each_passed q (suc n) t zero h = subst (λ (m : ℕ). T (f m)) (sym (add-zero q)) (both_left (f q) _ t)
  each_passed q (suc n) t (suc k) h =
      subst (λ (m : ℕ). T (f m)) (one_further q k) (each_passed (suc q) n (both_right (f q) _ t) k (le_of_suc-le-suc h))

  all_pass : (q n : ℕ) → ((k : ℕ) → k < n → T (f (q + k))) → T (up_to_first q n f)
  all_pass q zero g = tt
  all_pass q (suc n) g =
      both_intro (f q) _ (subst (λ (m : ℕ). T (f m)) (add-zero q) (g 0 (omega arith)))
      (all_pass (suc q) n (λ k h. subst (λ (m : ℕ). T (f m)) (sym (one_further q k)) (g (suc k) (omega arith))))

  pub up_to_first_is : (n : ℕ) → up_to_first 0 n f ≡ below n f
  up_to_first_is n =
      same_test _ _ (λ t. below_intro n f (λ k h. subst (λ (m : ℕ). T (f m)) (zero-add k) (each_passed 0 n t k h)))
      (λ t. all_pass 0 n (λ k h. subst (λ (m : ℕ). T (f m)) (sym (zero-add k)) (at n f t k h)))
