-- A `match` on a number x whose arms for 0, 1, .. give s the values of a function f there, and that is given no other x.
-- Assumes nothing.
use mathlib.Core.Path.{◌≡◌, sym, ap, ◌∙◌}
use mathlib.Core.Logic.{◌⊎◌, ⊎_elim}
use Prim.Native.Nat.{ℕ, zero, suc, ◌+◌, ◌≤◌, ◌<◌}
use native.Mathlib.Omega.{arith}

-- what is known in an arm, P, says that it is the arm of k, and gives s the value there
abbrev Arm : (ℕ → ℕ) → ℕ → ℕ → ℕ → Type 0 → Type 0
Arm f x s k P = P → (x ≡ k) × (s ≡ f k)

by_arm : (f : ℕ → ℕ) (x s k : ℕ) {P : Type 0} → Arm f x s k P → P → s ≡ f x
by_arm f x s k a p = (a p).1 ∙ sym (ap f (a p).0)

-- whichever arm from that of k on control came by, as A says, s is the value at x
pub record Arms (f : ℕ → ℕ) (x s k : ℕ) (A : Type 0) : Type 0 where
  pub met : A → s ≡ f x

-- eight at a time, so that one call of omega serves eight
pub eight_arms : {f : ℕ → ℕ} {x s k : ℕ} {P₀ P₁ P₂ P₃ P₄ P₅ P₆ P₇ A : Type 0}
    → Arm f x s k P₀ × Arm f x s (k + 1) P₁ × Arm f x s (k + 2) P₂ × Arm f x s (k + 3) P₃
    × Arm f x s (k + 4) P₄ × Arm f x s (k + 5) P₅ × Arm f x s (k + 6) P₆ × Arm f x s (k + 7) P₇
    → Arms f x s (k + 8) A → Arms f x s k (P₀ ⊎ (P₁ ⊎ (P₂ ⊎ (P₃ ⊎ (P₄ ⊎ (P₅ ⊎ (P₆ ⊎ (P₇ ⊎ A))))))))
eight_arms {f} {x} {s} {k} a rest = record {
  met =
      ⊎_elim (by_arm f x s k a.0) (⊎_elim (by_arm f x s (k + 1) a.1)
      (⊎_elim (by_arm f x s (k + 2) a.2) (⊎_elim (by_arm f x s (k + 3) a.3)
      (⊎_elim (by_arm f x s (k + 4) a.4) (⊎_elim (by_arm f x s (k + 5) a.5)
      (⊎_elim (by_arm f x s (k + 6) a.6) (⊎_elim (by_arm f x s (k + 7) a.7) rest.met)))))));
}

-- x is none of the numbers below n, as `_` says it
abbrev None : ℕ → ℕ → Type 0
None x zero = Unit
None x (suc n) = None x n × (x ≡ n → ⊥)

none_below : (x n : ℕ) → None x n → n ≤ x
none_below x zero h = omega arith
none_below x (suc n) h = let l : n ≤ x = none_below x n h.0 in let d : x ≡ n → ⊥ = h.1 in omega arith

pub no_more : {f : ℕ → ℕ} {x s k : ℕ} {P : Type 0} → x < k → (P → None x k) → Arms f x s k P
no_more {x = x} {k = k} l none = record { met = λ p. absurd (let z : ⊥ = omega (arith, none_below x k (none p)) in z) }

pub by_arms : (f : ℕ → ℕ) (x s : ℕ) {A : Type 0} → A → Arms f x s 0 A → s ≡ f x
by_arms f x s came arms = arms.met came
