-- Tests that antt computes, and what they say.
-- Assumes nothing.
use mathlib.Core.Path.{◌≡◌, refl, sym, ap, ◌∙◌, subst}
use mathlib.Core.Logic.{⊎_elim}
use mathlib.Core.Bool.{Bool, true, false, not}
use Prim.Native.Nat.{ℕ, zero, suc, ◌<◌}
use native.Mathlib.Nat.{le_of_suc-le-suc, not-suc-le-zero, eq-or-lt_of_le, lt_trans, le_refl}
use lib.Dec.{T, eqb, eqb_refl}
use Rattle.laws.specs.Tables.{below, both, implies}

pub T_true : (b : Bool) → T b → b ≡ true
T_true true t = refl
T_true false t = absurd t

pub true_T : (b : Bool) → b ≡ true → T b
true_T b e = subst T (sym e) tt

pub no_both : {b : Bool} → b ≡ true → b ≡ false → ⊥
no_both p q = subst T q (subst T (sym p) tt)

pub not_so : (b : Bool) → (b ≡ true → ⊥) → b ≡ false
not_so true n = absurd (n refl)
not_so false n = refl

pub eqb_of : (a b : ℕ) → a ≡ b → T (eqb a b)
eqb_of a b e = subst (λ (x : ℕ). T (eqb a x)) e (eqb_refl a)

pub both_left : (a b : Bool) → T (both a b) → T a
both_left true b t = tt
both_left false b t = t

pub both_right : (a b : Bool) → T (both a b) → T b
both_right true b t = t
both_right false b t = absurd t

pub both_intro : (a b : Bool) → T a → T b → T (both a b)
both_intro true b x y = y
both_intro false b x y = x

pub both_true : (a b : Bool) → both a b ≡ true → (a ≡ true) × (b ≡ true)
both_true true b e = (refl, e)
both_true false b e = absurd (subst (λ (c : Bool). T (not c)) e tt)

-- two tests that hold together
pub same_test : (a b : Bool) → (T a → T b) → (T b → T a) → a ≡ b
same_test true true f g = refl
same_test true false f g = absurd (f tt)
same_test false true f g = absurd (g tt)
same_test false false f g = refl

-- two tests one after the other
pub first_fails : (a b : Bool) {t : Bool} → t ≡ both a b → a ≡ false → t ≡ false
first_fails a b e f = e ∙ ap (λ (x : Bool). both x b) f

pub first_holds : (a b : Bool) {t : Bool} → t ≡ both a b → a ≡ true → t ≡ b
first_holds a b e f = e ∙ ap (λ (x : Bool). both x b) f

pub implied : (a b : Bool) → T (implies a b) → T a → T b
unfolding implies
implied true b t h = t
implied false b t h = absurd h

-- a test of each number below n, at one of them
pub at : (n : ℕ) (f : ℕ → Bool) → T (below n f) → (k : ℕ) → k < n → T (f k)
at zero f t k h = absurd (not-suc-le-zero h)
at (suc n) f t k h =
    ⊎_elim (λ e. subst (λ (m : ℕ). T (f m)) (sym e) (both_left (f n) (below n f) t))
    (λ l. at n f (both_right (f n) (below n f) t) k l)
    (eq-or-lt_of_le (le_of_suc-le-suc h))

pub below_intro : (n : ℕ) (f : ℕ → Bool) → ((k : ℕ) → k < n → T (f k)) → T (below n f)
below_intro zero f h = tt
below_intro (suc n) f h = both_intro (f n) (below n f) (h n (le_refl (suc n))) (below_intro n f (λ k l. h k (lt_trans l (le_refl (suc n)))))
