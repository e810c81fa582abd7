-- The lowest place of the least, and of zero.
-- Assumes nothing.
use mathlib.Core.Path.{◌≡◌, refl, sym, subst}
use mathlib.Core.Logic.{◌≢◌}
use mathlib.Core.Bool.{Bool, true, false}
use Prim.Native.Nat.{ℕ, zero, suc, ◌≤◌, ◌<◌}
use native.Mathlib.Omega.{arith}
use native.Mathlib.Nat.{le_refl, lt_of_lt_of_le}
use borrow.Author.Tests.{eqb-true, eqb-false, ltb-true, ltb-false}
use lib.Dec.{eqb, ltb}
use Rattle.laws.specs.Tables.{pick}
use Rattle.nearest_rules.specs.Nearest.{least_at, zero_at}

none_below : {k : ℕ} → k < 0 → ⊥
none_below h = omega arith

-- i is the lowest of the numbers below n at which d is least
pub record Least (n : ℕ) (d : ℕ → ℕ) (i : ℕ) : Type 0 where
  pub below : i < n
  pub least : (k : ℕ) → k < n → d i ≤ d k
  pub lowest : (k : ℕ) → k < i → d i < d k

-- of the numbers below n + 1, the last and the others
by_last : (P : ℕ → Type 0) (n : ℕ) → P n → ((k : ℕ) → k < n → P k) → (k : ℕ) → k < suc n → P k
by_last P n last rest k h = go (eqb k n) refl
  where
    go : (b : Bool) → eqb k n ≡ b → P k
    go true e = subst P (sym (eqb-true k n e)) last
    go false e = let ne : k ≢ n = eqb-false k n e in rest k (omega arith)

-- of one number it is 0
pub least_one : (d : ℕ → ℕ) → Least 1 d 0
least_one d = record {
  below = omega arith;
  least = by_last (λ k. d 0 ≤ d k) 0 (le_refl (d 0)) (λ k h. absurd (none_below h));
  lowest = λ k h. absurd (none_below h);
}

-- of one number more it is that where d is less there, and else the same as before
pub least_less : (n : ℕ) (d : ℕ → ℕ) (i : ℕ) → Least n d i → d n < d i → Least (suc n) d n
least_less n d i h less = record {
  below = omega arith;
  least = by_last (λ k. d n ≤ d k) n (le_refl (d n)) (λ k hk. let z : d n ≤ d k = omega (arith, less, h.least k hk) in z);
  lowest = λ k hk. lt_of_lt_of_le less (h.least k hk);
}

pub least_kept : (n : ℕ) (d : ℕ → ℕ) (i : ℕ) → Least n d i → d i ≤ d n → Least (suc n) d i
least_kept n d i h more = record { below = omega (arith, h.below); least = by_last (λ k. d i ≤ d k) n more h.least; lowest = h.lowest }

least_next : (n : ℕ) (d : ℕ → ℕ) (i : ℕ) → Least n d i → Least (suc n) d (pick (ltb (d n) (d i)) n i)
least_next n d i h = go (ltb (d n) (d i)) refl
  where
    go : (b : Bool) → ltb (d n) (d i) ≡ b → Least (suc n) d (pick b n i)
    go true e = least_less n d i h (ltb-true (d n) (d i) e)
    go false e = least_kept n d i h (ltb-false (d n) (d i) e)

pub least_at_is : (n : ℕ) (d : ℕ → ℕ) → 0 < n → Least n d (least_at n d)
unfolding least_at
least_at_is zero d h = absurd (let z : ⊥ = omega arith in z)
least_at_is (suc zero) d h = subst (Least 1 d) (sym (either (ltb (d 0) (d 0)))) (least_one d)
  where
    either : (b : Bool) → ◌≡◌ {A = ℕ} (pick b 0 0) 0
    either true = refl
    either false = refl
least_at_is (suc (suc n)) d h = least_next (suc n) d (least_at (suc n) d) (least_at_is (suc n) d (omega arith))

-- there is one alone
pub least_one_alone : {n : ℕ} {d : ℕ → ℕ} {i j : ℕ} → Least n d i → Least n d j → i ≡ j
least_one_alone {n} {d} {i} {j} a b = go (ltb i j) refl (ltb j i) refl
  where
    go : (x : Bool) → ltb i j ≡ x → (y : Bool) → ltb j i ≡ y → i ≡ j
    go true e y f = absurd (let z : ⊥ = omega (arith, b.lowest i (ltb-true i j e), a.least j b.below) in z)
    go false e true f = absurd (let z : ⊥ = omega (arith, a.lowest j (ltb-true j i f), b.least i a.below) in z)
    go false e false f = let z : i ≡ j = omega (arith, ltb-false i j e, ltb-false j i f) in z

-- the lowest zero: there is none before it, and it is below n unless there is none
pub record Zero (n : ℕ) (d : ℕ → ℕ) (i : ℕ) : Type 0 where
  pub within : i ≤ n
  pub zero_there : i < n → d i ≡ 0
  pub none_before : (k : ℕ) → k < i → d k ≢ 0

pub zero_at_is : (n : ℕ) (d : ℕ → ℕ) → Zero n d (zero_at n d)
unfolding zero_at
zero_at_is zero d = record { within = omega arith; zero_there = λ h. absurd (none_below h); none_before = λ k h. absurd (none_below h) }
zero_at_is (suc n) d = go (eqb (d 0) 0) refl (zero_at_is n (λ i. d (suc i)))
  where
    go : (b : Bool) → eqb (d 0) 0 ≡ b → Zero n (λ i. d (suc i)) (zero_at n (λ i. d (suc i)))
        → Zero (suc n) d (pick b 0 (suc (zero_at n (λ i. d (suc i)))))
    go true e rest = record { within = omega arith; zero_there = λ h. eqb-true (d 0) 0 e; none_before = λ k h. absurd (none_below h) }
    go false e rest = record {
      within = omega (arith, rest.within);
      zero_there = λ h. rest.zero_there (omega arith);
      none_before = before;
    }
      where
        before : (k : ℕ) → k < suc (zero_at n (λ i. d (suc i))) → d k ≢ 0
        before zero h = eqb-false (d 0) 0 e
        before (suc k) h = rest.none_before k (omega arith)

-- the lowest zero is the lowest place of the least; and where the least is no zero there is none
pub zero_is_least : (n : ℕ) (d : ℕ → ℕ) {i : ℕ} → Least n d i → d i ≡ 0 → zero_at n d ≡ i
zero_is_least n d {i} h e = go (ltb (zero_at n d) i) refl (ltb i (zero_at n d)) refl
  where
    z : Zero n d (zero_at n d)
    z = zero_at_is n d

    go : (x : Bool) → ltb (zero_at n d) i ≡ x → (y : Bool) → ltb i (zero_at n d) ≡ y → zero_at n d ≡ i
    go true a y b =
        let l : zero_at n d < i = ltb-true (zero_at n d) i a in
        absurd (let y : ⊥ = omega (arith, h.lowest (zero_at n d) l, z.zero_there (omega (arith, h.below, l))) in y)
    go false a true b = absurd (z.none_before i (ltb-true i (zero_at n d) b) e)
    go false a false b = let y : zero_at n d ≡ i = omega (arith, ltb-false (zero_at n d) i a, ltb-false i (zero_at n d) b) in y

pub no_zero : (n : ℕ) (d : ℕ → ℕ) {i : ℕ} → Least n d i → d i ≢ 0 → zero_at n d ≡ n
no_zero n d {i} h e = go (ltb (zero_at n d) n) refl
  where
    z : Zero n d (zero_at n d)
    z = zero_at_is n d

    go : (x : Bool) → ltb (zero_at n d) n ≡ x → zero_at n d ≡ n
    go true a =
        let l : zero_at n d < n = ltb-true (zero_at n d) n a in
        absurd (e (let y : d i ≡ 0 = omega (arith, h.least (zero_at n d) l, z.zero_there l) in y))
    go false a = let y : zero_at n d ≡ n = omega (arith, ltb-false (zero_at n d) n a, z.within) in y
