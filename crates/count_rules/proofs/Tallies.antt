-- How many numbers below n pass a test: at most all, fewer where one fails, and what one number that changes changes.
-- Assumes nothing.
use mathlib.Core.Path.{◌≡◌, refl, sym, ap, ◌∙◌}
use mathlib.Core.Logic.{◌≢◌, ⊎_elim}
use mathlib.Core.Bool.{Bool, true, false}
use Prim.Native.Nat.{ℕ, zero, suc, ◌+◌, ◌<◌, ◌≤◌}
use native.Mathlib.Nat.{eq-or-lt_of_le, le_of_suc-le-suc, le_refl, not-suc-le-zero}
use native.Mathlib.Omega.{arith}
use borrow.Author.Tests.{eq-eqb, ne_eqb}
use lib.Dec.{eqb}
use Rattle.laws.specs.Tables.{pick}
use Rattle.laws.specs.Counting.{count, sum}
use Rattle.laws.proofs.Counting.{count_lt, count_more, count_none, count_same}
use Rattle.laws.proofs.Sums.{count_sum, sum_add, sum_same}
use Rattle.count_rules.specs.Keeping.{changed}

abbrev pub one : Bool → ℕ
one b = pick b 1 0

at_most_one : (b : Bool) → one b ≤ 1
at_most_one true = le_refl 1
at_most_one false = omega arith

-- what is twice itself is nothing
sum_zero : (n : ℕ) → sum n (λ k. 0) ≡ 0
sum_zero n = omega (arith, sum_add n (λ k. 0) (λ k. 0))

pub count_most : (n : ℕ) (f : ℕ → Bool) → count n f ≤ n
count_most zero f = omega (arith, count_none f)
count_most (suc n) f = omega (arith, count_more n f, at_most_one (f n), count_most n f)

-- f and g agree but at b
module _ (f g : ℕ → Bool) (b : ℕ) where
  pub count_change : (n : ℕ) → b < n → ((k : ℕ) → k < n → k ≢ b → g k ≡ f k) → count n g + pick (f b) 1 0 ≡ count n f + pick (g b) 1 0
  count_change zero h e = absurd (not-suc-le-zero h)
  count_change (suc n) h e =
      ⊎_elim here (λ l. there l (count_change n l (λ k lk. e k (omega arith)))) (eq-or-lt_of_le (le_of_suc-le-suc h))
    where
      here : b ≡ n → count (suc n) g + pick (f b) 1 0 ≡ count (suc n) f + pick (g b) 1 0
      here q =
          omega (
            arith,
            count_more n g,
            count_more n f,
            count_same n g f (λ k l. e k (omega arith) (λ z. omega arith)),
            ap (λ (x : ℕ). one (f x)) q,
            ap (λ (x : ℕ). one (g x)) q,
          )

      there : b < n → count n g + pick (f b) 1 0 ≡ count n f + pick (g b) 1 0 → count (suc n) g + pick (f b) 1 0 ≡ count (suc n) f + pick (g b) 1 0
      there l rest = omega (arith, count_more n g, count_more n f, ap one (e n (le_refl (suc n)) (λ z. omega arith)))

pub count_some : (n b : ℕ) (f : ℕ → Bool) → b < n → f b ≡ true → count n f ≢ 0
count_some n b f h e z = omega (arith, count_lt f b n h e)

one_of : (n b : ℕ) (f : ℕ → Bool) → b < n → pick (f b) 1 0 ≤ count n f
one_of n b f h = go (f b) refl
  where
    go : (t : Bool) → f b ≡ t → pick t 1 0 ≤ count n f
    go true e = omega (arith, count_lt f b n h e)
    go false e = omega arith

-- so what is counted afresh is one less where b was counted, and one more where it is now
pub count_changed : (n b : ℕ) (f g : ℕ → Bool) → b < n → ((k : ℕ) → k < n → k ≢ b → g k ≡ f k) → count n g ≡ changed (f b) (g b) (count n f)
count_changed n b f g h e = omega (arith, count_change f g b n h e, one_of n b f h)

-- where b fails, fewer than all pass: with b, too, they would be one more
pub count_under : (n b : ℕ) (f : ℕ → Bool) → b < n → f b ≡ false → count n f < n
count_under n b f h e =
    let g : ℕ → Bool = λ k. pick (eqb k b) true (f k) in
    let q : one (g b) ≡ 1 = rw (eq-eqb b b refl) in
    omega (arith, count_change f g b n h (λ k l ne. rw (ne_eqb k b ne)), count_most n g, q, ap one e)

-- a number below m is one of those below m
pub one_each : (m v : ℕ) → v < m → sum m (λ i. pick (eqb v i) 1 0) ≡ 1
one_each m v h =
    let q : one (eqb v v) ≡ 1 = rw (eq-eqb v v refl) in
    omega (
      arith,
      count_sum m (eqb v),
      count_change (λ i. false) (eqb v) v m h (λ k l ne. ne_eqb v k (λ z. ne (sym z))),
      count_sum m (λ i. false),
      sum_zero m,
      q,
    )

-- each of n things has one of m numbers: those that have number 0, 1, .. are n together
pub count_spread : (m : ℕ) (v : ℕ → ℕ) (n : ℕ) → ((k : ℕ) → k < n → v k < m) → sum m (λ i. count n (λ k. eqb (v k) i)) ≡ n
count_spread m v zero h = sum_same m (λ i. count 0 (λ k. eqb (v k) i)) (λ i. 0) (λ i l. count_none (λ k. eqb (v k) i)) ∙ sum_zero m
count_spread m v (suc n) h =
    sum_same m (λ i. count (suc n) (λ k. eqb (v k) i)) (λ i. count n (λ k. eqb (v k) i) + pick (eqb (v n) i) 1 0)
    (λ i l. count_more n (λ k. eqb (v k) i))
    ∙ sum_add m (λ i. count n (λ k. eqb (v k) i)) (λ i. pick (eqb (v n) i) 1 0)
    ∙ omega (arith, count_spread m v n (λ k l. h k (omega arith)), one_each m (v n) (h n (le_refl (suc n))))

-- one of those that are summed is at most the sum
pub sum_has : (n : ℕ) (f : ℕ → ℕ) (k : ℕ) → k < n → f k ≤ sum n f
unfolding sum
sum_has zero f k h = absurd (not-suc-le-zero h)
sum_has (suc n) f k h =
    ⊎_elim (λ e. omega (arith, ap f e)) (λ l. omega (arith, sum_has n f k l)) (eq-or-lt_of_le (le_of_suc-le-suc h))
