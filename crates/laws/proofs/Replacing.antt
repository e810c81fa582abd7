-- A field of a number replaced: as a difference and a sum, in two halves, and what the other fields are then.
-- Assumes nothing.
use mathlib.Core.Path.{◌≡◌, sym, ap, ap₂, ◌∙◌}
use Prim.Native.Nat.{ℕ, ◌+◌, ◌-◌, ◌*◌, ◌/◌, ◌%◌, ◌^◌, ◌≤◌, ◌<◌}
use native.Mathlib.Nat.{add_comm, add-mul, div-eq_of_lt, mod-lt, mul_assoc, zero-mul}
use native.Mathlib.Omega.{arith}
use lib.Arith.{digits_lt}
use lib.Pow.{field, high, low, mod-mod-pow, mod-pow-add, pow-add, pow_pos, shr_lt, shr-shr, split}
use Rattle.laws.specs.Digits.{replaced_at}
use Rattle.laws.proofs.Putting.{at_zero}

-- what stands above a field, in it and below it
parts : (n a c : ℕ) → n ≡ n / 2 ^ (a + c) * 2 ^ (a + c) + (n / 2 ^ a % 2 ^ c * 2 ^ a + n % 2 ^ a)
parts n a c =
    sym (split n (a + c))
    ∙ ap (λ (x : ℕ). n / 2 ^ (a + c) * 2 ^ (a + c) + x) (ap (λ (k : ℕ). n % 2 ^ k) (add_comm a c) ∙ mod-pow-add n c a)

-- the field is taken away and the value added
pub taken_le : (n a c : ℕ) → n / 2 ^ a % 2 ^ c * 2 ^ a ≤ n
taken_le n a c = omega (arith, parts n a c)

pub taken_added : (n a c v : ℕ) → n - n / 2 ^ a % 2 ^ c * 2 ^ a + v * 2 ^ a ≡ replaced_at n a c v
unfolding replaced_at
taken_added n a c v = omega (arith, parts n a c)

module _ (n a c v : ℕ) (hv : v < 2 ^ c) where
  middle : v * 2 ^ a + n % 2 ^ a < 2 ^ (a + c)
  middle = rw (add_comm a c, pow-add 2 c a) (digits_lt hv (mod-lt n (pow_pos a)))

  pub replaced_lt : (k : ℕ) → a + c ≤ k → n < 2 ^ k → replaced_at n a c v < 2 ^ k
  unfolding replaced_at
  replaced_lt k h l =
      let e : k - (a + c) + (a + c) ≡ k = omega arith in
      rw (← (pow-add 2 (k - (a + c)) (a + c)), e) at (digits_lt (shr_lt {n = n} (k - (a + c)) (a + c) (rw e l)) middle)

  -- the three parts of the new number
  above : replaced_at n a c v / 2 ^ (a + c) ≡ n / 2 ^ (a + c)
  unfolding replaced_at
  above = high (n / 2 ^ (a + c)) (a + c) middle

  up_to : replaced_at n a c v % 2 ^ (a + c) ≡ v * 2 ^ a + n % 2 ^ a
  unfolding replaced_at
  up_to = low (n / 2 ^ (a + c)) (a + c) middle

  under : replaced_at n a c v % 2 ^ a ≡ n % 2 ^ a
  under =
      sym (mod-mod-pow (replaced_at n a c v) c a) ∙ ap (λ (k : ℕ). replaced_at n a c v % 2 ^ k % 2 ^ a) (add_comm c a)
      ∙ ap (λ (x : ℕ). x % 2 ^ a) up_to ∙ low v a (mod-lt n (pow_pos a))

  within : replaced_at n a c v / 2 ^ a % 2 ^ c ≡ v
  within =
      sym (field (replaced_at n a c v) c a) ∙ ap (λ (k : ℕ). replaced_at n a c v % 2 ^ k / 2 ^ a) (add_comm c a)
      ∙ ap (λ (x : ℕ). x / 2 ^ a) up_to ∙ high v a (mod-lt n (pow_pos a))

  -- fields that lie below it and above it stay, and one that lies in it is one of the value
  low_field : (m k s w : ℕ) → s + w ≤ k → m % 2 ^ k / 2 ^ s % 2 ^ w ≡ m / 2 ^ s % 2 ^ w
  low_field m k s w h =
      let e : k - s + s ≡ k = omega arith in
      let f : k - s - w + w ≡ k - s = omega arith in
      ap (λ (x : ℕ). x % 2 ^ w) (rw e at (field m (k - s) s)) ∙ (rw f at (mod-mod-pow (m / 2 ^ s) (k - s - w) w))

  pub stays_below : (s w : ℕ) → s + w ≤ a → replaced_at n a c v / 2 ^ s % 2 ^ w ≡ n / 2 ^ s % 2 ^ w
  stays_below s w h = sym (low_field (replaced_at n a c v) a s w h) ∙ ap (λ (x : ℕ). x / 2 ^ s % 2 ^ w) under ∙ low_field n a s w h

  pub stays_above : (s w : ℕ) → a + c ≤ s → replaced_at n a c v / 2 ^ s % 2 ^ w ≡ n / 2 ^ s % 2 ^ w
  stays_above s w h =
      let e : a + c + (s - (a + c)) ≡ s = omega arith in
      let from : (m : ℕ) → m / 2 ^ (a + c) / 2 ^ (s - (a + c)) ≡ m / 2 ^ s = λ m. rw e at (shr-shr m (a + c) (s - (a + c))) in
      ap (λ (x : ℕ). x % 2 ^ w) (sym (from (replaced_at n a c v)) ∙ ap (λ (x : ℕ). x / 2 ^ (s - (a + c))) above ∙ from n)

  pub is_inside : (s w : ℕ) → s + w ≤ c → replaced_at n a c v / 2 ^ (a + s) % 2 ^ w ≡ v / 2 ^ s % 2 ^ w
  is_inside s w h =
      ap (λ (x : ℕ). x % 2 ^ w) (sym (shr-shr (replaced_at n a c v) a s)) ∙ sym (low_field (replaced_at n a c v / 2 ^ a) c s w h)
      ∙ ap (λ (x : ℕ). x / 2 ^ s % 2 ^ w) within

-- a field that lies below bit w: the number's upper part stays
pub in_lower : (n a c v w : ℕ) → a + c ≤ w → replaced_at n a c v ≡ n / 2 ^ w * 2 ^ w + replaced_at (n % 2 ^ w) a c v
in_lower n a c v w h =
    let e : w - (a + c) + (a + c) ≡ w = omega arith in
    let f : w - a + a ≡ w = omega arith in
    let g : w - a - c + c ≡ w - a = omega arith in
    let same : n % 2 ^ w / 2 ^ a % 2 ^ c ≡ n / 2 ^ a % 2 ^ c =
    ap (λ (x : ℕ). x % 2 ^ c) (rw f at (field n (w - a) a)) ∙ (rw g at (mod-mod-pow (n / 2 ^ a) (w - a - c) c)) in
    let t : n % 2 ^ w / 2 ^ a % 2 ^ c * 2 ^ a ≡ n / 2 ^ a % 2 ^ c * 2 ^ a = ap (λ (x : ℕ). x * 2 ^ a) same in
    omega (arith, taken_added n a c v, taken_added (n % 2 ^ w) a c v, taken_le n a c, taken_le (n % 2 ^ w) a c, split n w)

-- one that crosses bit w: its lower bits in the lower part, its upper ones in the upper
pub across : (n a c v w : ℕ) → a ≤ w → w ≤ a + c
    → replaced_at n a c v ≡ replaced_at (n / 2 ^ w) 0 (a + c - w) (v / 2 ^ (w - a)) * 2 ^ w + replaced_at (n % 2 ^ w) a (w - a) (v % 2 ^ (w - a))
unfolding replaced_at
across n a c v w h k =
    let d : ℕ = a + c - w in
    let e : d + w ≡ a + c = omega arith in
    let f : w - a + a ≡ w = omega arith in
    let f' : a + (w - a) ≡ w = omega arith in
    let top : n / 2 ^ (a + c) * 2 ^ (a + c) ≡ n / 2 ^ w / 2 ^ d * 2 ^ d * 2 ^ w =
    ap (λ (x : ℕ). n / 2 ^ x * 2 ^ x) (sym e)
    ∙ ap₂ (λ (x y : ℕ). x * y) (ap (λ (x : ℕ). n / 2 ^ x) (add_comm d w) ∙ sym (shr-shr n w d)) (pow-add 2 d w)
    ∙ sym (mul_assoc (n / 2 ^ w / 2 ^ d) (2 ^ d) (2 ^ w)) in
    let mid : v * 2 ^ a ≡ v / 2 ^ (w - a) * 2 ^ w + v % 2 ^ (w - a) * 2 ^ a =
    ap (λ (x : ℕ). x * 2 ^ a) (sym (split v (w - a)))
    ∙ add-mul (v / 2 ^ (w - a) * 2 ^ (w - a)) (v % 2 ^ (w - a)) (2 ^ a)
    ∙ ap (λ (x : ℕ). x + v % 2 ^ (w - a) * 2 ^ a)
    (mul_assoc (v / 2 ^ (w - a)) (2 ^ (w - a)) (2 ^ a)
    ∙ ap (λ (x : ℕ). v / 2 ^ (w - a) * x) (sym (pow-add 2 (w - a) a) ∙ ap (λ (x : ℕ). 2 ^ x) f)) in
    let lowest : n % 2 ^ w % 2 ^ a ≡ n % 2 ^ a = rw f at (mod-mod-pow n (w - a) a) in
    let none : n % 2 ^ w / 2 ^ (a + (w - a)) * 2 ^ (a + (w - a)) ≡ 0 =
    rw f' (ap (λ (x : ℕ). x * 2 ^ w) (div-eq_of_lt (mod-lt n (pow_pos w))) ∙ zero-mul (2 ^ w)) in
    let first : replaced_at (n / 2 ^ w) 0 d (v / 2 ^ (w - a)) ≡ n / 2 ^ w / 2 ^ d * 2 ^ d + v / 2 ^ (w - a) =
    at_zero (n / 2 ^ w) d (v / 2 ^ (w - a)) in
    let up : (n / 2 ^ w / 2 ^ d * 2 ^ d + v / 2 ^ (w - a)) * 2 ^ w ≡ n / 2 ^ w / 2 ^ d * 2 ^ d * 2 ^ w + v / 2 ^ (w - a) * 2 ^ w =
    add-mul (n / 2 ^ w / 2 ^ d * 2 ^ d) (v / 2 ^ (w - a)) (2 ^ w) in
    ap₂ (λ (x y : ℕ). x + (y + n % 2 ^ a)) top mid
    ∙ sym (ap (λ (x : ℕ). x * 2 ^ w + (n % 2 ^ w / 2 ^ (a + (w - a)) * 2 ^ (a + (w - a)) + (v % 2 ^ (w - a) * 2 ^ a + n % 2 ^ w % 2 ^ a))) first
    ∙ omega (arith, up, none, lowest))
