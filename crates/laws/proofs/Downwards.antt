-- Values of one width joined from the top down, in a word of 64 bits.
-- Assumes nothing.
use mathlib.Core.Path.{◌≡◌, refl, sym, ap, ap₂, ◌∙◌}
use Prim.Native.Nat.{ℕ, ◌+◌, ◌-◌, ◌*◌, ◌%◌, ◌^◌, ◌≤◌, ◌<◌}
use native.Mathlib.Nat.{add_assoc, add-mul, add-zero, le-add_right, le_trans, lt_of_le_of_lt, lt_of_lt_of_le, mod-eq_of_lt, mul_assoc}
use native.Mathlib.Nat.{mul-le-mul_left, mul-one, zero-add, zero-mul}
use native.Mathlib.Numerals.{add-one}
use native.Mathlib.Omega.{arith}
use lib.Pow.{pow-add, pow_mono, pow_pos}
use Rattle.laws.specs.Digits.{evenly}
use Rattle.laws.proofs.Evenly.{evenly_lt}
use Rattle.laws.proofs.Rows.{join_more, table_none, total_same}

-- the word x holds the values from i on, of n, and those below are not in it yet
abbrev pub Down : ℕ → ℕ → (ℕ → ℕ) → ℕ → ℕ → Type 0
Down w n v i x = x * 2 ^ (i * w) + evenly i w v ≡ evenly n w v

-- one value more, as the machine puts it below: it fits, and the word holds it
abbrev pub Step : ℕ → ℕ → (ℕ → ℕ) → ℕ → ℕ → Type 0
Step w n v i x = ((x * 2 ^ w) % 2 ^ 64 + v (i - 1) < 2 ^ 64) × Down w n v (i - 1) ((x * 2 ^ w) % 2 ^ 64 + v (i - 1))

module _ (w n : ℕ) (v : ℕ → ℕ) (fits : (k : ℕ) → k < n → v k < 2 ^ w) where
  pub down_none : Down w n v n 0
  down_none = rw (zero-mul (2 ^ (n * w))) (zero-add (evenly n w v))

  down_more : (i x : ℕ) → i < n → Down w n v (i + 1) x → Down w n v i (x * 2 ^ w + v i)
  unfolding evenly
  down_more i x h e =
      let p : ℕ = 2 ^ (i * w) in
      let top : x * 2 ^ ((i + 1) * w) ≡ x * 2 ^ w * p =
      ap (λ (k : ℕ). x * 2 ^ k) (let z : (i + 1) * w ≡ w + i * w = omega arith in z) ∙ ap (λ (y : ℕ). x * y) (pow-add 2 w (i * w))
      ∙ sym (mul_assoc x (2 ^ w) p) in
      let low : evenly (i + 1) w v ≡ v i * p + evenly i w v =
      rw (add-one i) (join_more i (λ k. w) v (λ k l. fits k (omega arith)))
      ∙ ap (λ (k : ℕ). v i * 2 ^ k + evenly i w v) (total_same (λ k. w) w i (λ k l. refl)) in
      ap (λ (y : ℕ). y + evenly i w v) (add-mul (x * 2 ^ w) (v i) p) ∙ add_assoc (x * 2 ^ w * p) (v i * p) (evenly i w v)
      ∙ sym (ap₂ (λ (y z : ℕ). y + z) top low) ∙ e

  pub down_all : (x : ℕ) → Down w n v 0 x → x ≡ evenly n w v
  unfolding evenly
  down_all x e = sym (rw (zero-mul w, table_none (λ (k : ℕ). w)) (add-zero (x * 2 ^ 0) ∙ mul-one x)) ∙ e

  -- no word on the way is longer than the whole
  down_lt : n * w ≤ 64 → (i x : ℕ) → Down w n v i x → x < 2 ^ 64
  down_lt hw i x e =
      lt_of_le_of_lt (le_trans (le_mul x (2 ^ (i * w)) (pow_pos (i * w))) (rw e at (le-add_right (x * 2 ^ (i * w)) (evenly i w v))))
      (lt_of_lt_of_le (evenly_lt n w v fits) (pow_mono {i = n * w} {j = 64} hw))
    where
      le_mul : (x p : ℕ) → 0 < p → x ≤ x * p
      le_mul x p h = rw (mul-one x) at (mul-le-mul_left x h)

  pub down_next : n * w ≤ 64 → (i x : ℕ) → 0 < i → i ≤ n → Down w n v i x → Step w n v i x
  down_next hw i x h l e =
      let j : ℕ = i - 1 in
      let back : i ≡ j + 1 = omega arith in
      let next : Down w n v j (x * 2 ^ w + v j) = down_more j x (omega arith) (rw back at e) in
      let most : x * 2 ^ w + v j < 2 ^ 64 = down_lt hw j (x * 2 ^ w + v j) next in
      let whole : (x * 2 ^ w) % 2 ^ 64 ≡ x * 2 ^ w = mod-eq_of_lt (lt_of_le_of_lt (le-add_right (x * 2 ^ w) (v j)) most) in
      rw whole (most, next)
