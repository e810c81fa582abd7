-- Keys made by masks, and looked up.
-- Assumes nothing.
use mathlib.Core.Path.{◌≡◌, refl, sym, ap, ap₂, ◌∙◌}
use mathlib.Core.Bool.{Bool}
use Prim.Native.Nat.{ℕ, zero, suc, ◌+◌, ◌-◌, ◌*◌, ◌/◌, ◌%◌, ◌^◌, ◌≤◌, ◌<◌}
use native.Mathlib.Nat.{lt_of_lt_of_le, mod-eq_of_lt, mod-lt}
use native.Mathlib.Omega.{arith}
use borrow.Author.Tests.{eq-eqb, ne_eqb}
use lib.Arith.{digits_lt}
use lib.Bits.{bit_and}
use lib.Dec.{eqb}
use lib.Pow.{mod-mod-pow, pow-add, pow_mono, pow_pos, shr-shr}
use Rattle.laws.specs.Digits.{evenly}
use Rattle.laws.specs.Tables.{pick, table, table_from}
use Rattle.laws.proofs.Evenly.{evenly_linear, evenly_mask, evenly_part, evenly_same}
use Rattle.bcn_format.specs.Block.{field}
use Rattle.bcn_format.specs.Indexes.{part}
use Rattle.drawing.specs.declared.keys.Keys.{Keys}
use Rattle.drawing.specs.Keys.{every_other, key_at, key_of, keys_of}

-- ones in the lower half of each field of 2 * w bits
abbrev pub evens : ℕ → ℕ
evens w = evenly 8 (2 * w) (λ i. 2 ^ w - 1)

-- that number as the code computes it, and that it is within 48 bits
pub computed_evens : (w : ℕ) → w ≤ 3 → (1 * 2 ^ (16 * w) % 2 ^ 64 - 1) / (1 * 2 ^ w % 2 ^ 64 + 1) ≡ evens w
unfolding evenly table table_from
computed_evens zero h = refl
computed_evens (suc zero) h = refl
computed_evens (suc (suc zero)) h = refl
computed_evens (suc (suc (suc zero))) h = refl
computed_evens (suc (suc (suc (suc w)))) h = absurd (let z : ⊥ = omega arith in z)

pub evens_lt : (w : ℕ) → w ≤ 3 → evens w < 2 ^ 48
unfolding evenly table table_from
evens_lt zero h = omega arith
evens_lt (suc zero) h = omega arith
evens_lt (suc (suc zero)) h = omega arith
evens_lt (suc (suc (suc zero))) h = omega arith
evens_lt (suc (suc (suc (suc w)))) h = absurd (let z : ⊥ = omega arith in z)

-- they take every other field of w bits
every_other_is : (w o x : ℕ) → bit_and (x / 2 ^ (o * w)) (evens w) ≡ evenly 8 (2 * w) (λ i. part x w (2 * i + o))
unfolding field
every_other_is w o x =
    evenly_mask 8 (2 * w) w (omega arith) (x / 2 ^ (o * w))
    ∙ evenly_same 8 (2 * w) _ _ (λ i l.
    let place : o * w + i * (2 * w) ≡ (2 * i + o) * w = omega arith in
    ap (λ (y : ℕ). y % 2 ^ w) (shr-shr x (o * w) (i * (2 * w)) ∙ ap (λ (y : ℕ). x / 2 ^ y) place))

pub keys_word : (w s x map o : ℕ) → bit_and (x / 2 ^ (o * w)) (evens w) * 2 ^ s + bit_and (map / 2 ^ (o * w)) (evens w) ≡ every_other w s x map o
keys_word w s x map o =
    ap₂ (λ (y z : ℕ). y * 2 ^ s + z) (every_other_is w o x) (every_other_is w o map)
    ∙ evenly_linear 8 (2 * w) (2 ^ s) (λ i. part x w (2 * i + o)) (λ i. part map w (2 * i + o))

-- the key of a pixel is looked up in the word of the even ones or of the odd
module _ (w s : ℕ) (keys : Keys) (i : ℕ) where
  pub even : key_at w s keys (2 * i) ≡ keys.even / 2 ^ (i * (2 * w)) % 2 ^ (w + s)
  unfolding key_at
  even =
      let e : 2 * i % 2 ≡ 0 = omega arith in
      let half : 2 * i / 2 ≡ i = omega arith in
      rw (eq-eqb (2 * i % 2) 0 e, half)

  pub odd : key_at w s keys (2 * i + 1) ≡ keys.odd / 2 ^ (i * (2 * w)) % 2 ^ (w + s)
  unfolding key_at
  odd =
      let half : (2 * i + 1) / 2 ≡ i = omega arith in
      rw (ne_eqb ((2 * i + 1) % 2) 0 (λ z. omega arith), half)

-- where every subset is below 2 ^ s, that is the key that was made
module _ (w s x map : ℕ) (room : s ≤ w) (small : (q : ℕ) → q < 16 → part map w q < 2 ^ s) where
  key_lt : (q : ℕ) → q < 16 → key_of w s x map q < 2 ^ (w + s)
  unfolding field
  key_lt q h = rw (pow-add 2 w s) (digits_lt (mod-lt (x / 2 ^ (q * w)) (pow_pos w)) (small q h))

  read_back : (o i : ℕ) → o < 2 → i < 8 → every_other w s x map o / 2 ^ (i * (2 * w)) % 2 ^ (w + s) ≡ key_of w s x map (2 * i + o)
  read_back o i ho hi =
      let whole : w - s + (w + s) ≡ 2 * w = omega arith in
      let y : ℕ = every_other w s x map o / 2 ^ (i * (2 * w)) in
      sym (mod-mod-pow y (w - s) (w + s))
      ∙ ap (λ (k : ℕ). y % 2 ^ k % 2 ^ (w + s)) whole
      ∙ ap (λ (k : ℕ). k % 2 ^ (w + s)) (evenly_part 8 (2 * w) (λ i. key_of w s x map (2 * i + o))
      (λ j l. lt_of_lt_of_le (key_lt (2 * j + o) (omega arith)) (pow_mono (omega arith))) i hi)
      ∙ mod-eq_of_lt (key_lt (2 * i + o) (omega arith))

  pub key_at_is : (q : ℕ) → q < 16 → key_at w s (keys_of w s x map) q ≡ key_of w s x map q
  unfolding key_at
  key_at_is q h = go (q % 2) refl
    where
      of : Bool → ℕ
      of b = pick b (every_other w s x map 0) (every_other w s x map 1) / 2 ^ (q / 2 * (2 * w)) % 2 ^ (w + s)

      go : (o : ℕ) → q % 2 ≡ o → of (eqb (q % 2) 0) ≡ key_of w s x map q
      go zero e =
          let z : 2 * (q / 2) + 0 ≡ q = omega arith in
          ap of (eq-eqb (q % 2) 0 e) ∙ read_back 0 (q / 2) (omega arith) (omega arith) ∙ ap (key_of w s x map) z
      go (suc zero) e =
          let z : 2 * (q / 2) + 1 ≡ q = omega arith in
          ap of (ne_eqb (q % 2) 0 (λ y. omega arith)) ∙ read_back 1 (q / 2) (omega arith) (omega arith) ∙ ap (key_of w s x map) z
      go (suc (suc o)) e = absurd (let z : ⊥ = omega arith in z)
