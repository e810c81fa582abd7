-- Bits put together by shifts, masks and `|`: computed at each of their values.
-- Assumes nothing.
use mathlib.Core.Path.{◌≡◌, ◌∙◌, ap}
use mathlib.Core.Bool.{Bool}
use Prim.Native.Nat.{ℕ, ◌+◌, ◌*◌, ◌/◌, ◌%◌, ◌^◌, ◌<◌}
use native.Mathlib.Omega.{arith}
use lib.Bits.{bit_and, bit_or, and_mask}
use lib.Pow.{field, shr-shr}
use lib.Dec.{T, eqb, eqb→eq}
use Rattle.laws.specs.Tables.{below}
use Rattle.laws.proofs.Tests.{at}
use Rattle.tile_rules.specs.Tiles.{slot_in, row_of_slot}
use Rattle.tiles.specs.Parts.{drawn, spread}

-- three bits put at 4, 2 and 0, and at 2, 1 and 0
test_spread : ℕ → ℕ → ℕ → Bool
test_spread a b d = eqb (bit_or (bit_or (a * 2 ^ 4 % 2 ^ 8) (b * 2 ^ 2 % 2 ^ 8)) d) (d + 4 * b + 16 * a)

test_drawn : ℕ → ℕ → ℕ → Bool
test_drawn a b d = eqb (bit_or (bit_or (a * 2 ^ 2 % 2 ^ 8) (b * 2 ^ 1 % 2 ^ 8)) d) (d + 2 * b + 4 * a)

bits : (ℕ → ℕ → ℕ → Bool) → Bool
bits t = below 2 (λ a. below 2 (λ b. below 2 (t a b)))

at_bits : (t : ℕ → ℕ → ℕ → Bool) → T (bits t) → (a b d : ℕ) → a < 2 → b < 2 → d < 2 → T (t a b d)
unfolding bits
at_bits t h a b d la lb ld = at 2 (t a b) (at 2 (λ b. below 2 (t a b)) (at 2 (λ a. below 2 (λ b. below 2 (t a b))) h a la) b lb) d ld

each_spread : T (bits test_spread)
unfolding bits test_spread
each_spread = tt

each_drawn : T (bits test_drawn)
unfolding bits test_drawn
each_drawn = tt

module _ (v : ℕ) where
  low : v % 2 < 2
  low = omega arith

  pub spread_is : bit_or (bit_or (bit_and (v / 2 ^ 2) 1 * 2 ^ 4 % 2 ^ 8) (bit_and (v / 2 ^ 1) 1 * 2 ^ 2 % 2 ^ 8)) (bit_and v 1) ≡ spread v
  unfolding test_spread
  spread_is =
      rw (and_mask (v / 2 ^ 2) 1, and_mask (v / 2 ^ 1) 1, and_mask v 1)
      (eqb→eq _ (v % 2 + 4 * (v / 2 % 2) + 16 * (v / 4 % 2))
      (at_bits test_spread each_spread (v / 4 % 2) (v / 2 % 2) (v % 2) (omega arith) (omega arith) low))

  pub drawn_is : bit_or (bit_or (bit_and (v / 2 ^ 4) 1 * 2 ^ 2 % 2 ^ 8) (bit_and (v / 2 ^ 2) 1 * 2 ^ 1 % 2 ^ 8)) (bit_and v 1) ≡ drawn v
  unfolding test_drawn
  drawn_is =
      rw (and_mask (v / 2 ^ 4) 1, and_mask (v / 2 ^ 2) 1, and_mask v 1)
      (eqb→eq _ (v % 2 + 2 * (v / 4 % 2) + 4 * (v / 16 % 2))
      (at_bits test_drawn each_drawn (v / 16 % 2) (v / 4 % 2) (v % 2) (omega arith) (omega arith) low))

-- two spread numbers, one a bit further up
woven : ℕ → ℕ → Bool
woven x y = eqb (bit_or (spread y * 2 ^ 1 % 2 ^ 8) (spread x)) (spread x + 2 * spread y)

each_woven : T (below 8 (λ x. below 8 (woven x)))
unfolding woven
each_woven = tt

low_two : (v : ℕ) → v % 4 % 2 ≡ v % 2
low_two v = omega arith

spread_low : (v : ℕ) → spread (v % 8) ≡ spread v
spread_low v =
    let a : v % 8 % 2 ≡ v % 2 = omega arith in
    let b : v % 8 / 2 % 2 ≡ v / 2 % 2 = ap (λ (n : ℕ). n % 2) (field v 2 1) ∙ low_two (v / 2) in
    let d : v % 8 / 4 % 2 ≡ v / 4 % 2 = omega (arith, field v 1 2) in
    rw (a, b, d)

pub woven_is : (x y : ℕ) → bit_or (spread y * 2 ^ 1 % 2 ^ 8) (spread x) ≡ spread x + 2 * spread y
unfolding woven
woven_is x y =
    rw (spread_low, spread_low) at
    (eqb→eq (bit_or (spread (y % 8) * 2 ^ 1 % 2 ^ 8) (spread (x % 8))) (spread (x % 8) + 2 * spread (y % 8))
    (at 8 (woven (x % 8)) (at 8 (λ x. below 8 (woven x)) each_woven (x % 8) (omega arith)) (y % 8) (omega arith)))

pub woven_slot : (x y : ℕ) → spread x + 2 * spread y ≡ slot_in x y
unfolding slot_in
woven_slot x y = omega arith

pub odd_bits : (p : ℕ) → drawn (p / 2 ^ 1) ≡ row_of_slot p
unfolding row_of_slot
odd_bits p =
    let a : p / 2 / 4 % 2 ≡ p / 8 % 2 = ap (λ (n : ℕ). n % 2) (shr-shr p 1 2) in
    let b : p / 2 / 16 % 2 ≡ p / 32 % 2 = ap (λ (n : ℕ). n % 2) (shr-shr p 1 4) in
    rw (a, b)
