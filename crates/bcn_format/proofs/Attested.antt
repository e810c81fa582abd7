-- WHAT HOLDS THE DEFINITIONS OF BITS AND DRAWING: numbers that a reader can check on paper. (Printed has the partitions.)
-- Assumes nothing.
use mathlib.Core.Path.{◌≡◌, refl}
use mathlib.Core.List.{List, [], ◌∷◌, ◌++◌, map}
use Prim.Native.Nat.{ℕ, ◌+◌, ◌-◌, ◌*◌, ◌/◌, ◌^◌}
use lib.Dec.{T, eqb}
use lib.ListN.{replicate}
use Rattle.laws.specs.Tables.{below, over}
use Rattle.bcn_format.specs.Block.{bits_of, bits_of_bytes, block_at, bytes_of, field, number, put_block, trailing, value_of_bits}
use Rattle.bcn_format.specs.Drawing.{promoted, weight_of, weights}

-- byte 0 first, low bit first
pub record Bits : Type 0 where
  pub of_number : bits_of 8 0b01010011 ≡ 1 ∷ 1 ∷ 0 ∷ 0 ∷ 1 ∷ 0 ∷ 1 ∷ 0 ∷ []
  pub to_number : value_of_bits (1 ∷ 1 ∷ 0 ∷ 0 ∷ 1 ∷ 0 ∷ 1 ∷ 0 ∷ []) ≡ 0b01010011
  pub of_bytes : bits_of_bytes (0x53 ∷ 0x80 ∷ []) ≡ 1 ∷ 1 ∷ 0 ∷ 0 ∷ 1 ∷ 0 ∷ 1 ∷ 0 ∷ 0 ∷ 0 ∷ 0 ∷ 0 ∷ 0 ∷ 0 ∷ 0 ∷ 1 ∷ []
  pub block_number : number (0x53 ∷ 0x80 ∷ (replicate 13 0 ++ (0x01 ∷ []))) ≡ 0x01000000000000000000000000008053
  pub number_block : bytes_of 0x01000000000000000000000000008053 ≡ 0x53 ∷ 0x80 ∷ (replicate 13 0 ++ (0x01 ∷ []))
  pub some_bits : field 0b11010110 2 3 ≡ 0b101

pub bits_hold : Bits
unfolding number bytes_of field trailing
bits_hold = record { of_number = refl; to_number = refl; of_bytes = refl; block_number = refl; number_block = refl; some_bits = refl }

-- the block at place 1 of eighteen bytes, and another stored over it
abbrev around : List ℕ → List ℕ
around block = 101 ∷ (block ++ (118 ∷ []))

abbrev sixteen : List ℕ
sixteen = 2 ∷ 3 ∷ 4 ∷ 5 ∷ 6 ∷ 7 ∷ 8 ∷ 9 ∷ 10 ∷ 11 ∷ 12 ∷ 13 ∷ 14 ∷ 15 ∷ 16 ∷ 17 ∷ []

pub among_bytes : (block_at (around sixteen) 1 ≡ sixteen) × (put_block (around (replicate 16 0)) 1 sixteen ≡ around sixteen)
unfolding block_at put_block over
among_bytes = (refl, refl)

-- a weight is 64 · i / last, rounded: all 28, at the widths 2, 3 and 4
abbrev rounded : ℕ → ℕ → ℕ
rounded i last = (2 * 64 * i + last) / (2 * last)

pub weights_are_rounded : T (below 3 (λ b. below (2 ^ (b + 2)) (λ i. eqb (weight_of (b + 2) i) (rounded i (2 ^ (b + 2) - 1)))))
unfolding weight_of weights
weights_are_rounded = tt

-- promotion at the widths 4 to 8: of 0, of 1, of the top bit alone, of all ones
pub promotions : map (λ (b : ℕ). map (promoted b) (0 ∷ 1 ∷ (2 ^ (b - 1)) ∷ (2 ^ b - 1) ∷ [])) (4 ∷ 5 ∷ 6 ∷ 7 ∷ 8 ∷ [])
    ≡ (0b00000000 ∷ 0b00010001 ∷ 0b10001000 ∷ 0b11111111 ∷ []) ∷
    (0b00000000 ∷ 0b00001000 ∷ 0b10000100 ∷ 0b11111111 ∷ []) ∷
    (0b00000000 ∷ 0b00000100 ∷ 0b10000010 ∷ 0b11111111 ∷ []) ∷
    (0b00000000 ∷ 0b00000010 ∷ 0b10000001 ∷ 0b11111111 ∷ []) ∷
    (0b00000000 ∷ 0b00000001 ∷ 0b10000000 ∷ 0b11111111 ∷ []) ∷
    []
unfolding promoted
promotions = refl
