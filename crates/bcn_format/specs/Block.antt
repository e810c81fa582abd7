-- A block of sixteen bytes: as a number, as a list of 128 bits, and among other bytes.
-- Assumes nothing.
use Rattle.std.specs.Prelude.{ℕ, zero, suc, ◌+◌, ◌*◌, ◌/◌, ◌%◌, ◌^◌, List, [], ◌∷◌, ◌++◌, eqb, drop, get_or, replicate, take}
use Rattle.laws.specs.Digits.{join, split}
use Rattle.laws.specs.Tables.{over, pick}

-- the widths of sixteen bytes: `Fit eights bs` says that bs is a block
abbrev pub eights : List ℕ
eights = replicate 16 8

-- byte 0 is the lowest
unfoldable pub number : List ℕ → ℕ
number bs = join eights bs

unfoldable pub bytes_of : ℕ → List ℕ
bytes_of n = split eights n

-- the k low bits of a number, lowest first, and the number that a list of bits makes
abbrev pub bits_of : ℕ → ℕ → List ℕ
bits_of zero n = []
bits_of (suc k) n = n % 2 ∷ bits_of k (n / 2)

abbrev pub value_of_bits : List ℕ → ℕ
value_of_bits [] = 0
value_of_bits (b ∷ bs) = value_of_bits bs * 2 + b

-- the bits of bytes: byte 0 first, low bit first
abbrev pub bits_of_bytes : List ℕ → List ℕ
bits_of_bytes [] = []
bits_of_bytes (b ∷ bs) = bits_of 8 b ++ bits_of_bytes bs

-- the w bits of a number from bit s on
unfoldable pub field : ℕ → ℕ → ℕ → ℕ
field n s w = n / 2 ^ s % 2 ^ w

-- how many zero bits a number ends in, k at the most
unfoldable pub trailing : ℕ → ℕ → ℕ
trailing zero b = 0
trailing (suc k) b = pick (eqb (b % 2) 0) (suc (trailing k (b / 2))) 0

-- the block that stands at a place of a list of bytes, and the list with a block stored there
unfoldable pub block_at : List ℕ → ℕ → List ℕ
block_at s at = take 16 (drop at s)

unfoldable pub put_block : List ℕ → ℕ → List ℕ → List ℕ
put_block s at block = over s at 16 (λ j. get_or block j 0)
