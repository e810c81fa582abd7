-- The key of a pixel: its index of w bits, and below it its subset of s bits.
-- Assumes nothing.
use Rattle.std.specs.Prelude.{ℕ, ◌+◌, ◌*◌, ◌/◌, ◌%◌, ◌^◌, eqb}
use Rattle.laws.specs.Digits.{evenly}
use Rattle.laws.specs.Tables.{pick}
use Rattle.bcn_format.specs.Indexes.{part}
use Rattle.drawing.specs.declared.keys.Keys.{Keys}

-- from a word of indexes and a map, both of w bits a pixel
abbrev pub key_of : ℕ → ℕ → ℕ → ℕ → ℕ → ℕ
key_of w s x map q = part x w q * 2 ^ s + part map w q

-- of every other pixel from o on, in 2 * w bits each
abbrev pub every_other : ℕ → ℕ → ℕ → ℕ → ℕ → ℕ
every_other w s x map o = evenly 8 (2 * w) (λ i. key_of w s x map (2 * i + o))

abbrev pub keys_of : ℕ → ℕ → ℕ → ℕ → Keys
keys_of w s x map = record { even = every_other w s x map 0; odd = every_other w s x map 1 }

-- the key of pixel q, as it is looked up
unfoldable pub key_at : ℕ → ℕ → Keys → ℕ → ℕ
key_at w s keys q = pick (eqb (q % 2) 0) keys.even keys.odd / 2 ^ (q / 2 * (2 * w)) % 2 ^ (w + s)
