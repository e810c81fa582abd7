-- Numbers of four bytes, read and laid out.
-- Assumes nothing.
use mathlib.Core.Path.{◌≡◌}
use mathlib.Core.List.{List, [], ◌∷◌}
use Prim.Native.Nat.{ℕ, ◌+◌, ◌*◌}
use native.Mathlib.Nat.{add-zero}
use native.Mathlib.Omega.{arith}
use lib.ListN.{get_or}
use Rattle.head_rules.specs.Answers.{Head}
use Rattle.head_rules.specs.Geometry.{blocks_of}
use Rattle.laws.specs.Digits.{evenly}
use Rattle.laws.specs.Tables.{table, table_from}
use Rattle.dds_rules.specs.Header.{entries, format_of, header_number, number_at}

pub four_bytes : (bs : List ℕ) (at : ℕ)
    → get_or bs at 0 + 256 * get_or bs (at + 1) 0 + 65536 * get_or bs (at + 2) 0 + 16777216 * get_or bs (at + 3) 0 ≡ number_at bs at
unfolding number_at evenly table table_from
four_bytes bs at = rw (add-zero at) (omega arith)

-- the numbers of a header, whose linear size and format are given
pub numbers_laid : (h : Head) (n f : ℕ) → n ≡ 16 * blocks_of h → f ≡ format_of h.colour_space
    → 0x20534444 ∷ 124 ∷ 0x81007 ∷ h.height ∷ h.width ∷ n ∷ 0 ∷ 1 ∷ 0 ∷ 0 ∷ 0 ∷ 0 ∷ 0 ∷ 0 ∷ 0 ∷ 0 ∷ 0 ∷ 0 ∷ 0 ∷ 32 ∷ 4 ∷ 0x30315844 ∷
    0 ∷ 0 ∷ 0 ∷ 0 ∷ 0 ∷ 0x1000 ∷ 0 ∷ 0 ∷ 0 ∷ 0 ∷ f ∷ 3 ∷ 0 ∷ 1 ∷ 0 ∷ [] ≡ table 37 (header_number h)
unfolding table table_from header_number entries
numbers_laid h n f e k = rw (e, k)
