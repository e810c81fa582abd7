-- What the tables hold: a string's digits in one number, and the pixels that it marks.
-- Assumes nothing.
use Rattle.std.specs.Prelude.{ℕ, List, get_or, replicate}
use Prim.Native.String.{String}
use Rattle.partitions.specs.declared.Subset2Map.{Subset2Map}
use Rattle.partitions.specs.declared.Subset3Map.{Subset3Map}
use Rattle.partitions.specs.declared.Fixups.{Fixups}
use Rattle.laws.specs.Digits.{join, split}
use Rattle.bcn_format.specs.Partitions.{digits, marks, strings2, strings3}

-- the subsets of the sixteen pixels in a word, b bits each, that of pixel 0 lowest
unfoldable pub subsets : ℕ → ℕ → List ℕ
subsets b word = split (replicate 16 b) word

-- the map that a string says, and that of a partition
abbrev pub map_of2 : String → Subset2Map
map_of2 s = record { subset_indexes = join (replicate 16 1) (digits s); fixup_index_2 = get_or (marks 0 s) 0 0 }

abbrev pub map_of3 : String → Subset3Map
map_of3 s =
    record { subset_indexes = join (replicate 16 2) (digits s); fixup_index_2 = get_or (marks 0 s) 0 0; fixup_index_3 = get_or (marks 0 s) 1 0 }

unfoldable pub map2 : ℕ → Subset2Map
map2 a = map_of2 (get_or strings2 a "")

unfoldable pub map3 : ℕ → Subset3Map
map3 a = map_of3 (get_or strings3 a "")

abbrev pub fixups3 : ℕ → Fixups
fixups3 a = record { fixup_index_2 = (map3 a).fixup_index_2; fixup_index_3 = (map3 a).fixup_index_3 }
