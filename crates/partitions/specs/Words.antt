-- A partition in one word.
-- Assumes nothing.
use Rattle.std.specs.Prelude.{ℕ, ◌+◌, ◌*◌, ◌/◌, ◌%◌, ◌^◌, [], ◌∷◌, get_or, replicate}
use Prim.Native.String.{String}
use Rattle.laws.specs.Digits.{join}
use Rattle.bcn_format.specs.Partitions.{digits, marks, strings2, strings3}

-- what a string says, in one word: the subset of each pixel in w bits, and from bit 48 on the anchors behind pixel 0 in four
unfoldable pub partition_word : ℕ → String → ℕ
partition_word w s = join (4 ∷ 4 ∷ []) (marks 0 s) * 2 ^ 48 + join (replicate 16 w) (digits s)

abbrev pub partition_word2 : ℕ → ℕ → ℕ
partition_word2 w a = partition_word w (get_or strings2 a "")

abbrev pub partition_word3 : ℕ → ℕ → ℕ
partition_word3 w a = partition_word w (get_or strings3 a "")

-- the anchors behind pixel 0, out of that word: the one of two subsets, and both of three
abbrev pub anchor_in2 : ℕ → ℕ
anchor_in2 word = word / 2 ^ 48

abbrev pub second_in3 : ℕ → ℕ
second_in3 word = word / 2 ^ 48 % 16

abbrev pub third_in3 : ℕ → ℕ
third_in3 word = word / 2 ^ 52
