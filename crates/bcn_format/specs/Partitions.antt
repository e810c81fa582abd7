-- The partitions, as document 002 writes them: sixteen digits, a pixel's subset each, and a dash before a pixel that is an
-- anchor. Pixel 0 is always one and has no dash.
-- Assumes nothing.
use Rattle.std.specs.Prelude.{ℕ, suc, ◌-◌, ◌<◌, ◌≡◌, Bool, true, false, List, [], ◌∷◌, T, eqb, get_or}
use Prim.Native.Char.{code}
use Prim.Native.String.{String, [] as empty, ◌∷◌ as ◌then◌}
use Rattle.laws.specs.Tables.{pick}

unfoldable pub strings2 : List String
strings2 =
    "001100110011001-1" ∷
    "000100010001000-1" ∷
    "011101110111011-1" ∷
    "000100110011011-1" ∷
    "000000010001001-1" ∷
    "001101110111111-1" ∷
    "000100110111111-1" ∷
    "000000010011011-1" ∷
    "000000000001001-1" ∷
    "001101111111111-1" ∷
    "000000010111111-1" ∷
    "000000000001011-1" ∷
    "000101111111111-1" ∷
    "000000001111111-1" ∷
    "000011111111111-1" ∷
    "000000000000111-1" ∷
    "000010001110111-1" ∷
    "01-11000100000000" ∷
    "00000000-10001110" ∷
    "01-11001100010000" ∷
    "00-11000100000000" ∷
    "00001000-11001110" ∷
    "00000000-10001100" ∷
    "011100110011000-1" ∷
    "00-11000100010000" ∷
    "00001000-10001100" ∷
    "01-10011001100110" ∷
    "00-11011001101100" ∷
    "00010111-11101000" ∷
    "00001111-11110000" ∷
    "01-11000110001110" ∷
    "00-11100110011100" ∷
    "010101010101010-1" ∷
    "000011110000111-1" ∷
    "010110-1001011010" ∷
    "00110011-11001100" ∷
    "00-11110000111100" ∷
    "01010101-10101010" ∷
    "011010010110100-1" ∷
    "010110101010010-1" ∷
    "01-11001111001110" ∷
    "00010011-11001000" ∷
    "00-11001001001100" ∷
    "00-11101111011100" ∷
    "01-10100110010110" ∷
    "001111001100001-1" ∷
    "011001101001100-1" ∷
    "000001-1001100000" ∷
    "010011-1001000000" ∷
    "00-10011100100000" ∷
    "000000-1001110010" ∷
    "00000100-11100100" ∷
    "011011001001001-1" ∷
    "001101101100100-1" ∷
    "01-10001110011100" ∷
    "00-11100111000110" ∷
    "011011001100100-1" ∷
    "011000110011100-1" ∷
    "011111101000000-1" ∷
    "000110001110011-1" ∷
    "000011110011001-1" ∷
    "00-11001111110000" ∷
    "00-10001011101110" ∷
    "010001000111011-1" ∷
    []

unfoldable pub strings3 : List String
strings3 =
    "001-100110221222-2" ∷
    "000-10011-22112221" ∷
    "00002001-2211221-1" ∷
    "022-200220011011-1" ∷
    "00000000-1122112-2" ∷
    "001-100110022002-2" ∷
    "002-200221111111-1" ∷
    "00110011-2211221-1" ∷
    "00000000-1111222-2" ∷
    "00001111-1111222-2" ∷
    "000011-112222222-2" ∷
    "001200-120012001-2" ∷
    "011201-120112011-2" ∷
    "01220-1220122012-2" ∷
    "001-101121122122-2" ∷
    "001-12001-22002220" ∷
    "000-100110112112-2" ∷
    "011-10011-20012200" ∷
    "00001122-1122112-2" ∷
    "002-200220022111-1" ∷
    "011-101110222022-2" ∷
    "000-10001-22212221" ∷
    "000000-110122012-2" ∷
    "00001100-22-102210" ∷
    "012-20-12200110000" ∷
    "00120012-1122222-2" ∷
    "011012-21-12210110" ∷
    "000001-1012-211221" ∷
    "00221102-1102002-2" ∷
    "01100-1102002222-2" ∷
    "0011012201-22001-1" ∷
    "00002000-2211222-1" ∷
    "00000002-1122122-2" ∷
    "022-200220012001-1" ∷
    "001-100120022022-2" ∷
    "01200-12001-200120" ∷
    "000011-1122-220000" ∷
    "01201201-20-120120" ∷
    "01202012-1-2010120" ∷
    "0011220011-22001-1" ∷
    "001111-222200001-1" ∷
    "010-101012222222-2" ∷
    "00000000-2121212-1" ∷
    "00221-1220022112-2" ∷
    "002-200110022001-1" ∷
    "022012-210220122-1" ∷
    "010122-222222010-1" ∷
    "00002121-2121212-1" ∷
    "010-101010101222-2" ∷
    "022-201110222011-1" ∷
    "00021-1120002111-2" ∷
    "00002-1122112211-2" ∷
    "02220-1110111022-2" ∷
    "00021112-1112000-2" ∷
    "01100-1100110222-2" ∷
    "0000000021-12211-2" ∷
    "01100-1102222222-2" ∷
    "0022001100-11002-2" ∷
    "00221122-1122002-2" ∷
    "0000000000002-11-2" ∷
    "000-200010002000-1" ∷
    "022212220222-122-2" ∷
    "010-122222222222-2" ∷
    "011-12011-22012220" ∷
    []

-- the digits, without the dashes (45 is the dash, 48 the digit 0)
unfoldable pub digits : String → List ℕ
digits empty = []
digits (c then s) = pick (eqb (code c) 45) (digits s) ((code c - 48) ∷ digits s)

-- the pixels that a dash stands before; i is the number of digits passed
unfoldable pub marks : ℕ → String → List ℕ
marks i empty = []
marks i (c then s) = pick (eqb (code c) 45) (i ∷ marks i s) (marks (suc i) s)

-- the subset of pixel q in partition a
unfoldable pub subset2 : ℕ → ℕ → ℕ
subset2 a q = get_or (digits (get_or strings2 a "")) q 0

unfoldable pub subset3 : ℕ → ℕ → ℕ
subset3 a q = get_or (digits (get_or strings3 a "")) q 0

-- the anchors of a partition: pixel 0, then the marked ones, in the order of the pixels and not of the subsets
unfoldable pub anchors2 : ℕ → List ℕ
anchors2 a = 0 ∷ marks 0 (get_or strings2 a "")

unfoldable pub anchors3 : ℕ → List ℕ
anchors3 a = 0 ∷ marks 0 (get_or strings3 a "")

-- how often a number stands in a list: of the digits, how many pixels a subset has
abbrev pub how_many : ℕ → List ℕ → ℕ
how_many k [] = 0
how_many k (d ∷ ds) = pick (eqb d k) (suc (how_many k ds)) (how_many k ds)

abbrev pub or : Bool → Bool → Bool
or true b = true
or false b = b

-- is the number among those of the list
abbrev pub among : ℕ → List ℕ → Bool
among i [] = false
among i (a ∷ rest) = or (eqb i a) (among i rest)

-- of the pixels of subset k exactly one is an anchor
pub record OneAnchor (marked : List ℕ) (subset_of : ℕ → ℕ) (k : ℕ) : Type 0 where
  pub at : ℕ
  pub below : at < 16
  pub is : T (among at marked)
  pub inside : subset_of at ≡ k
  pub only : (b : ℕ) → b < 16 → T (among b marked) → subset_of b ≡ k → b ≡ at

-- the first of the list that lies in subset k
abbrev pub first_in : (ℕ → ℕ) → ℕ → List ℕ → ℕ
first_in sub k [] = 0
first_in sub k (a ∷ rest) = pick (eqb (sub a) k) a (first_in sub k rest)

-- the anchor of subset k of partition a
abbrev pub anchor2 : ℕ → ℕ → ℕ
anchor2 a k = first_in (subset2 a) k (anchors2 a)

abbrev pub anchor3 : ℕ → ℕ → ℕ
anchor3 a k = first_in (subset3 a) k (anchors3 a)
