-- THE CHART OF THE EIGHT MODES: at which bit each field of a block starts, and whose it is. Written down from the public pages of
-- the format, line by line; the definitions give the same numbers.
-- Assumes nothing.
use mathlib.Core.Path.{◌≡◌, refl}
use mathlib.Core.List.{List, [], ◌∷◌, map}
use Prim.Native.Nat.{ℕ}
use lib.Dec.{eqb}
use Rattle.bc7_format.specs.declared.Place.{Place}
use Rattle.bc7_format.specs.declared.Place.TheVariants.{Lead}
use Rattle.bc7_format.specs.declared.Split.{Split}
use Rattle.bc7_format.specs.declared.Split.TheVariants.{Whole, Two, Three, Vector}
use Rattle.laws.specs.Tables.{pick, table, table_from}
use Rattle.bc7_format.specs.Lines.{index_set_of, has, index_place, p_place, value_place}
use Rattle.bc7_format.specs.Modes.{endpoint_count, lines, mode_row}
use Rattle.bcn_format.specs.Partitions.{anchors2, anchors3, digits, marks, strings2, strings3, subset2, subset3}
use Rattle.bc7_format.specs.Places.{place_at, pos, start, width, widths}
use Rattle.bc7_format.specs.Splits.{anchors}

-- where the places start that line l has
starts : ℕ → Split → ℕ → List Place → List ℕ
starts m s l [] = []
starts m s l (x ∷ xs) = pick (has m s l x) (start m s (pos x) ∷ starts m s l xs) (starts m s l xs)

-- where the parts of the split start, of those that have bits
split_starts : ℕ → Split → List Place → List ℕ
split_starts m s [] = []
split_starts m s (x ∷ xs) = pick (eqb (width m (anchors s) x) 0) (split_starts m s xs) (start m s (pos x) ∷ split_starts m s xs)

-- a line: red of its first and its second endpoint, green, blue and alpha; the p bits of the two; its indexes by pixel
pub record LineChart : Type 0 where
  pub values : List ℕ
  pub ps : List ℕ
  pub indexes : List ℕ

-- a mode with a split: its partition, or its rotation and index mode; then its lines
pub record Chart : Type 0 where
  pub mode : ℕ
  pub split : Split
  pub split_bits : List ℕ
  pub of_lines : List LineChart

abbrev line : List ℕ → List ℕ → List ℕ → LineChart
line v p i = record { values = v; ps = p; indexes = i }

abbrev chart : ℕ → Split → List ℕ → List LineChart → Chart
chart m s b ls = record { mode = m; split = s; split_bits = b; of_lines = ls }

-- by the definitions
pub chart_of : ℕ → Split → Chart
chart_of m s =
    chart m s (split_starts m s (Lead 1 ∷ Lead 2 ∷ Lead 3 ∷ []))
    (table (lines m) (λ l.
    line
    (starts m s l
    (value_place s l 0 0 ∷ value_place s l 1 0 ∷ value_place s l 0 1 ∷ value_place s l 1 1 ∷
    value_place s l 0 2 ∷ value_place s l 1 2 ∷ value_place s l 0 3 ∷ value_place s l 1 3 ∷ []))
    (starts m s l (p_place m l 0 ∷ p_place m l 1 ∷ []))
    (starts m s l (table 16 (index_place s l)))))

-- by the public pages: every mode, one with partitions at partition 0, mode 4 with either index mode
abbrev pub published : List Chart
published =
    chart 0 (Three 0) (1 ∷ [])
    (line (5 ∷ 9 ∷ 29 ∷ 33 ∷ 53 ∷ 57 ∷ []) (77 ∷ 78 ∷ []) (83 ∷ 85 ∷ 93 ∷ 96 ∷ 105 ∷ [])
    ∷ line (13 ∷ 17 ∷ 37 ∷ 41 ∷ 61 ∷ 65 ∷ []) (79 ∷ 80 ∷ []) (88 ∷ 91 ∷ 99 ∷ 102 ∷ 114 ∷ [])
    ∷ line (21 ∷ 25 ∷ 45 ∷ 49 ∷ 69 ∷ 73 ∷ []) (81 ∷ 82 ∷ []) (108 ∷ 111 ∷ 117 ∷ 120 ∷ 123 ∷ 126 ∷ []) ∷ []) ∷
    chart 1 (Two 0) (2 ∷ [])
    (line (8 ∷ 14 ∷ 32 ∷ 38 ∷ 56 ∷ 62 ∷ []) (80 ∷ 80 ∷ []) (82 ∷ 84 ∷ 93 ∷ 96 ∷ 105 ∷ 108 ∷ 117 ∷ 120 ∷ [])
    ∷ line (20 ∷ 26 ∷ 44 ∷ 50 ∷ 68 ∷ 74 ∷ []) (81 ∷ 81 ∷ []) (87 ∷ 90 ∷ 99 ∷ 102 ∷ 111 ∷ 114 ∷ 123 ∷ 126 ∷ []) ∷ []) ∷
    chart 2 (Three 0) (3 ∷ [])
    (line (9 ∷ 14 ∷ 39 ∷ 44 ∷ 69 ∷ 74 ∷ []) [] (99 ∷ 100 ∷ 105 ∷ 107 ∷ 113 ∷ [])
    ∷ line (19 ∷ 24 ∷ 49 ∷ 54 ∷ 79 ∷ 84 ∷ []) [] (102 ∷ 104 ∷ 109 ∷ 111 ∷ 119 ∷ [])
    ∷ line (29 ∷ 34 ∷ 59 ∷ 64 ∷ 89 ∷ 94 ∷ []) [] (115 ∷ 117 ∷ 121 ∷ 123 ∷ 125 ∷ 127 ∷ []) ∷ []) ∷
    chart 3 (Two 0) (4 ∷ [])
    (line (10 ∷ 17 ∷ 38 ∷ 45 ∷ 66 ∷ 73 ∷ []) (94 ∷ 95 ∷ []) (98 ∷ 99 ∷ 105 ∷ 107 ∷ 113 ∷ 115 ∷ 121 ∷ 123 ∷ [])
    ∷ line (24 ∷ 31 ∷ 52 ∷ 59 ∷ 80 ∷ 87 ∷ []) (96 ∷ 97 ∷ []) (101 ∷ 103 ∷ 109 ∷ 111 ∷ 117 ∷ 119 ∷ 125 ∷ 127 ∷ []) ∷ []) ∷
    chart 4 (Vector 0 0) (5 ∷ 7 ∷ [])
    (line (8 ∷ 13 ∷ 18 ∷ 23 ∷ 28 ∷ 33 ∷ []) [] (50 ∷ 51 ∷ 53 ∷ 55 ∷ 57 ∷ 59 ∷ 61 ∷ 63 ∷ 65 ∷ 67 ∷ 69 ∷ 71 ∷ 73 ∷ 75 ∷ 77 ∷ 79 ∷ [])
    ∷ line (38 ∷ 44 ∷ []) [] (81 ∷ 83 ∷ 86 ∷ 89 ∷ 92 ∷ 95 ∷ 98 ∷ 101 ∷ 104 ∷ 107 ∷ 110 ∷ 113 ∷ 116 ∷ 119 ∷ 122 ∷ 125 ∷ []) ∷ []) ∷
    chart 4 (Vector 0 1) (5 ∷ 7 ∷ [])
    (line (8 ∷ 13 ∷ 18 ∷ 23 ∷ 28 ∷ 33 ∷ []) [] (81 ∷ 83 ∷ 86 ∷ 89 ∷ 92 ∷ 95 ∷ 98 ∷ 101 ∷ 104 ∷ 107 ∷ 110 ∷ 113 ∷ 116 ∷ 119 ∷ 122 ∷ 125 ∷ [])
    ∷ line (38 ∷ 44 ∷ []) [] (50 ∷ 51 ∷ 53 ∷ 55 ∷ 57 ∷ 59 ∷ 61 ∷ 63 ∷ 65 ∷ 67 ∷ 69 ∷ 71 ∷ 73 ∷ 75 ∷ 77 ∷ 79 ∷ []) ∷ []) ∷
    chart 5 (Vector 0 0) (6 ∷ [])
    (line (8 ∷ 15 ∷ 22 ∷ 29 ∷ 36 ∷ 43 ∷ []) [] (66 ∷ 67 ∷ 69 ∷ 71 ∷ 73 ∷ 75 ∷ 77 ∷ 79 ∷ 81 ∷ 83 ∷ 85 ∷ 87 ∷ 89 ∷ 91 ∷ 93 ∷ 95 ∷ [])
    ∷ line (50 ∷ 58 ∷ []) [] (97 ∷ 98 ∷ 100 ∷ 102 ∷ 104 ∷ 106 ∷ 108 ∷ 110 ∷ 112 ∷ 114 ∷ 116 ∷ 118 ∷ 120 ∷ 122 ∷ 124 ∷ 126 ∷ []) ∷ []) ∷
    chart 6 Whole []
    (line (7 ∷ 14 ∷ 21 ∷ 28 ∷ 35 ∷ 42 ∷ 49 ∷ 56 ∷ []) (63 ∷ 64 ∷ [])
    (65 ∷ 68 ∷ 72 ∷ 76 ∷ 80 ∷ 84 ∷ 88 ∷ 92 ∷ 96 ∷ 100 ∷ 104 ∷ 108 ∷ 112 ∷ 116 ∷ 120 ∷ 124 ∷ []) ∷ []) ∷
    chart 7 (Two 0) (8 ∷ [])
    (line (14 ∷ 19 ∷ 34 ∷ 39 ∷ 54 ∷ 59 ∷ 74 ∷ 79 ∷ []) (94 ∷ 95 ∷ []) (98 ∷ 99 ∷ 105 ∷ 107 ∷ 113 ∷ 115 ∷ 121 ∷ 123 ∷ [])
    ∷ line (24 ∷ 29 ∷ 44 ∷ 49 ∷ 64 ∷ 69 ∷ 84 ∷ 89 ∷ []) (96 ∷ 97 ∷ []) (101 ∷ 103 ∷ 109 ∷ 111 ∷ 117 ∷ 119 ∷ 125 ∷ 127 ∷ []) ∷ []) ∷
    []

pub fields_as_published : map (λ c. chart_of c.mode c.split) published ≡ published
unfolding start starts split_starts chart_of widths table table_from place_at pos width mode_row endpoint_count anchors2 anchors3 subset2 subset3 strings2
    strings3 digits marks has value_place p_place index_place index_set_of
fields_as_published = refl
