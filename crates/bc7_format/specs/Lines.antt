-- The lines of a block: which place is whose, what a line draws, and the pixels.
-- Assumes nothing.
use Rattle.std.specs.Prelude.{ℕ, zero, suc, ◌+◌, ◌-◌, ◌*◌, ◌/◌, ◌%◌, ◌^◌, Bool, not, List, [], eqb}
use Rattle.bc7_format.specs.declared.Place.{Place}
use Rattle.bc7_format.specs.declared.Place.TheVariants.{Lead, Value, PBit, Index}
use Rattle.bc7_format.specs.declared.Split.{Split}
use Rattle.laws.specs.Tables.{both, pick, table}
use Rattle.bc7_format.specs.Modes.{mode_of, channel_bits, index_bits, p_count}
use Rattle.bcn_format.specs.Drawing.{drawn, weight_of, promoted}
use Rattle.bc7_format.specs.Places.{inside, opened, width}
use Rattle.bc7_format.specs.Splits.{anchors, index_mode, is_vector, rotation, split_of, subset}
use Rattle.bcn_format.specs.Partitions.{first_in}

-- a line: two endpoints (0 and 1) of four channels, two p bits, an index for each pixel
pub record Line : Type 0 where
  pub value : ℕ → ℕ → ℕ
  pub p : ℕ → ℕ
  pub index : ℕ → ℕ

-- the line that a place belongs to, if it has bits (9: no line). A line is a subset; of a vector and a scalar, line 0 is the
-- vector (red, green, blue) and line 1 the scalar (alpha), and the index mode says which index set is the vector's
abbrev pub line_of_place : ℕ → Split → Place → ℕ
line_of_place m s (Lead k) = 9
line_of_place m s (Value c e) = pick (is_vector s) (pick (eqb c 3) 1 0) (e / 2)
line_of_place m s (PBit k) = pick (eqb m 1) k (k / 2)
line_of_place m s (Index a q) = pick (is_vector s) (pick (eqb a (index_mode s)) 0 1) (subset s q)

-- does line l have the place x
unfoldable pub has : ℕ → Split → ℕ → Place → Bool
has m s l x = both (inside x) (both (not (eqb (width m [] x) 0)) (eqb (line_of_place m s x) l))

-- where line l has the value of its endpoint k in channel c, its p bit k (in mode 1 one serves both endpoints), its index of pixel q
unfoldable pub value_place : Split → ℕ → ℕ → ℕ → Place
value_place s l k c = Value c (pick (is_vector s) k (2 * l + k))

unfoldable pub p_place : ℕ → ℕ → ℕ → Place
p_place m l k = PBit (pick (eqb m 1) l (2 * l + k))

unfoldable pub index_set_of : Split → ℕ → ℕ
index_set_of s l = pick (is_vector s) (pick (eqb l 0) (index_mode s) (1 - index_mode s)) 0

unfoldable pub index_place : Split → ℕ → ℕ → Place
index_place s l q = Index (index_set_of s l) q

-- what f has of line l at a place: 0 where the place is not the line's
unfoldable pub own : ℕ → Split → ℕ → (Place → ℕ) → Place → ℕ
own m s l f x = pick (has m s l x) (f x) 0

-- the line l, read
unfoldable pub line_of : ℕ → Split → ℕ → (Place → ℕ) → Line
line_of m s l f = record {
  value = λ k c. own m s l f (value_place s l k c);
  p = λ k. own m s l f (p_place m l k);
  index = λ q. own m s l f (index_place s l q);
}

-- what a line has for a place, and the places with the line l put in
unfoldable pub laid : ℕ → Line → Place → ℕ
laid m ln (Lead k) = 0
laid m ln (Value c e) = ln.value (e % 2) c
laid m ln (PBit k) = ln.p (pick (eqb m 1) 0 (k % 2))
laid m ln (Index a q) = ln.index q

unfoldable pub with_line : ℕ → Split → ℕ → Line → (Place → ℕ) → Place → ℕ
with_line m s l ln f x = pick (has m s l x) (laid m ln x) (f x)

-- how many bits a line's index has
unfoldable pub line_bits : ℕ → Split → ℕ → ℕ
line_bits m s l = index_bits m (index_set_of s l)

-- the anchor of line l
unfoldable pub anchor_of : Split → ℕ → ℕ
anchor_of s l = first_in (subset s) l (anchors s)

-- the line turned round: the endpoints exchanged, p with them, and each index i of b bits made last - i
unfoldable pub turned : ℕ → Line → Line
turned b ln = record {
  value = λ k c. ln.value (1 - k) c;
  p = λ k. ln.p (1 - k);
  index = λ q. (2 ^ b - 1) - ln.index q;
}

-- the value v of channel c of an endpoint as eight bits: p is appended as the low bit, where the mode has one, then it is promoted
unfoldable pub eight : ℕ → ℕ → ℕ → ℕ → ℕ
eight m c v p = pick (eqb (p_count m) 0) (promoted (channel_bits m c) v) (promoted (channel_bits m c + 1) (v * 2 + p))

-- what a line draws in channel c of pixel q, before rotation
unfoldable pub means_stored : ℕ → Split → ℕ → Line → ℕ → ℕ → ℕ
means_stored m s l ln q c =
    drawn (eight m c (ln.value 0 c) (ln.p 0)) (eight m c (ln.value 1 c) (ln.p 1)) (weight_of (line_bits m s l) (ln.index q))

-- the channel before rotation that is shown as channel c: rotation 1, 2, 3 swaps alpha with red, green, blue
unfoldable pub rotated : ℕ → ℕ → ℕ
rotated zero c = c
rotated (suc r) c = pick (eqb c 3) r (pick (eqb c r) 3 c)

-- the line that draws a channel (before rotation) of a pixel, and whether the mode draws that channel at all
unfoldable pub line_at : Split → ℕ → ℕ → ℕ
line_at s q c = pick (is_vector s) (pick (eqb c 3) 1 0) (subset s q)

abbrev pub is_drawn : ℕ → ℕ → Bool
is_drawn m c = not (eqb (channel_bits m c) 0)

-- does line l draw the shown channel c of pixel q, and what a line means there
unfoldable pub draws : ℕ → Split → ℕ → ℕ → ℕ → Bool
draws m s l q c = both (is_drawn m (rotated (rotation s) c)) (eqb (line_at s q (rotated (rotation s) c)) l)

unfoldable pub means_shown : ℕ → Split → ℕ → Line → ℕ → ℕ → ℕ
means_shown m s l ln q c = means_stored m s l ln q (rotated (rotation s) c)

-- channel c of pixel q: what its line means, and 255 where the mode stores no alpha
unfoldable pub shown : ℕ → Split → (Place → ℕ) → ℕ → ℕ → ℕ
shown m s f q c =
    let d = rotated (rotation s) c in
    let l = line_at s q d in
    pick (is_drawn m d) (means_stored m s l (line_of m s l f) q d) 255

-- a reserved block shows 0
unfoldable pub pixel : List ℕ → ℕ → ℕ → ℕ
pixel bs q c = pick (eqb (mode_of bs) 8) 0 (shown (mode_of bs) (split_of bs) (opened bs) q c)

-- the sixteen pixels of a block: red, green, blue, alpha
unfoldable pub pixels : List ℕ → List (List ℕ)
pixels bs = table 16 (λ q. table 4 (pixel bs q))
