-- Which answer a call gets, in document 01's words.
-- Assumes nothing.
use Rattle.std.specs.Prelude.{◌≡◌, ◌≢◌, List, [], ◌∷◌, ℕ, ◌^◌, ◌<◌, eqb, get_or}
use Rattle.bc7_format.specs.declared.Split.{Split}
use Rattle.laws.specs.Refusals.{Rule, unless}
use Rattle.laws.specs.Tables.{pick}
use Rattle.bc7_format.specs.Modes.{mode_of, channel_bits, lines, p_count}
use Rattle.bc7_format.specs.Lines.{Line, index_place, line_bits, p_place, value_place}
use Rattle.bc7_format.specs.Splits.{is_vector, split_of, subset}
use Rattle.line_rules.specs.Replace.{Call, own_width}

-- every value is within the width that it has in line l
pub record WithinLine (m : ℕ) (s : Split) (l : ℕ) (ln : Line) : Type 0 where
  pub value : (k c : ℕ) → k < 2 → c < 4 → ln.value k c < 2 ^ own_width m s l (value_place s l k c)
  pub p : (k : ℕ) → k < 2 → ln.p k < 2 ^ own_width m s l (p_place m l k)
  pub index : (q : ℕ) → q < 16 → ln.index q < 2 ^ own_width m s l (index_place s l q)

-- what those widths are. Of a vector and a scalar, the vector has red, green and blue, and the scalar alpha; a subset has all
-- channels of the mode, of which alpha may have no bits. A p bit has one bit, where the mode has p bits at all. An index has the
-- line's width, at the pixels of the line
pub record OwnWidths (m : ℕ) (s : Split) (l : ℕ) : Type 0 where
  pub value : (k c : ℕ) → k < 2 → c < 4
      → own_width m s l (value_place s l k c) ≡ pick (is_vector s) (pick (eqb (pick (eqb c 3) 1 0) l) (channel_bits m c) 0) (channel_bits m c)
  pub p : (k : ℕ) → k < 2 → own_width m s l (p_place m l k) ≡ pick (eqb (p_count m) 0) 0 1
  pub index : (q : ℕ) → q < 16
      → own_width m s l (index_place s l q) ≡ pick (is_vector s) (line_bits m s l) (pick (eqb (subset s q) l) (line_bits m s l) 0)

-- a line that a block of mode m and split s takes: its number is below the mode's count, and in mode 1 its p bits are equal
pub record Acceptable (m : ℕ) (s : Split) (l : ℕ) (ln : Line) : Type 0 where
  pub line : l < lines m
  pub within : WithinLine m s l ln
  pub same_p : m ≡ 1 → ln.p 0 ≡ ln.p 1

-- the rules of a call on a block: it gets the number of the first that it breaks
abbrev pub line_rules : ℕ → Split → ℕ → Line → List Rule
line_rules m s l ln = unless 2 (l < lines m) ∷ unless 3 (WithinLine m s l ln) ∷ unless 4 (m ≡ 1 → ln.p 0 ≡ ln.p 1) ∷ []

abbrev pub call_rules : List ℕ → Call → List Rule
call_rules bs c = unless 1 (get_or bs 0 0 ≢ 0) ∷ line_rules (mode_of bs) (split_of bs) c.line c.given
