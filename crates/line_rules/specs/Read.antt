-- Reading a line: what is refused, what is answered.
-- Assumes nothing.
use Rattle.std.specs.Prelude.{◌≢◌, Bool, not, List, [], ◌∷◌, ℕ, ◌+◌, ◌-◌, ◌/◌, ◌%◌, ◌^◌, ◌<◌, ◌≤◌, eqb, ltb, get_or}
use Rattle.line_rules.specs.declared.Replacement.{Replacement}
use Rattle.line_rules.specs.declared.LineRead.{LineRead}
use Rattle.refusals.specs.Answers.{Answer}
use Rattle.bc7_format.specs.declared.Split.{Split}
use Rattle.laws.specs.Refusals.{Rule, first, refuse, unless}
use Rattle.laws.specs.Tables.{pick, table}
use Rattle.bc7_format.specs.Modes.{mode_of, lines}
use Rattle.bc7_format.specs.Lines.{Line, has, index_place, line_bits, line_of, p_place, turned, value_place}
use Rattle.bc7_format.specs.Places.{opened}
use Rattle.bc7_format.specs.Splits.{split_of}
use Rattle.line_rules.specs.Replace.{own_width}

-- a line as a replacement gives it
unfoldable pub given_as : Line → Replacement
given_as ln = record {
  endpoints = table 8 (λ i. ln.value (i / 4) (i % 4));
  p = table 2 ln.p;
  indexes = table 16 ln.index;
}

-- its 26 values in order: eight of the endpoints, two p bits, sixteen indexes
unfoldable pub value_at : Replacement → ℕ → ℕ
value_at g i = pick (ltb i 8) (get_or g.endpoints i 0) (pick (ltb i 10) (get_or g.p (i - 8) 0) (get_or g.indexes (i - 10) 0))

-- and as 26 bytes, which say the replacement
unfoldable pub replacement_bytes : Replacement → List ℕ
replacement_bytes g = table 26 (value_at g)

unfoldable pub replacement_of : List ℕ → Replacement
replacement_of bs = record {
  endpoints = table 8 (λ i. get_or bs i 0);
  p = get_or bs 8 0 ∷ get_or bs 9 0 ∷ [];
  indexes = table 16 (λ q. get_or bs (10 + q) 0);
}

-- how many bits the parts of line l have
unfoldable pub widths_of : ℕ → Split → ℕ → Line
widths_of m s l = record {
  value = λ k c. own_width m s l (value_place s l k c);
  p = λ k. own_width m s l (p_place m l k);
  index = λ q. own_width m s l (index_place s l q);
}

-- the refusal of a reading (0: read)
unfoldable pub read_refusal : List ℕ → ℕ → ℕ
read_refusal bs l = first (refuse 1 (eqb (mode_of bs) 8) ∷ refuse 2 (not (ltb l (lines (mode_of bs)))) ∷ [])

-- the same in words
abbrev pub read_rules : List ℕ → ℕ → List Rule
read_rules bs l = unless 1 (get_or bs 0 0 ≢ 0) ∷ unless 2 (l < lines (mode_of bs)) ∷ []

-- what `read_line` answers: a stored index is the full one, for the top bit that an anchor's lacks is zero. A refusal has zeros in both lines
abbrev pub no_line : Line
no_line = record { value = λ k c. 0; p = λ k. 0; index = λ q. 0 }

abbrev pub lines_as : Line → Line → LineRead
lines_as ln ws = record { line = given_as ln; widths = given_as ws }

abbrev pub read_as : ℕ → Line → Line → Answer LineRead
read_as n ln ws = record { refusal = n; value = lines_as ln ws }

unfoldable pub line_read : List ℕ → ℕ → Answer LineRead
line_read bs l =
    let read : Bool = eqb (read_refusal bs l) 0 in
    read_as (read_refusal bs l) (pick read (line_of (mode_of bs) (split_of bs) l (opened bs)) no_line)
    (pick read (widths_of (mode_of bs) (split_of bs) l) no_line)

-- a given line turned round as it is read: other pixels have no index in it
unfoldable pub turned_in : ℕ → Split → ℕ → Line → Line
turned_in m s l ln = record {
  value = (turned (line_bits m s l) ln).value;
  p = (turned (line_bits m s l) ln).p;
  index = λ q. pick (has m s l (index_place s l q)) ((turned (line_bits m s l) ln).index q) 0;
}

-- one of the 26 values needs more than its width
pub record TooWide (g ws : Replacement) : Type 0 where
  pub at : ℕ
  pub below : at < 26
  pub wide : 2 ^ value_at ws at ≤ value_at g at
