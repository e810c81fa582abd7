-- Replacing a line: what is given, what is refused, what is stored.
-- Assumes nothing.
use Rattle.std.specs.Prelude.{ℕ, ◌+◌, ◌-◌, ◌*◌, ◌^◌, Bool, not, List, [], ◌∷◌, eqb, ltb, leb, get_or}
use Rattle.bc7_format.specs.declared.Place.{Place}
use Rattle.line_rules.specs.declared.Replacement.{Replacement}
use Rattle.refusals.specs.Answers.{Answer}
use Rattle.bc7_format.specs.declared.Split.{Split}
use Rattle.laws.specs.Refusals.{first, refuse}
use Rattle.laws.specs.Tables.{below, both, pick}
use Rattle.bc7_format.specs.Modes.{mode_of, lines}
use Rattle.bc7_format.specs.Lines.{Line, anchor_of, has, index_place, line_bits, p_place, turned, value_place, with_line}
use Rattle.bc7_format.specs.Places.{block_of, opened, width}
use Rattle.bc7_format.specs.Splits.{split_of}

-- a given line
unfoldable pub line_given : Replacement → Line
line_given g = record {
  value = λ k c. get_or g.endpoints (4 * k + c) 0;
  p = λ k. get_or g.p k 0;
  index = λ q. get_or g.indexes q 0;
}

-- how many bits a place has in line l: none, where the line hasn't got it
unfoldable pub own_width : ℕ → Split → ℕ → Place → ℕ
own_width m s l x = pick (has m s l x) (width m [] x) 0

-- does each value, p bit, index of a line fit
unfoldable pub value_fits : ℕ → Split → ℕ → Line → ℕ → ℕ → Bool
value_fits m s l ln k c = ltb (ln.value k c) (2 ^ own_width m s l (value_place s l k c))

unfoldable pub p_fits : ℕ → Split → ℕ → Line → ℕ → Bool
p_fits m s l ln k = ltb (ln.p k) (2 ^ own_width m s l (p_place m l k))

unfoldable pub index_fits : ℕ → Split → ℕ → Line → ℕ → Bool
index_fits m s l ln q = ltb (ln.index q) (2 ^ own_width m s l (index_place s l q))

unfoldable pub line_fits : ℕ → Split → ℕ → Line → Bool
line_fits m s l ln =
    both (below 2 (λ k. below 4 (value_fits m s l ln k)))
    (both (below 2 (p_fits m s l ln))
    (below 16 (index_fits m s l ln)))

-- the first refusal that applies
unfoldable pub refusal_in : ℕ → Split → ℕ → Line → ℕ
refusal_in m s l ln =
    first
    (refuse 1 (eqb m 8) ∷
    refuse 2 (not (ltb l (lines m))) ∷
    refuse 3 (not (line_fits m s l ln)) ∷
    refuse 4 (both (eqb m 1) (not (eqb (ln.p 0) (ln.p 1)))) ∷
    [])

-- has the index at the line's anchor its top bit set
abbrev pub top_set : ℕ → Split → ℕ → Line → Bool
top_set m s l ln = leb (2 ^ (line_bits m s l - 1)) (ln.index (anchor_of s l))

-- the line as it is stored: turned round if so, else as it is given
unfoldable pub oriented : ℕ → Split → ℕ → Line → Line
oriented m s l ln = pick (top_set m s l ln) (turned (line_bits m s l) ln) ln

-- what stands at the places with the line l put in
unfoldable pub put : ℕ → Split → ℕ → Line → (Place → ℕ) → Place → ℕ
put m s l ln f = with_line m s l (oriented m s l ln) f

-- a call: a line's number and the line that is given
pub record Call : Type 0 where
  pub line : ℕ
  pub given : Line

-- the refusal of a call (0: accepted), and the block after it: itself where the call is refused
unfoldable pub refusal : List ℕ → Call → ℕ
refusal bs c = refusal_in (mode_of bs) (split_of bs) c.line c.given

unfoldable pub after : List ℕ → Call → List ℕ
after bs c =
    pick (eqb (refusal bs c) 0)
    (block_of (mode_of bs) (split_of bs) (put (mode_of bs) (split_of bs) c.line c.given (opened bs)))
    bs

-- what `replace_line` answers: a refusal hands back the block that was given
abbrev pub call_of : ℕ → Replacement → Call
call_of l g = record { line = l; given = line_given g }

abbrev pub replaced_as : ℕ → List ℕ → Answer (List ℕ)
replaced_as n bs = record { refusal = n; value = bs }

unfoldable pub replaced : List ℕ → ℕ → Replacement → Answer (List ℕ)
replaced bs l g = replaced_as (refusal bs (call_of l g)) (after bs (call_of l g))
