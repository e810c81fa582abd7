-- What is printed of an input: the fields of a block in stored order, each with its first bit and its width; or a refusal.
-- Assumes nothing.
use Rattle.std.specs.Prelude.{ℕ, zero, suc, ◌≤◌, ◌≡◌, not, List, [], ◌∷◌, ◌++◌, ◌≢◌, Option, Some, None, eqb, length}
use Rattle.bc7_format.specs.declared.Place.{Place}
use Rattle.laws.specs.Padding.{padded}
use Rattle.laws.specs.Refusals.{Rule, first, refuse, unless}
use Rattle.laws.specs.Tables.{pick}
use Rattle.bc7_format.specs.declared.Split.{Split}
use Rattle.bc7_format.specs.Modes.{mode_of}
use Rattle.bc7_format.specs.Places.{place_at, place_count, start, width}
use Rattle.bc7_format.specs.Splits.{anchors, split_of}
use Rattle.laws.specs.Text.{newline, refused_text, spaced}
use Rattle.refusals.specs.Answers.{number}
use Rattle.refusals.specs.declared.Refusal.{Refusal}
use Rattle.chart_rules.specs.declared.Chart.{Chart}
use Rattle.chart_rules.specs.Names.{name_of}

-- the text of a field: its name, its first bit and its width. What has no bits is no field, and has no text
unfoldable pub field_text : Place → ℕ → ℕ → List ℕ
field_text x bit w = pick (eqb w 0) [] (name_of x ++ spaced bit ++ spaced w ++ (newline ∷ []))

-- the text of the i-th place of a block of a mode and a split, and those of the first n places
abbrev pub place_text : ℕ → Split → ℕ → List ℕ
place_text m s i = field_text (place_at i) (start m s i) (width m (anchors s) (place_at i))

unfoldable pub places_text : ℕ → Split → ℕ → List ℕ
places_text m s zero = []
places_text m s (suc i) = places_text m s i ++ place_text m s i

-- 10 unless there are exactly sixteen bytes, then 1 for a reserved block; and the same in words
unfoldable pub chart_refusal : List ℕ → ℕ
chart_refusal bs = first (refuse 10 (not (eqb (length bs) 16)) ∷ refuse 1 (eqb (mode_of bs) 8) ∷ [])

abbrev pub chart_rules : List ℕ → List Rule
chart_rules bs = unless 10 (length bs ≡ 16) ∷ unless 1 (mode_of bs ≢ 8) ∷ []

-- THE CHART of an input
unfoldable pub chart : List ℕ → List ℕ
chart bs = pick (eqb (chart_refusal bs) 0) (places_text (mode_of bs) (split_of bs) place_count) (refused_text (chart_refusal bs))

-- so many bytes of an input are enough to tell: those of a block, and one more
abbrev pub wanted_bytes : ℕ
wanted_bytes = 17

-- no chart is longer, and the room that an answer has for it: a field's text is written where 22 bytes are free
abbrev pub text_most : ℕ
text_most = 587

abbrev pub text_room : ℕ
text_room = 609

-- an answer with its text: the number of its refusal, 0 for none
pub record Charted : Type 0 where
  pub refusal : ℕ
  pub length : ℕ
  pub text : List ℕ

abbrev pub charted : ℕ → List ℕ → Charted
charted r t = record { refusal = r; length = length t; text = padded text_room t }

-- what the code's answer says
abbrev pub refusal_number : Option Refusal → ℕ
refusal_number None = 0
refusal_number (Some r) = number r

abbrev pub said : Chart → Charted
said c = record { refusal = refusal_number c.refusal; length = c.length; text = c.text }

-- the promise
abbrev pub Charts : List ℕ → Chart → Type 0
Charts bs r = said r ≡ charted (chart_refusal bs) (chart bs)

-- an answer says c, and its length is within the room of the text, as whoever writes it has to know; so is that of a chart
pub record Answers (c : Charted) (r : Chart) : Type 0 where
  pub is : said r ≡ c
  pub within : r.length ≤ text_room

abbrev pub ChartsWithin : List ℕ → Chart → Type 0
ChartsWithin bs = Answers (charted (chart_refusal bs) (chart bs))
