-- MOVES BETWEEN THE FORMS: a sheet of form 1 as form 2 with number 0, and back where nothing is lost.
-- Assumes nothing.
use Rattle.refusals.specs.Answers.{number_of}
use Rattle.refusals.specs.declared.Refusal.{Refusal}
use Rattle.std.specs.Prelude.{ℕ, ◌≤◌, ◌≡◌, not, List, [], ◌∷◌, ◌++◌, eqb, length, Result, ⊤}
use Rattle.laws.specs.Refusals.{Rule, first, handed, refuse, unless}
use Rattle.laws.specs.Tables.{pick}
use Rattle.head_rules.specs.declared.ColourSpace.TheVariants.{Unspecified}
use Rattle.head_rules.specs.declared.Form.{Form}
use Rattle.head_rules.specs.declared.Form.TheVariants.{Rows, Tiles}
use Rattle.head_rules.specs.Answers.{Head}
use Rattle.head_rules.specs.Colours.{colour_number}
use Rattle.head_rules.specs.Geometry.{whole_length}
use Rattle.head_rules.specs.Heads.{Sized, bytes_of_head, colour_in, form_in, form_number, head_in, head_spelt, height_in, read_head, read_of_form, rows_rules}
use Rattle.head_rules.specs.Heads.{width_in}
use Rattle.head_rules.specs.Whole.{whole_refusal, whole_rule}
use Rattle.sheet_rules.specs.Pictures.{blocks_as}

-- a move to a form takes a sheet of the other
abbrev pub other : Form → Form
other Rows = Tiles
other Tiles = Rows

-- the head in form f, which says no colour space: form 2 has number 0
abbrev pub head_in_form : Form → Head → Head
head_in_form f h = head_in f Unspecified 0 h.width h.height (length (head_spelt f Unspecified h.width h.height))

-- the sheet s, whose head is h, in form f: that head, and behind it the same blocks as that form stores them
unfoldable pub moved_to : Form → Head → List ℕ → List ℕ
moved_to f h s = bytes_of_head (head_in_form f h) ++ blocks_as f h s

-- the head's, with 8 for a sheet that is of form f already; 10, 11, and last 16, for a stated colour space
unfoldable pub move_refusal : Form → List ℕ → ℕ → ℕ
move_refusal f s room =
    let h = read_of_form (other f) s in
    first
    (whole_refusal h s
    ∷ refuse 11 (not (eqb room (whole_length (head_in_form f h))))
    ∷ refuse 16 (not (eqb (colour_number h.colour_space) 0))
    ∷ [])

-- THE SAME IN WORDS: of each direction what it can give, each once. A head of form 2 alone: 7 and 8 on the form, 7 on width, height and
-- the number of the colour space, 18, then 9 (`rows_rules` has form 1 alone)
abbrev pub tiles_rules : List ℕ → List Rule
tiles_rules s =
    handed (form_in s).refusal ∷
    unless 8 ((form_in s).value ≡ form_number Tiles) ∷
    handed (width_in s).refusal ∷
    handed (height_in s).refusal ∷
    handed (colour_in s).refusal ∷
    unless 18 ((colour_in s).value ≤ 2) ∷
    unless 9 (Sized (width_in s).value (height_in s).value) ∷
    []

-- 10 unless the sheet is as long as its head says, 11 unless the output is as long as that sheet in form f
abbrev pub length_rules : Form → List ℕ → ℕ → List Rule
length_rules f s room = whole_rule (read_head s) s ∷ unless 11 (room ≡ whole_length (head_in_form f (read_head s))) ∷ []

-- back to form 1 last 16, unless the number is 0: the colour space is not stated
abbrev pub move_rules : Form → List ℕ → ℕ → List Rule
move_rules Tiles s room = rows_rules s ++ length_rules Tiles s room
move_rules Rows s room = tiles_rules s ++ length_rules Rows s room ++ (unless 16 ((colour_in s).value ≡ 0) ∷ [])

-- the output afterwards
unfoldable pub move_after : Form → List ℕ → List ℕ → List ℕ
move_after f s out = pick (eqb (move_refusal f s (length out)) 0) (moved_to f (read_of_form (other f) s) s) out

-- what a move promises: its answer, and every byte of the output
abbrev pub MovesTo : Form → List ℕ → List ℕ → Result ⊤ Refusal → List ℕ → Type 0
MovesTo f sheet before answer after = (number_of answer ≡ move_refusal f sheet (length before)) × (after ≡ move_after f sheet before)
