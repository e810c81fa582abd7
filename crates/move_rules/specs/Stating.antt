-- STATING A COLOUR SPACE, in a sheet of form 2: its head has a number for it, and form 1 has none.
-- Assumes nothing.
use Rattle.refusals.specs.Answers.{number_of}
use Rattle.refusals.specs.declared.Refusal.{Refusal}
use Rattle.std.specs.Prelude.{ℕ, ◌≤◌, ◌≡◌, List, [], ◌∷◌, ◌++◌, eqb, drop, Result, ⊤}
use Rattle.laws.specs.Refusals.{Rule, first, unless}
use Rattle.laws.specs.Tables.{pick}
use Rattle.head_rules.specs.declared.Form.TheVariants.{Tiles}
use Rattle.head_rules.specs.Answers.{Head}
use Rattle.head_rules.specs.Colours.{colour_of, colour_refusal}
use Rattle.head_rules.specs.Heads.{bytes_of_head, of_form_rules, read_of_form, under}
use Rattle.head_rules.specs.Whole.{whole_refusal, whole_rule}

-- the head's, with 8 for a sheet of form 1; 10; then 18 for the number n that is given
unfoldable pub state_refusal : List ℕ → ℕ → ℕ
state_refusal s n =
    let h = read_of_form Tiles s in
    first (whole_refusal h s ∷ colour_refusal n ∷ [])

-- in words, for a sheet whose head was read as h
abbrev pub state_behind_head : Head → List ℕ → ℕ → List Rule
state_behind_head h s n = whole_rule h s ∷ unless 18 (n ≤ 2) ∷ []

abbrev pub state_rules : List ℕ → ℕ → List Rule
state_rules s n = of_form_rules Tiles s ++ state_behind_head (read_of_form Tiles s) s n

-- the sheet s, whose head is h, under the colour space of the number n: another head, and the blocks as they stand
unfoldable pub stated_as : Head → List ℕ → ℕ → List ℕ
stated_as h s n = bytes_of_head (under (colour_of n) h) ++ drop h.start s

-- the sheet afterwards
unfoldable pub state_after : List ℕ → ℕ → List ℕ
state_after s n = pick (eqb (state_refusal s n) 0) (stated_as (read_of_form Tiles s) s n) s

-- what `state_colour` promises: its answer, and every byte of the sheet
abbrev pub StatesColour : List ℕ → ℕ → Result ⊤ Refusal → List ℕ → Type 0
StatesColour sheet n answer after = (number_of answer ≡ state_refusal sheet n) × (after ≡ state_after sheet n)
