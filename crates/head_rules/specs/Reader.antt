-- The head of a sheet as a machine that takes its bytes one by one: the states, what a byte makes of a state, and what is read when
-- the head has ended, or the input has. The groups of a number come low group first, so a byte behind g groups counts 128 ^ g.
-- Assumes nothing.
use Rattle.std.specs.Prelude.{ℕ, ◌+◌, ◌*◌, ◌%◌, ◌^◌, ◌<◌, ◌≤◌, ◌≡◌, Bool, true, false, List, [], ◌∷◌, eqb, ltb}
use Rattle.head_rules.specs.Answers.{Head}
use Rattle.head_rules.specs.Answers.{HeadReader}
use Rattle.head_rules.specs.declared.Stage.{Stage}
use Rattle.head_rules.specs.declared.Form.TheVariants.{Rows, Tiles}
use Rattle.head_rules.specs.declared.Form as order
use Rattle.head_rules.specs.declared.ColourSpace.TheVariants.{Unspecified}
use Rattle.head_rules.specs.declared.Stage.TheVariants.{Form, Width, Height, Colour, Ended}
use Rattle.laws.specs.Tables.{both, pick}
use Rattle.head_rules.specs.Colours.{colour_of, colour_refusal}
use Rattle.head_rules.specs.Heads.{form_number, form_of, head_in, head_of, size_refusal}
use Rattle.head_rules.specs.Numbers.{read_number}

-- the number of a stage is to come, and no group of it has
abbrev pub awaiting : Stage → Head → HeadReader
awaiting p h = record { stage = p; low = 0; groups = 0; head = h }

-- before the first byte; and refused
abbrev pub at_form : HeadReader
at_form = awaiting Form (head_of 0 0 0 0)

abbrev pub refused_with : ℕ → HeadReader
refused_with n = awaiting Ended (head_of n 0 0 0)

-- is no byte more wanted
abbrev pub ended_in : Stage → Bool
ended_in Form = false
ended_in Width = false
ended_in Height = false
ended_in Colour = false
ended_in Ended = true

abbrev pub has_ended : HeadReader → Bool
has_ended r = ended_in r.stage

-- the number n has come whole, and this is the place behind it: 8 for another form
unfoldable pub form_taken : ℕ → ℕ → HeadReader
form_taken n next = pick (eqb (form_number (form_of n)) n) (awaiting Width (head_in (form_of n) Unspecified 0 0 0 next)) (refused_with 8)

-- behind the last number 9, or the head
unfoldable pub size_taken : Head → HeadReader
size_taken h = pick (eqb (size_refusal h.width h.height) 0) (awaiting Ended h) (refused_with (size_refusal h.width h.height))

-- the last is the height in form 1; in form 2 it is the colour space's, 18 above 2
abbrev pub height_taken : order.Form → ℕ → ℕ → ℕ → HeadReader
height_taken Rows w n next = size_taken (head_of 0 w n next)
height_taken Tiles w n next = awaiting Colour (head_in Tiles Unspecified 0 w n next)

unfoldable pub colour_taken : Head → ℕ → ℕ → HeadReader
colour_taken h n next =
    pick (eqb (colour_refusal n) 0) (size_taken (head_in h.form (colour_of n) 0 h.width h.height next)) (refused_with (colour_refusal n))

abbrev pub number_in : Stage → Head → ℕ → ℕ → HeadReader
number_in Form h n next = form_taken n next
number_in Width h n next = awaiting Height (head_in h.form Unspecified 0 n 0 next)
number_in Height h n next = height_taken h.form h.width n next
number_in Colour h n next = colour_taken h n next
number_in Ended h n next = awaiting Ended h

-- an empty group above others, which a shorter form leaves out
abbrev pub empty_above : ℕ → ℕ → Bool
empty_above b g = both (ltb 0 g) (eqb b 0)

-- a byte below 128 ends its number
unfoldable pub last_taken : HeadReader → ℕ → HeadReader
last_taken r b =
    pick (empty_above b r.groups) (refused_with 7)
    (number_in r.stage r.head (r.low + b * 128 ^ r.groups) (r.head.start + r.groups + 1))

-- any other is a group, of which there are three at most
unfoldable pub group_taken : HeadReader → ℕ → HeadReader
group_taken r b =
    pick (eqb r.groups 2) (refused_with 7)
    (record { stage = r.stage; low = r.low + b % 128 * 128 ^ r.groups; groups = r.groups + 1; head = r.head })

abbrev pub byte_taken : HeadReader → ℕ → HeadReader
byte_taken r b = pick (ltb b 128) (last_taken r b) (group_taken r b)

-- what is read of an input from a state on: the head, which is cut off where the input ends within it, and the bytes behind those
-- that were taken
pub record Reading : Type 0 where
  pub head : Head
  pub rest : List ℕ

unfoldable pub read_by : HeadReader → List ℕ → Reading
read_by r [] = record { head = pick (has_ended r) r.head (head_of 7 0 0 0); rest = [] }
read_by r (b ∷ bs) = pick (has_ended r) (record { head = r.head; rest = b ∷ bs }) (read_by (byte_taken r b) bs)

-- the next number of a sheet that is there whole
unfoldable pub next_number : List ℕ → HeadReader → HeadReader
next_number s r =
    let n = read_number s r.head.start in
    pick (has_ended r) r (pick (eqb n.refusal 0) (number_in r.stage r.head n.value n.next) (refused_with n.refusal))

-- how many bytes the numbers before a stage have at the most
abbrev pub before : Stage → ℕ
before Form = 0
before Width = 3
before Height = 6
before Colour = 9
before Ended = 12

-- what holds between two bytes of a head
pub record Going (r : HeadReader) : Type 0 where
  pub unended : has_ended r ≡ false
  pub few : r.groups ≤ 2
  pub small : r.low < 128 ^ r.groups
  pub near : r.head.start ≤ before r.stage
