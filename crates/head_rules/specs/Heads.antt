-- The head of a sheet: form, width, height; and in form 2 the number of its colour space.
-- Assumes nothing.
use Rattle.std.specs.Prelude.{ℕ, ◌≤◌, ◌≡◌, ◌⊎◌, Bool, not, List, [], ◌∷◌, ◌++◌, Result, eqb, leb, length, replicate}
use Rattle.head_rules.specs.declared.ColourSpace.{ColourSpace}
use Rattle.head_rules.specs.declared.ColourSpace.TheVariants.{Unspecified}
use Rattle.head_rules.specs.declared.Form.{Form}
use Rattle.head_rules.specs.declared.Form.TheVariants.{Rows, Tiles}
use Rattle.head_rules.specs.declared.Head as heads
use Rattle.head_rules.specs.declared.FormBytes.{FormBytes}
use Rattle.head_rules.specs.declared.HeadBytes as bytes
use Rattle.refusals.specs.declared.Refusal.{Refusal}
use Rattle.head_rules.specs.Answers.{Head, HeadBytes, Number, bytes_answered, head_answered}
use Rattle.laws.specs.Padding.{padded, stored}
use Rattle.laws.specs.Refusals.{Rule, first, handed, refuse, unless}
use Rattle.laws.specs.Tables.{both, pick}
use Rattle.head_rules.specs.Colours.{colour_number, colour_of, colour_refusal}
use Rattle.head_rules.specs.Numbers.{found, number_bytes, read_number}

-- THE FORMS by number: 1 row by row, 2 in tiles; and the form of a number, where it is one's
abbrev pub form_number : Form → ℕ
form_number Rows = 1
form_number Tiles = 2

unfoldable pub form_of : ℕ → Form
form_of n = pick (eqb n 2) Tiles Rows

abbrev pub IsForm : ℕ → Type 0
IsForm n = (n ≡ form_number Rows) ⊎ (n ≡ form_number Tiles)

-- the largest width and height; the largest that consoles of before took
abbrev pub limit : ℕ
limit = 16384

abbrev pub old_limit : ℕ
old_limit = 4096

-- is n a width or a height, where the largest is `top`
abbrev pub side_up_to : ℕ → ℕ → Bool
side_up_to top n = both (leb 1 n) (leb n top)

unfoldable pub size_refusal_up_to : ℕ → ℕ → ℕ → ℕ
size_refusal_up_to top w h = refuse 9 (not (both (side_up_to top w) (side_up_to top h)))

abbrev pub size_refusal : ℕ → ℕ → ℕ
size_refusal w h = size_refusal_up_to limit w h

pub record SizedUpTo (top w h : ℕ) : Type 0 where
  pub wide : 1 ≤ w
  pub within_wide : w ≤ top
  pub high : 1 ≤ h
  pub within_high : h ≤ top

abbrev pub Sized : ℕ → ℕ → Type 0
Sized w h = SizedUpTo limit w h

-- the one rule of writing a head
abbrev pub size_rules : ℕ → ℕ → List Rule
size_rules w h = unless 9 (Sized w h) ∷ []

-- the numbers of a head
unfoldable pub form_in : List ℕ → Number
form_in s = read_number s 0

unfoldable pub width_in : List ℕ → Number
width_in s = read_number s (form_in s).next

unfoldable pub height_in : List ℕ → Number
height_in s = read_number s (width_in s).next

-- the number of the colour space, which form 2 stores: of form 1 it is 0, and no byte
abbrev pub colour_behind : Form → List ℕ → ℕ → Number
colour_behind Rows s at = found 0 at
colour_behind Tiles s at = read_number s at

unfoldable pub colour_in : List ℕ → Number
colour_in s = colour_behind (form_of (form_in s).value) s (height_in s).next

-- THE HEAD'S ONE LIST of refusals: 7 and 8 on the form, 7 on width, height and colour space, 18, what a call looks at between, then 9
abbrev pub head_tests : List ℕ → ℕ → List ℕ → List ℕ
head_tests between top s =
    (form_in s).refusal
    ∷ refuse 8 (not (eqb (form_number (form_of (form_in s).value)) (form_in s).value))
    ∷ (width_in s).refusal
    ∷ (height_in s).refusal
    ∷ (colour_in s).refusal
    ∷ colour_refusal (colour_in s).value
    ∷ (between ++ (size_refusal_up_to top (width_in s).value (height_in s).value ∷ []))

-- in words
abbrev pub head_rules_with : List Rule → ℕ → List ℕ → List Rule
head_rules_with between top s =
    handed (form_in s).refusal ∷
    unless 8 (IsForm (form_in s).value) ∷
    handed (width_in s).refusal ∷
    handed (height_in s).refusal ∷
    handed (colour_in s).refusal ∷
    unless 18 ((colour_in s).value ≤ 2) ∷
    (between ++ (unless 9 (SizedUpTo top (width_in s).value (height_in s).value) ∷ []))

-- reading a head looks at nothing between
unfoldable pub head_refusal_up_to : ℕ → List ℕ → ℕ
head_refusal_up_to top s = first (head_tests [] top s)

abbrev pub head_rules_up_to : ℕ → List ℕ → List Rule
head_rules_up_to top s = head_rules_with [] top s

abbrev pub head_rules : List ℕ → List Rule
head_rules s = head_rules_up_to limit s

abbrev pub head_refusal : List ℕ → ℕ
head_refusal s = head_refusal_up_to limit s

-- a head; one as form 1 says it, which has no room for a colour space; and a head under one
abbrev pub head_in : Form → ColourSpace → ℕ → ℕ → ℕ → ℕ → Head
head_in f c r w h start = record { refusal = r; form = f; width = w; height = h; start = start; colour_space = c }

abbrev pub head_of : ℕ → ℕ → ℕ → ℕ → Head
head_of r w h start = head_in Rows Unspecified r w h start

abbrev pub under : ColourSpace → Head → Head
under c h = head_in h.form c h.refusal h.width h.height h.start

-- what the numbers of a head say, where they are accepted
abbrev pub head_told : List ℕ → Head
head_told s = head_in (form_of (form_in s).value) (colour_of (colour_in s).value) 0 (width_in s).value (height_in s).value (colour_in s).next

-- a head, or the refusal and zeros
abbrev pub head_as : ℕ → Head → Head
head_as r h = pick (eqb r 0) h (head_of r 0 0 0)

-- reading a head of either form, where the largest side is `top`
unfoldable pub read_head_up_to : ℕ → List ℕ → Head
read_head_up_to top s = head_as (head_refusal_up_to top s) (head_told s)

abbrev pub read_head : List ℕ → Head
read_head s = read_head_up_to limit s

-- ONE FORM ONLY, for a call that takes no other: 8 for the other form, before anything behind it; else the head's refusal
abbrev pub of_form_tests : Form → List ℕ → ℕ → List ℕ
of_form_tests f s head = (form_in s).refusal ∷ refuse 8 (not (eqb (form_in s).value (form_number f))) ∷ head ∷ []

unfoldable pub of_form_refusal_up_to : ℕ → Form → List ℕ → ℕ
of_form_refusal_up_to top f s = first (of_form_tests f s (head_refusal_up_to top s))

abbrev pub of_form_refusal : Form → List ℕ → ℕ
of_form_refusal f s = of_form_refusal_up_to limit f s

unfoldable pub read_of_form_up_to : ℕ → Form → List ℕ → Head
read_of_form_up_to top f s = head_as (of_form_refusal_up_to top f s) (head_told s)

abbrev pub read_of_form : Form → List ℕ → Head
read_of_form f s = read_of_form_up_to limit f s

-- for a call that has a refusal r of its own to look at before 9
unfoldable pub of_form_refusal_with : ℕ → Form → List ℕ → ℕ
of_form_refusal_with r f s = first (of_form_tests f s (first (head_tests (r ∷ []) limit s)))

unfoldable pub read_of_form_with : ℕ → Form → List ℕ → Head
read_of_form_with r f s = head_as (of_form_refusal_with r f s) (head_told s)

-- A CONSOLE OF BEFORE maps up to 16,384 and tiles: it has the old limit, and knows form 1 alone
abbrev pub old_head : List ℕ → Head
old_head s = read_of_form_up_to old_limit Rows s

-- in words: the form, then what is said of the head; and for form 1 alone, each rule once
abbrev pub of_form_rules_with : List Rule → ℕ → Form → List ℕ → List Rule
of_form_rules_with between top f s =
    handed (form_in s).refusal ∷ unless 8 ((form_in s).value ≡ form_number f) ∷ head_rules_with between top s

abbrev pub rows_rules_with : List Rule → List ℕ → List Rule
rows_rules_with between s =
    handed (form_in s).refusal ∷
    unless 8 ((form_in s).value ≡ form_number Rows) ∷
    handed (width_in s).refusal ∷
    handed (height_in s).refusal ∷
    (between ++ (unless 9 (Sized (width_in s).value (height_in s).value) ∷ []))

abbrev pub rows_rules : List ℕ → List Rule
rows_rules s = rows_rules_with [] s

abbrev pub of_form_rules_up_to : ℕ → Form → List ℕ → List Rule
of_form_rules_up_to top f s = of_form_rules_with [] top f s

abbrev pub of_form_rules : Form → List ℕ → List Rule
of_form_rules f s = of_form_rules_up_to limit f s

-- the bytes of a head of form 1, and of form 2 with the number of a colour space
unfoldable pub head_bytes : ℕ → ℕ → List ℕ
head_bytes w h = number_bytes (form_number Rows) ++ (number_bytes w ++ number_bytes h)

unfoldable pub tiled_bytes : ColourSpace → ℕ → ℕ → List ℕ
tiled_bytes c w h = number_bytes (form_number Tiles) ++ (number_bytes w ++ (number_bytes h ++ number_bytes (colour_number c)))

-- and of a head in memory, whose colour space form 1 forgets
abbrev pub head_spelt : Form → ColourSpace → ℕ → ℕ → List ℕ
head_spelt Rows c w h = head_bytes w h
head_spelt Tiles c w h = tiled_bytes c w h

abbrev pub bytes_of_head : Head → List ℕ
bytes_of_head h = head_spelt h.form h.colour_space h.width h.height

-- bytes with zeros behind, seven in all
abbrev pub seven_of : List ℕ → HeadBytes
seven_of bs = record { refusal = 0; bytes = padded 7 bs; count = length bs }

abbrev pub no_bytes : ℕ → HeadBytes
no_bytes r = record { refusal = r; bytes = replicate 7 0; count = 0 }

-- writing a head
unfoldable pub write_head_up_to : ℕ → ℕ → ℕ → HeadBytes
write_head_up_to top w h = pick (eqb (size_refusal_up_to top w h) 0) (seven_of (head_bytes w h)) (no_bytes (size_refusal_up_to top w h))

abbrev pub write_head : ℕ → ℕ → HeadBytes
write_head w h = write_head_up_to limit w h

-- the head in form f that says no colour space, with zeros behind, eight bytes in all
unfoldable pub write_form : Form → ℕ → ℕ → FormBytes
write_form f w h = let bs = head_spelt f Unspecified w h in record { bytes = padded 8 bs; count = length bs }

-- what the two public calls promise: their answers, whole
abbrev pub ReadsHead : List ℕ → Result heads.Head Refusal → Type 0
ReadsHead sheet answer = head_answered answer ≡ read_head sheet

abbrev pub WritesHead : ℕ → ℕ → Result bytes.HeadBytes Refusal → Type 0
WritesHead w h answer = bytes_answered answer ≡ write_head w h

-- bytes behind those of h
abbrev pub with_bytes : HeadBytes → List ℕ → HeadBytes
with_bytes h bs = let p = stored (h.bytes, h.count) bs in record { refusal = h.refusal; bytes = p.0; count = p.1 }
