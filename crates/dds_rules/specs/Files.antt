-- IMPORT AND EXPORT: what a DDS file becomes as a sheet, and a sheet as a DDS file; why either is refused, and how long the output has to be.
-- Assumes nothing.
use Rattle.std.specs.Prelude.{ℕ, ◌+◌, ◌*◌, ◌≤◌, ◌≡◌, not, List, [], ◌∷◌, ◌++◌, eqb, length, drop}
use Rattle.dds_rules.specs.Lengths.{Length}
use Rattle.head_rules.specs.declared.ColourSpace.{ColourSpace}
use Rattle.head_rules.specs.declared.ColourSpace.TheVariants.{Unspecified, Linear, Srgb}
use Rattle.head_rules.specs.Answers.{Head}
use Rattle.head_rules.specs.Colours.{colour_of, colour_refusal}
use Rattle.head_rules.specs.Geometry.{blocks_of, whole_length}
use Rattle.head_rules.specs.declared.Form.TheVariants.{Rows}
use Rattle.head_rules.specs.Heads.{Sized, head_as, head_bytes, head_of, limit, read_of_form, read_of_form_with, rows_rules_with, size_refusal_up_to, under}
use Rattle.head_rules.specs.Whole.{whole_refusal, whole_rule}
use Rattle.laws.specs.Refusals.{Rule, first, refuse, unless}
use Rattle.laws.specs.Tables.{pick}
use Rattle.dds_rules.specs.Header.{Texture, canonical_header, field_in, format, format_says, header_length, height, is_texture, width}

-- the bytes of a DDS file with the blocks of a sheet whose head is h
abbrev pub file_length : Head → ℕ
file_length h = header_length + 16 * blocks_of h

-- IMPORT. The head that a file makes: the file's sides, the first block behind the bytes that writing them gives, and the colour space that
-- the format says
unfoldable pub head_made : List ℕ → Head
head_made dds =
    let w = field_in dds width in
    let h = field_in dds height in
    under (format_says (field_in dds format)) (head_of 0 w h (length (head_bytes w h)))

-- the sheet: its head, then the blocks as they stand in the file
unfoldable pub sheet_made : List ℕ → List ℕ
sheet_made dds = head_bytes (field_in dds width) (field_in dds height) ++ drop header_length dds

-- 15, 9 above the limit `top`, 10, whatever the output; then 11, by the output's length
unfoldable pub file_refusal_up_to : ℕ → List ℕ → ℕ
file_refusal_up_to top dds =
    first
    (refuse 15 (not (is_texture dds))
    ∷ size_refusal_up_to top (field_in dds width) (field_in dds height)
    ∷ refuse 10 (not (eqb (length dds) (file_length (head_made dds))))
    ∷ [])

abbrev pub file_refusal : List ℕ → ℕ
file_refusal dds = file_refusal_up_to limit dds

unfoldable pub import_refusal_up_to : ℕ → List ℕ → ℕ → ℕ
import_refusal_up_to top dds room = first (file_refusal_up_to top dds ∷ refuse 11 (not (eqb room (whole_length (head_made dds)))) ∷ [])

abbrev pub import_refusal : List ℕ → ℕ → ℕ
import_refusal dds room = import_refusal_up_to limit dds room

-- the answer, and the output afterwards
unfoldable pub import_answer : List ℕ → ℕ → Head
import_answer dds room = head_as (import_refusal dds room) (head_made dds)

unfoldable pub import_after_up_to : ℕ → List ℕ → List ℕ → List ℕ
import_after_up_to top dds out = pick (eqb (import_refusal_up_to top dds (length out)) 0) (sheet_made dds) out

abbrev pub import_after : List ℕ → List ℕ → List ℕ
import_after dds out = import_after_up_to limit dds out

-- EXPORT takes form 1 only, and answers 8 for the other
abbrev pub sheet_head : List ℕ → Head
sheet_head s = read_of_form Rows s

-- Each of these takes a head first: h is what was read of the sheet's own, by whatever reader. Its refusals and 10, whatever the output; then
-- 11, by the output's length
unfoldable pub export_refusal : Head → List ℕ → ℕ → ℕ
export_refusal h s room = first (whole_refusal h s ∷ refuse 11 (not (eqb room (file_length h))) ∷ [])

-- the file: the header under a colour space, then the blocks as they stand in the sheet
unfoldable pub file_made : Head → ColourSpace → List ℕ → List ℕ
file_made h c s = canonical_header (under c h) ++ drop h.start s

-- the output afterwards
unfoldable pub export_after : Head → ColourSpace → List ℕ → List ℕ → List ℕ
export_after h c s out = pick (eqb (export_refusal h s (length out)) 0) (file_made h c s) out

-- what a file says that was exported under a colour space: unspecified comes back as linear
abbrev pub said : ColourSpace → ColourSpace
said Unspecified = Linear
said Linear = Linear
said Srgb = Srgb

-- EXPORT UNDER A NUMBER, as C gives the colour space: 18 where it has none, looked at behind 7 and 8 of the head and before 9
abbrev pub numbered_head : ℕ → List ℕ → Head
numbered_head n s = read_of_form_with (colour_refusal n) Rows s

unfoldable pub numbered_refusal : List ℕ → ℕ → ℕ → ℕ
numbered_refusal s n room = export_refusal (numbered_head n s) s room

unfoldable pub numbered_after : List ℕ → ℕ → List ℕ → List ℕ
numbered_after s n out = export_after (numbered_head n s) (colour_of n) s out

-- HOW LONG THE OUTPUT HAS TO BE: refused as the call itself is, but for 11
abbrev pub length_as : ℕ → ℕ → Length
length_as r n = record { refusal = r; length = pick (eqb r 0) n 0 }

unfoldable pub import_length : List ℕ → Length
import_length dds = length_as (file_refusal dds) (whole_length (head_made dds))

unfoldable pub export_length : List ℕ → Length
export_length s = length_as (whole_refusal (sheet_head s) s) (file_length (sheet_head s))

-- what is known of a file before the output is looked at
unfoldable pub import_head : List ℕ → Head
import_head dds = head_as (file_refusal dds) (head_made dds)

-- THE RULES IN WORDS
abbrev pub file_rules : List ℕ → List Rule
file_rules dds =
    unless 15 (Texture dds) ∷
    unless 9 (Sized (field_in dds width) (field_in dds height)) ∷
    unless 10 (length dds ≡ file_length (head_made dds)) ∷
    []

abbrev pub import_rules : List ℕ → ℕ → List Rule
import_rules dds room = file_rules dds ++ (unless 11 (room ≡ whole_length (head_made dds)) ∷ [])

-- of export, where a call looks at something between 7 and 9 of the head
abbrev pub whole_rules_with : List Rule → List ℕ → List Rule
whole_rules_with between s = rows_rules_with between s ++ (whole_rule (sheet_head s) s ∷ [])

abbrev pub export_rules_with : List Rule → List ℕ → ℕ → List Rule
export_rules_with between s room = whole_rules_with between s ++ (unless 11 (room ≡ file_length (sheet_head s)) ∷ [])

abbrev pub whole_rules : List ℕ → List Rule
whole_rules s = whole_rules_with [] s

abbrev pub export_rules : List ℕ → ℕ → List Rule
export_rules s room = export_rules_with [] s room

abbrev pub numbered_rules : List ℕ → ℕ → ℕ → List Rule
numbered_rules s n room = export_rules_with (unless 18 (n ≤ 2) ∷ []) s room
