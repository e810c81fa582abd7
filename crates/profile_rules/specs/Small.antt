-- THE SMALL DECODER, which knows the modes 4, 5 and 6 alone: what it shows of a block, and of a row of a whole sheet.
-- Assumes nothing.
use Rattle.std.specs.Prelude.{ℕ, ◌+◌, ◌*◌, ◌<◌, ◌≡◌, Bool, not, List, [], ◌∷◌, ◌++◌, eqb, leb, length, replicate}
use Rattle.laws.specs.Refusals.{Rule, first, refuse, unless}
use Rattle.laws.specs.Tables.{below, pick}
use Rattle.bc7_format.specs.Lines.{pixels}
use Rattle.head_rules.specs.Answers.{Head}
use Rattle.head_rules.specs.Geometry.{across, side_shown}
use Rattle.head_rules.specs.Heads.{head_rules, read_head}
use Rattle.head_rules.specs.Whole.{whole_refusal, whole_rule}
use Rattle.sheet_rules.specs.Rows.{row_bytes}
use Rattle.sheet_rules.specs.SheetRows.{row_blocks, row_room}
use Rattle.sheet_rules.specs.Sheets.{block_by}
use Rattle.profile_rules.specs.Profile.{Admitted, Sides, admits, sides_refusal}

-- 20 for a block that the profile doesn't admit
unfoldable pub small_refusal : List ℕ → ℕ
small_refusal block = refuse 20 (not (admits block))

-- the format's sixteen pixels of a block that it admits; sixteen times 0 0 0 0 of any other
unfoldable pub small_pixels : List ℕ → List (List ℕ)
small_pixels block = pick (admits block) (pixels block) (replicate 16 (replicate 4 0))

-- what `decode_small` promises: its answer, and every byte of the pixels
abbrev pub DecodesSmall : List ℕ → ℕ → List (List ℕ) → Type 0
DecodesSmall block answer after = (answer ≡ small_refusal block) × (after ≡ small_pixels block)

-- A ROW OF A WHOLE SHEET, of either form: are all blocks of the row admitted
unfoldable pub row_admits : Head → List ℕ → ℕ → Bool
row_admits h s row = below (across h.width) (λ c. admits (block_by h s (row * across h.width + c)))

-- the head's, 10, 17, 12, 11, then 20 where a block of the row breaks the profile
unfoldable pub small_row_refusal : Head → List ℕ → ℕ → ℕ → ℕ
small_row_refusal h s row room =
    first
    (whole_refusal h s
    ∷ sides_refusal h
    ∷ refuse 12 (leb (across h.height) row) ∷ refuse 11 (not (eqb room (row_room h row)))
    ∷ refuse 20 (not (row_admits h s row)) ∷ [])

-- in words, of a whole sheet whose head was read as h
abbrev pub small_row_behind_whole : Head → List ℕ → ℕ → ℕ → List Rule
small_row_behind_whole h s row room =
    unless 17 (Sides h) ∷
    unless 12 (row < across h.height) ∷
    unless 11 (room ≡ row_room h row) ∷
    unless 20 ((c : ℕ) → c < across h.width → Admitted (block_by h s (row * across h.width + c))) ∷
    []

abbrev pub small_row_rules : List ℕ → ℕ → ℕ → List Rule
small_row_rules s row room = head_rules s ++ whole_rule (read_head s) s ∷ small_row_behind_whole (read_head s) s row room

-- the output afterwards: the scanlines of the row, or as it was
unfoldable pub small_row_out : List ℕ → ℕ → List ℕ → List ℕ
small_row_out s row out =
    pick (eqb (small_row_refusal (read_head s) s row (length out)) 0)
    (row_bytes (read_head s).width (side_shown (read_head s).height row) (row_blocks s row)) out

-- what `small_row` promises: its answer, and every byte of the output
abbrev pub ShowsSmallRow : List ℕ → ℕ → List ℕ → ℕ → List ℕ → Type 0
ShowsSmallRow sheet row before answer after =
    (answer ≡ small_row_refusal (read_head sheet) sheet row (length before)) × (after ≡ small_row_out sheet row before)
