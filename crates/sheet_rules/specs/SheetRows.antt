-- A ROW OF A WHOLE SHEET, of either form: the second row decoding.
-- Assumes nothing.
use Rattle.std.specs.Prelude.{ℕ, ◌<◌, ◌≡◌, not, List, [], ◌∷◌, ◌++◌, eqb, leb, length}
use Rattle.laws.specs.Refusals.{Rule, first, refuse, unless}
use Rattle.laws.specs.Tables.{pick}
use Rattle.head_rules.specs.Answers.{Head}
use Rattle.head_rules.specs.Geometry.{across, out_length, side_shown}
use Rattle.head_rules.specs.Heads.{head_rules, read_head}
use Rattle.head_rules.specs.Whole.{whole_refusal, whole_rule}
use Rattle.sheet_rules.specs.Pictures.{all_blocks, row_of}
use Rattle.sheet_rules.specs.Rows.{row_bytes}

-- the bytes of that row's blocks, as the first row decoding takes them
unfoldable pub row_blocks : List ℕ → ℕ → List ℕ
row_blocks s row = row_of (read_head s).width (all_blocks s) row

-- how many bytes of pixels the row has
abbrev pub row_room : Head → ℕ → ℕ
row_room h row = out_length h.width (side_shown h.height row)

-- the head's, then 10, 12, 11
unfoldable pub sheet_row_refusal : List ℕ → ℕ → ℕ → ℕ
sheet_row_refusal s row room =
    let h = read_head s in
    first
    (whole_refusal h s
    ∷ refuse 12 (leb (across h.height) row)
    ∷ refuse 11 (not (eqb room (row_room h row)))
    ∷ [])

-- in words, of a whole sheet whose head was read as h
abbrev pub row_behind_whole : Head → ℕ → ℕ → List Rule
row_behind_whole h row room = unless 12 (row < across h.height) ∷ unless 11 (room ≡ row_room h row) ∷ []

abbrev pub sheet_row_rules : List ℕ → ℕ → ℕ → List Rule
sheet_row_rules s row room = head_rules s ++ whole_rule (read_head s) s ∷ row_behind_whole (read_head s) row room

-- the output afterwards
unfoldable pub sheet_row_out : List ℕ → ℕ → List ℕ → List ℕ
sheet_row_out s row out =
    pick (eqb (sheet_row_refusal s row (length out)) 0) (row_bytes (read_head s).width (side_shown (read_head s).height row) (row_blocks s row)) out

-- what the second row decoding promises: its answer, and every byte of the output
abbrev pub DecodesSheetRow : List ℕ → ℕ → List ℕ → ℕ → List ℕ → Type 0
DecodesSheetRow sheet row before answer after =
    (answer ≡ sheet_row_refusal sheet row (length before)) × (after ≡ sheet_row_out sheet row before)
