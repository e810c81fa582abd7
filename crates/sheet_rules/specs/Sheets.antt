-- Where the blocks of a sheet stand, and what replacing in one of them leaves.
-- Assumes nothing.
use Rattle.std.specs.Prelude.{ℕ, ◌<◌, ◌≡◌, List, [], ◌∷◌, ◌++◌, eqb, leb}
use Rattle.line_rules.specs.declared.Replacement.{Replacement}
use Rattle.refusals.specs.Answers.{Answer}
use Rattle.head_rules.specs.Geometry.{blocks_of, place_of}
use Rattle.head_rules.specs.Answers.{Head}
use Rattle.laws.specs.Refusals.{Rule, first, handed, refuse, unless}
use Rattle.laws.specs.Tables.{pick}
use Rattle.head_rules.specs.Heads.{head_rules, read_head}
use Rattle.head_rules.specs.Whole.{whole_refusal, whole_rule}
use Rattle.line_rules.specs.Acceptable.{call_rules}
use Rattle.line_rules.specs.Replace.{call_of, replaced}
use Rattle.bcn_format.specs.Block.{block_at, put_block}

-- Each of these takes a head first: h is what was read of the sheet's own, by whatever reader.

-- block b of a sheet; and of a sheet whose own head is taken
unfoldable pub block_by : Head → List ℕ → ℕ → List ℕ
block_by h s b = block_at s (place_of h b)

abbrev pub block_in : List ℕ → ℕ → List ℕ
block_in s b = block_by (read_head s) s b

-- the head's refusal, 10, then 12
unfoldable pub find_refusal : Head → List ℕ → ℕ → ℕ
find_refusal h s b = first (whole_refusal h s ∷ refuse 12 (leb (blocks_of h) b) ∷ [])

-- in words, for a sheet whose head was read as h
abbrev pub behind_head : Head → List ℕ → ℕ → List Rule
behind_head h s b = whole_rule h s ∷ unless 12 (b < blocks_of h) ∷ []

abbrev pub find_rules : Head → List ℕ → ℕ → List Rule
find_rules h s b = handed h.refusal ∷ behind_head h s b

-- what replacing in the block answers
unfoldable pub replaced_in : Head → List ℕ → ℕ → ℕ → Replacement → Answer (List ℕ)
replaced_in h s b l new = replaced (block_by h s b) l new

-- the head's refusal, 10, 12, then as for a block
unfoldable pub sheet_refusal : Head → List ℕ → ℕ → ℕ → Replacement → ℕ
sheet_refusal h s b l new = first (find_refusal h s b ∷ (replaced_in h s b l new).refusal ∷ [])

-- in words, down to the numbers of the head and the values of the line
abbrev pub sheet_rules : List ℕ → ℕ → ℕ → Replacement → List Rule
sheet_rules s b l new = head_rules s ++ behind_head (read_head s) s b ++ call_rules (block_in s b) (call_of l new)

-- the sheet afterwards
unfoldable pub sheet_after : Head → List ℕ → ℕ → ℕ → Replacement → List ℕ
sheet_after h s b l new = pick (eqb (sheet_refusal h s b l new) 0) (put_block s (place_of h b) (replaced_in h s b l new).value) s

-- what `replace_in_sheet` promises: its answer, and every byte of the sheet
abbrev pub ReplacesInSheet : List ℕ → ℕ → ℕ → Replacement → ℕ → List ℕ → Type 0
ReplacesInSheet sheet b l new answer after =
    let h = read_head sheet in (answer ≡ sheet_refusal h sheet b l new) × (after ≡ sheet_after h sheet b l new)
