-- COUNTS HANDED ON: a line of a block or a whole block is replaced in a sheet that comes with counts, and both are handed back.
-- Assumes nothing.
use Rattle.std.specs.Prelude.{ℕ, ◌+◌, ◌-◌, ◌<◌, ◌≤◌, ◌≡◌, ◌≢◌, Bool, true, false, not, List, [], ◌∷◌, ◌++◌, eqb, leb, get_or}
use Rattle.laws.specs.Refusals.{Rule, first, refuse, unless}
use Rattle.laws.specs.Tables.{both, pick, table}
use Rattle.laws.specs.Counting.{sum}
use Rattle.bc7_format.specs.Modes.{mode_of}
use Rattle.head_rules.specs.Answers.{Head}
use Rattle.head_rules.specs.Geometry.{blocks_of, place_of}
use Rattle.head_rules.specs.Heads.{head_rules, read_head}
use Rattle.line_rules.specs.declared.Replacement.{Replacement}
use Rattle.refusals.specs.Answers.{Answer}
use Rattle.line_rules.specs.Acceptable.{call_rules}
use Rattle.line_rules.specs.Replace.{call_of, replaced_as}
use Rattle.opacity_rules.specs.Opacity.{opaque_in}
use Rattle.bcn_format.specs.Block.{put_block}
use Rattle.sheet_rules.specs.Sheets.{behind_head, block_by, block_in, find_refusal, replaced_in}
use Rattle.count_rules.specs.declared.Counts.{Counts}
use Rattle.count_rules.specs.Counts.{Counted}
use Rattle.count_rules.specs.Counts.{counted, is_opaque}

-- the count of mode m; and the nine summed, as numbers: however large, the sum doesn't come round
abbrev pub of_mode : Counts → ℕ → ℕ
of_mode n m = get_or n.modes m 0

unfoldable pub of_all_modes : Counts → ℕ
of_all_modes n = sum 9 (of_mode n)

-- 19, THE COUNTS ARE FALSE, where a block is named that has this mode and is opaque or not, in a sheet of so many blocks: the nine mode counts
-- don't sum to the number of blocks; or the count of the block's present mode is zero; or the opaque count is zero while the block is opaque;
-- or is not below the number of blocks while it isn't
unfoldable pub false_of : ℕ → ℕ → Bool → Counts → ℕ
false_of blocks mode opaque n =
    first
    (refuse 19 (not (eqb (of_all_modes n) blocks))
    ∷ refuse 19 (eqb (of_mode n mode) 0)
    ∷ refuse 19 (both opaque (eqb n.opaque 0))
    ∷ refuse 19 (both (not opaque) (leb blocks n.opaque))
    ∷ [])

-- where block b of a sheet is named
abbrev pub false_refusal : Head → List ℕ → ℕ → Counts → ℕ
false_refusal h s b n = false_of (blocks_of h) (mode_of (block_by h s b)) (is_opaque h s b) n

-- the same in words
abbrev pub false_rules_of : ℕ → ℕ → Bool → Counts → List Rule
false_rules_of blocks mode opaque n =
    unless 19 (of_all_modes n ≡ blocks) ∷
    unless 19 (of_mode n mode ≢ 0) ∷
    unless 19 (opaque ≡ true → n.opaque ≢ 0) ∷
    unless 19 (opaque ≡ false → n.opaque < blocks) ∷
    []

abbrev pub false_rules : Head → List ℕ → ℕ → Counts → List Rule
false_rules h s b n = false_rules_of (blocks_of h) (mode_of (block_by h s b)) (is_opaque h s b) n

-- and ground by ground
pub data False (h : Head) (s : List ℕ) (b : ℕ) (n : Counts) : Type 0 where
  sum_differs : of_all_modes n ≢ blocks_of h → False h s b n
  none_of_its_mode : of_mode n (mode_of (block_by h s b)) ≡ 0 → False h s b n
  none_opaque : is_opaque h s b ≡ true → n.opaque ≡ 0 → False h s b n
  all_opaque : is_opaque h s b ≡ false → blocks_of h ≤ n.opaque → False h s b n

-- one less where the block was counted, one more where it is now
abbrev pub changed : Bool → Bool → ℕ → ℕ
changed was is n = n - pick was 1 0 + pick is 1 0

-- the counts once a block has another mode and is opaque or not: what it had and was, and what it has and is
unfoldable pub recounted_as : ℕ → Bool → ℕ → Bool → Counts → Counts
recounted_as had was has is n = record {
  modes = table 9 (λ m. changed (eqb had m) (eqb has m) (of_mode n m));
  opaque = changed was is n.opaque;
}

-- the counts once `new` is block b
abbrev pub recounted : Head → List ℕ → ℕ → List ℕ → Counts → Counts
recounted h s b new n = recounted_as (mode_of (block_by h s b)) (is_opaque h s b) (mode_of new) (opaque_in h.width h.height b new) n

-- A CALL ON BLOCK b: `made` is what it is answered of the block alone, and the block that it makes. The head's refusal, 10, 12, 19, then the
-- block's own; the sheet and the counts afterwards, as they came where the call is refused
unfoldable pub kept_refusal : Head → List ℕ → Counts → ℕ → Answer (List ℕ) → ℕ
kept_refusal h s n b made = first (find_refusal h s b ∷ false_refusal h s b n ∷ made.refusal ∷ [])

unfoldable pub kept_sheet : Head → List ℕ → Counts → ℕ → Answer (List ℕ) → List ℕ
kept_sheet h s n b made = pick (eqb (kept_refusal h s n b made) 0) (put_block s (place_of h b) made.value) s

unfoldable pub kept_counts : Head → List ℕ → Counts → ℕ → Answer (List ℕ) → Counts
kept_counts h s n b made = pick (eqb (kept_refusal h s n b made) 0) (recounted h s b made.value n) n

unfoldable pub kept_answer : Head → List ℕ → Counts → ℕ → Answer (List ℕ) → Counted
kept_answer h s n b made = counted (kept_refusal h s n b made) (kept_counts h s n b made)

-- a whole block is replaced by any sixteen bytes, and has no refusal of its own; a line has 1, 2, 3, 4 (`replaced_in` of sheet_rules)
abbrev pub block_made : List ℕ → Answer (List ℕ)
block_made new = replaced_as 0 new

-- the refusals in words
abbrev pub kept_rules : List ℕ → Counts → ℕ → List Rule
kept_rules s n b = head_rules s ++ behind_head (read_head s) s b ++ false_rules (read_head s) s b n

abbrev pub line_rules : List ℕ → Counts → ℕ → ℕ → Replacement → List Rule
line_rules s n b l new = kept_rules s n b ++ call_rules (block_in s b) (call_of l new)

-- what the two calls promise: refusal and counts, and every byte of the sheet
abbrev pub Keeps : List ℕ → Counts → ℕ → Answer (List ℕ) → Counted → List ℕ → Type 0
Keeps sheet n b made answer after =
    (answer ≡ kept_answer (read_head sheet) sheet n b made) × (after ≡ kept_sheet (read_head sheet) sheet n b made)

abbrev pub ReplacesLineCounted : List ℕ → Counts → ℕ → ℕ → Replacement → Counted → List ℕ → Type 0
ReplacesLineCounted sheet n b l new answer after = Keeps sheet n b (replaced_in (read_head sheet) sheet b l new) answer after

abbrev pub ReplacesBlockCounted : List ℕ → Counts → ℕ → List ℕ → Counted → List ℕ → Type 0
ReplacesBlockCounted sheet n b new answer after = Keeps sheet n b (block_made new) answer after
