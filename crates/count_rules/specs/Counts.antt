-- THE COUNTS OF A SHEET, of either form: how many of its blocks have each mode, and how many are opaque.
-- Assumes nothing.
use Rattle.std.specs.Prelude.{ℕ, ◌≡◌, Bool, List, [], ◌∷◌, ◌++◌, Result, Ok, Err, eqb, replicate}
use Rattle.laws.specs.Counting.{count}
use Rattle.laws.specs.Refusals.{Rule}
use Rattle.laws.specs.Tables.{pick, table}
use Rattle.bc7_format.specs.Modes.{mode_of}
use Rattle.head_rules.specs.Answers.{Head}
use Rattle.head_rules.specs.Geometry.{blocks_of}
use Rattle.head_rules.specs.Heads.{head_rules, read_head}
use Rattle.head_rules.specs.Whole.{whole_refusal, whole_rule}
use Rattle.opacity_rules.specs.Opacity.{opaque_in}
use Rattle.sheet_rules.specs.Sheets.{block_by}
use Rattle.count_rules.specs.declared.Counts.{Counts}
use Rattle.refusals.specs.declared.Refusal.{Refusal}
use Rattle.refusals.specs.Answers.{number}

-- Each of these goes by a head: h is what was read of the sheet's own. b is the number of a block, row by row in both forms.

-- has block b mode m, where 8 is reserved
unfoldable pub has_mode : Head → List ℕ → ℕ → ℕ → Bool
has_mode h s m b = eqb (mode_of (block_by h s b)) m

-- has every pixel that the sheet shows of block b alpha 255
unfoldable pub is_opaque : Head → List ℕ → ℕ → Bool
is_opaque h s b = opaque_in h.width h.height b (block_by h s b)

-- TAKEN AFRESH FROM THE BYTES, of the blocks 0 to n - 1; and of all
unfoldable pub counts_below : Head → List ℕ → ℕ → Counts
counts_below h s n = record { modes = table 9 (λ m. count n (has_mode h s m)); opaque = count n (is_opaque h s) }

abbrev pub counts_of : Head → List ℕ → Counts
counts_of h s = counts_below h s (blocks_of h)

abbrev pub no_counts : Counts
no_counts = record { modes = replicate 9 0; opaque = 0 }

-- when counting is refused, in words down to the numbers of the head: the head's refusals, then 10
abbrev pub count_rules : List ℕ → List Rule
count_rules s = head_rules s ++ (whole_rule (read_head s) s ∷ [])

-- WHAT COUNTING ANSWERS, and what a replacement that comes with counts hands back, as document 01 has it: a refusal and counts. A refused counting
-- has zeros, a refused replacement the counts that came: this is what a result answers, where a refusal has these counts
pub record Counted : Type 0 where
  pub refusal : ℕ
  pub counts : Counts

abbrev pub counted : ℕ → Counts → Counted
counted r n = record { refusal = r; counts = n }

abbrev pub counts_answered : Counts → Result Counts Refusal → Counted
counts_answered left (Ok n) = counted 0 n
counts_answered left (Err r) = counted (number r) left

-- what counting answers: the counts, or zeros where it is refused
unfoldable pub counted_of : Head → List ℕ → Counted
counted_of h s = counted (whole_refusal h s) (pick (eqb (whole_refusal h s) 0) (counts_of h s) no_counts)

-- what counting promises: its answer, whole
abbrev pub CountsSheet : List ℕ → Counted → Type 0
CountsSheet sheet answer = answer ≡ counted_of (read_head sheet) sheet
