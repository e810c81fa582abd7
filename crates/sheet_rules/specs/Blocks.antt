-- A BLOCK OF A SHEET BY ITS NUMBER, which counts row by row in either form.
-- Assumes nothing.
use Rattle.std.specs.Prelude.{ℕ, ◌≡◌, List, ◌++◌, Result, Ok, Err, eqb, replicate}
use Rattle.refusals.specs.declared.Refusal.{Refusal}
use Rattle.refusals.specs.Answers.{number}
use Rattle.laws.specs.Refusals.{Rule}
use Rattle.laws.specs.Tables.{pick}
use Rattle.head_rules.specs.Heads.{head_rules, read_head}
use Rattle.sheet_rules.specs.Sheets.{behind_head, block_in, find_refusal}

-- what is answered, as document 01 has it; and what a result answers
pub record BlockRead : Type 0 where
  pub refusal : ℕ
  pub block : List ℕ

abbrev pub block_answered : Result (List ℕ) Refusal → BlockRead
block_answered (Ok b) = record { refusal = 0; block = b }
block_answered (Err r) = record { refusal = number r; block = replicate 16 0 }

-- the head's refusals, 10, 12; and the block's bytes, zeros where it is refused
unfoldable pub block_read : List ℕ → ℕ → BlockRead
block_read s b = record { refusal = find_refusal (read_head s) s b; block = pick (eqb (find_refusal (read_head s) s b) 0) (block_in s b) (replicate 16 0) }

-- in words, down to the numbers of the head
abbrev pub block_rules : List ℕ → ℕ → List Rule
block_rules s b = head_rules s ++ behind_head (read_head s) s b

-- what `block_in_sheet` promises: its answer, whole
abbrev pub ReadsBlock : List ℕ → ℕ → Result (List ℕ) Refusal → Type 0
ReadsBlock sheet b answer = block_answered answer ≡ block_read sheet b
