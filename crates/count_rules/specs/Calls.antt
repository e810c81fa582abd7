-- Calls on a sheet that comes with counts, one after another.
-- Assumes nothing.
use Rattle.std.specs.Prelude.{ℕ, List, [], ◌∷◌, ◌++◌, ◌≡◌, eqb}
use Rattle.laws.specs.Calls as calls
use Rattle.laws.specs.Digits.{Fit}
use Rattle.laws.specs.Tables.{pick}
use Rattle.bcn_format.specs.Block.{eights}
use Rattle.head_rules.specs.Heads.{read_head}
use Rattle.line_rules.specs.declared.Replacement.{Replacement}
use Rattle.refusals.specs.Answers.{Answer}
use Rattle.line_rules.specs.Replace.{Call, call_of, replaced, replaced_as}
use Rattle.sheet_rules.specs.Sheets.{block_in}
use Rattle.sheet_rules.specs.Calls.{SheetCall}
use Rattle.count_rules.specs.declared.Counts.{Counts}
use Rattle.count_rules.specs.Counts.{counted, counted_of}
use Rattle.count_rules.specs.Keeping.{kept_counts, kept_refusal, kept_sheet}

-- what is done to a block: one of its lines is replaced, or all of it, by sixteen bytes
pub data Edit : Type 0 where
  line : ℕ → Replacement → Edit
  whole : (new : List ℕ) → Fit eights new → Edit

-- what it is answered of the block alone, and the block that it makes
abbrev pub made : List ℕ → Edit → Answer (List ℕ)
made block (line l new) = replaced block l new
made block (whole new sixteen) = replaced_as 0 new

-- a call names a block and what is done to it
pub record KeptCall : Type 0 where
  pub block : ℕ
  pub edit : Edit

-- a line replacement of a sheet without counts, as one with them
abbrev pub with_counts : SheetCall → KeptCall
with_counts c = record { block = c.block; edit = line c.line c.given }

-- A SHEET AND THE COUNTS BESIDE IT
abbrev pub Kept : Type 0
Kept = List ℕ × Counts

-- the counts are those that counting the sheet answers
abbrev pub TrueCounts : Kept → Type 0
TrueCounts k = counted_of (read_head k.0) k.0 ≡ counted 0 k.1

-- what a call is answered, and the sheet and counts it leaves
abbrev pub answer_on : Kept → KeptCall → ℕ
answer_on k c = kept_refusal (read_head k.0) k.0 k.1 c.block (made (block_in k.0 c.block) c.edit)

abbrev pub kept_with : Kept → KeptCall → Kept
kept_with k c =
    let m = made (block_in k.0 c.block) c.edit in
    (kept_sheet (read_head k.0) k.0 k.1 c.block m, kept_counts (read_head k.0) k.0 k.1 c.block m)

-- after a list of calls, refused ones among them; and what each of them is answered
abbrev pub kept_with_all : Kept → List KeptCall → Kept
kept_with_all k cs = calls.run kept_with k cs

abbrev pub answers_on : Kept → List KeptCall → List ℕ
answers_on k cs = calls.told kept_with answer_on k cs

-- DEMAND 3 reads between two whole-block replacements of a block. c doesn't replace block b whole
abbrev pub IsLine : Edit → Type 0
IsLine (line l new) = Unit {0}
IsLine (whole new sixteen) = ⊥

abbrev pub NotWhole : ℕ → KeptCall → Type 0
NotWhole b c = c.block ≡ b → IsLine c.edit

-- the line replacements of a list that name block b, as calls on that block
abbrev pub line_in : Edit → List Call
line_in (line l new) = call_of l new ∷ []
line_in (whole new sixteen) = []

unfoldable pub lines_on : ℕ → List KeptCall → List Call
lines_on b [] = []
lines_on b (c ∷ cs) = pick (eqb c.block b) (line_in c.edit) [] ++ lines_on b cs
