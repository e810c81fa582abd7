-- What reading a line and replacing one promise, and a replacement as bytes, under one name each: the contract and `determined-*` say the same.
-- Assumes nothing.
use Rattle.std.specs.Prelude.{◌≡◌, List, ℕ, Result}
use Rattle.line_rules.specs.declared.Replacement.{Replacement}
use Rattle.refusals.specs.Answers.{answer_of}
use Rattle.refusals.specs.declared.Refusal.{Refusal}
use Rattle.line_rules.specs.declared.LineRead.{LineRead}
use Rattle.line_rules.specs.Read.{line_read, lines_as, no_line, replacement_bytes, replacement_of}
use Rattle.line_rules.specs.Replace.{replaced}

abbrev pub Replaces : List ℕ → ℕ → Replacement → Result (List ℕ) Refusal → Type 0
Replaces block line new answer = answer_of block answer ≡ replaced block line new

abbrev pub ReadsLine : List ℕ → ℕ → Result LineRead Refusal → Type 0
ReadsLine block line answer = answer_of (lines_as no_line no_line) answer ≡ line_read block line

abbrev pub ReadsReplacement : List ℕ → Replacement → Type 0
ReadsReplacement bytes answer = answer ≡ replacement_of bytes

abbrev pub WritesReplacement : Replacement → List ℕ → Type 0
WritesReplacement g answer = answer ≡ replacement_bytes g
