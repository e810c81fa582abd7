-- What the calls promise, under one name each: the contract and `determined-*` say the same. Import and export promise their answer and
-- every byte of the output.
-- Assumes nothing.
use Rattle.std.specs.Prelude.{◌≡◌, List, ℕ, Result, ⊤, length}
use Rattle.refusals.specs.declared.Refusal.{Refusal}
use Rattle.dds_rules.specs.Lengths.{length_answered}
use Rattle.head_rules.specs.declared.ColourSpace.{ColourSpace}
use Rattle.head_rules.specs.Answers.{Head, head_answered}
use Rattle.head_rules.specs.declared.Head as heads
use Rattle.refusals.specs.Answers.{number_of}
use Rattle.dds_rules.specs.Files.{export_after, export_length, export_refusal, import_after, import_answer, import_length, numbered_after}
use Rattle.dds_rules.specs.Files.{numbered_refusal, sheet_head}

-- what import answers, and leaves
abbrev pub Imported : List ℕ → List ℕ → Head → List ℕ → Type 0
Imported dds before answer after = (answer ≡ import_answer dds (length before)) × (after ≡ import_after dds before)

abbrev pub Imports : List ℕ → List ℕ → Result heads.Head Refusal → List ℕ → Type 0
Imports dds before answer after = Imported dds before (head_answered answer) after

abbrev pub Exports : List ℕ → ColourSpace → List ℕ → Result ⊤ Refusal → List ℕ → Type 0
Exports sheet c before answer after =
    let h = sheet_head sheet in (number_of answer ≡ export_refusal h sheet (length before)) × (after ≡ export_after h c sheet before)

abbrev pub ExportsNumbered : List ℕ → ℕ → List ℕ → Result ⊤ Refusal → List ℕ → Type 0
ExportsNumbered sheet n before answer after = (number_of answer ≡ numbered_refusal sheet n (length before)) × (after ≡ numbered_after sheet n before)

abbrev pub ImportNeeds : List ℕ → Result ℕ Refusal → Type 0
ImportNeeds dds answer = length_answered answer ≡ import_length dds

abbrev pub ExportNeeds : List ℕ → Result ℕ Refusal → Type 0
ExportNeeds sheet answer = length_answered answer ≡ export_length sheet
