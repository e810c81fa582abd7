-- `rinchovek_sheet_replace_line`: what `replace_in_sheet` answers and leaves.
-- Assumes nothing.
use mathlib.Core.Path.{ap, ◌∙◌}
use Rattle.sheet_rules.specs.Sheets.{sheet_after, sheet_refusal}
use Rattle.rinchovek.proofs.rinchovek_sheet_replace_line.Goals as goal

pub returns : goal.returns
returns c =
    let e = c.replace_in_sheet.ensures in
    let given = c.replacement_of.ensures in
    record { answers = c.number_or_0.ensures ∙ e.0 ∙ ap (sheet_refusal _ _ _ _) given; leaves = e.1 ∙ ap (sheet_after _ _ _ _) given }
