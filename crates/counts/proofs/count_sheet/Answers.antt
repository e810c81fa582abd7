-- `count_sheet` meets its contract.
-- Assumes nothing.
use mathlib.Core.Path.{◌∙◌, ap, refl}
use Rattle.refusals.proofs.Answers.{number_not_0}
use Rattle.head_rules.proofs.Answers.{passed_up}
use Rattle.count_rules.specs.Counts.{counts_answered, no_counts}
use Rattle.counts.proofs.Counting.{all_counted, not_counted, reads_whole, whole_blocks}
use Rattle.counts.proofs.count_sheet.Goals as goal

pub returns-in_err-head : goal.returns-in_err-head
returns-in_err-head c =
    ap (counts_answered no_counts) (passed_up _ c.from_residual.ensures.1) ∙ not_counted _ (reads_whole _ c.in_err-head.ensures) (number_not_0 _)

pub count_blocks-requires : goal.count_blocks-requires
count_blocks-requires c = whole_blocks _ (reads_whole _ c.in_ok-head.ensures) refl

pub returns : goal.returns
returns c = all_counted _ (reads_whole _ c.in_ok-head.ensures) refl c.count_blocks.ensures
