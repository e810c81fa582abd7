-- `block_in_sheet` meets its contract.
-- Assumes nothing.
use mathlib.Core.Path.{◌∙◌, ap, refl}
use Rattle.refusals.proofs.Answers.{number_not_0}
use Rattle.head_rules.proofs.Answers.{passed_up}
use Rattle.sheet_rules.specs.Blocks.{block_answered}
use Rattle.sheet.proofs.blocks.Finding.{has_room}
use Rattle.sheet.proofs.Reading.{block_read_is, not_read}
use Rattle.sheet.proofs.block_in_sheet.Goals as goal

pub returns-in_err-at : goal.returns-in_err-at
returns-in_err-at c = ap block_answered (passed_up _ c.from_residual.ensures.1) ∙ not_read _ _ c.in_err-at.ensures (number_not_0 _)

pub load-requires : goal.load-requires
load-requires c = has_room _ _ c.in_ok-at.ensures refl

pub returns : goal.returns
returns c = block_read_is _ _ c.in_ok-at.ensures refl c.load.ensures
