-- `rinchovek_sheet_open`: what `read_head` answers, in eight numbers.
-- Assumes nothing.
use mathlib.Core.Path.{refl}
use Rattle.refusals.proofs.Answers.{number_not_0}
use Rattle.rinchovek_rules.proofs.Opening.{not_opened, opened, sized}
use Rattle.rinchovek.proofs.rinchovek_sheet_open.Goals as goal

pub returns-in-Err : goal.returns-in-Err
returns-in-Err c = rw c.number.ensures (not_opened _ c.in-Err.ensures _ (number_not_0 _))

pub blocks_across-requires : goal.blocks_across-requires
blocks_across-requires c = (sized _ c.in-Ok.ensures refl).within_wide

pub blocks_across-requires-in-Ok : goal.blocks_across-requires-in-Ok
blocks_across-requires-in-Ok c = (sized _ c.in-Ok.ensures refl).within_high

pub blocks_of-requires : goal.blocks_of-requires
blocks_of-requires c = sized _ c.in-Ok.ensures refl

pub returns-in-Ok : goal.returns-in-Ok
returns-in-Ok c =
    opened _ c.in-Ok.ensures _ refl c.number_of.ensures c.number_of_form.ensures c.blocks_across.ensures c.blocks_across-in-Ok.ensures
    c.blocks_of.ensures.same
