-- `replace_in_sheet` meets its contract.
-- Assumes nothing.
use mathlib.Core.Path.{refl}
use Rattle.refusals.proofs.Answers.{number_not_0}
use Rattle.head_rules.proofs.Answers.{passed_up}
use Rattle.sheet.proofs.blocks.Finding.{has_room}
use Rattle.sheet.proofs.Replacing.{not_found, not_replaced, replaced_stored}
use Rattle.sheet.proofs.replace_in_sheet.Goals as goal

pub returns-in_err-at : goal.returns-in_err-at
returns-in_err-at c = rw (passed_up _ c.from_residual.ensures.1) (not_found _ _ _ _ c.in_err-at.ensures (number_not_0 _))

pub load-requires : goal.load-requires
load-requires c = has_room _ _ c.in_ok-at.ensures refl

pub returns-in_err-after : goal.returns-in_err-after
returns-in_err-after c =
    rw (passed_up _ c.from_residual-in_err-after.ensures.1)
    (not_replaced _ _ _ _ c.in_ok-at.ensures refl c.load.ensures c.in_err-after.ensures (number_not_0 _))

pub store-requires : goal.store-requires
store-requires c = has_room _ _ c.in_ok-at.ensures refl

pub returns : goal.returns
returns c = replaced_stored _ _ _ _ c.in_ok-at.ensures refl c.load.ensures c.in_ok-after.ensures refl c.store.ensures
