-- `whole` meets its contract.
-- Assumes nothing.
use mathlib.Core.Path.{◌∙◌, refl, sym}
use native.Mathlib.Omega.{arith}
use Rattle.laws.specs.Refusals.{here, then}
use Rattle.refusals.proofs.Answers.{number_not_0}
use Rattle.head_rules.proofs.Whole.{is_whole, not_whole}
use Rattle.sheet_head.proofs.whole.Goals as goal

pub returns-then-sheet-whole_length : goal.returns-then-sheet-whole_length
returns-then-sheet-whole_length c =
    rw c.in-Ok.is
    (not_whole _ _ _ (then refl (here (λ q. c.if-sheet-whole_length.true (q ∙ sym c.whole_length.ensures)))) (λ z. omega arith))

pub returns-else-sheet-whole_length : goal.returns-else-sheet-whole_length
returns-else-sheet-whole_length c =
    rw c.in-Ok.is (is_whole _ _ (record { told = refl; long = c.if-sheet-whole_length.false ∙ c.whole_length.ensures }))

pub returns-in-Err : goal.returns-in-Err
returns-in-Err c = rw c.in-Err.is (not_whole _ _ _ (here (number_not_0 _)) (number_not_0 _))
