-- `export_dds` meets its contract.
-- Assumes nothing.
use mathlib.Core.Path.{◌∙◌, refl, subst, sym}
use Rattle.head_rules.specs.Answers.{Head}
use Rattle.head_rules.specs.Heads.{Sized}
use Rattle.refusals.proofs.Answers.{number_not_0}
use Rattle.head_rules.proofs.Answers.{passed_up}
use Rattle.dds.proofs.Answers.{export_11, export_refused, export_sized}
use Rattle.dds.proofs.Reading.{export_filled, export_fits}
use Rattle.dds.proofs.export_dds.Goals as goal

pub returns-in_err-head : goal.returns-in_err-head
returns-in_err-head c =
    rw (passed_up _ c.from_residual.ensures.1) (export_refused _ _ _ c.in_err-head.ensures (number_not_0 _))

pub file_length-requires : goal.file_length-requires
file_length-requires c = export_sized _ c.in_ok-head.ensures refl

pub returns-then-out-file_length : goal.returns-then-out-file_length
returns-then-out-file_length c =
    export_11 _ _ _ c.in_ok-head.ensures refl (λ l. c.if-out-file_length.true (l ∙ sym c.file_length.ensures))

pub numbers_of-requires : goal.numbers_of-requires
numbers_of-requires c = subst (λ (h : Head). Sized h.width h.height) (sym c.under.ensures) (export_sized _ c.in_ok-head.ensures refl)

pub fill-requires : goal.fill-requires
fill-requires c =
    export_fits _ _ c.args.out.now c.in_ok-head.ensures refl c.under.ensures c.numbers_of.ensures c.bytes_of-header.ensures
    (c.if-out-file_length.false ∙ c.file_length.ensures)

pub returns : goal.returns
returns c =
    export_filled _ _ _ c.in_ok-head.ensures refl c.under.ensures c.numbers_of.ensures c.bytes_of-header.ensures
    (c.if-out-file_length.false ∙ c.file_length.ensures) c.fill.ensures
