-- `import_dds` meets its contract.
-- Assumes nothing.
use mathlib.Core.Path.{◌∙◌, refl, sym}
use Rattle.refusals.proofs.Answers.{number_not_0}
use Rattle.head_rules.proofs.Answers.{passed_up}
use Rattle.dds.proofs.Answers.{import_11, import_refused, import_sized}
use Rattle.dds.proofs.Reading.{import_filled, import_fits}
use Rattle.dds.proofs.import_dds.Goals as goal

pub returns-in_err-head : goal.returns-in_err-head
returns-in_err-head c =
    rw (passed_up _ c.from_residual.ensures.1) (import_refused _ _ c.in_err-head.ensures (number_not_0 _))

pub whole_length-requires : goal.whole_length-requires
whole_length-requires c = import_sized _ c.in_ok-head.ensures refl

pub returns-then-out-whole_length : goal.returns-then-out-whole_length
returns-then-out-whole_length c =
    import_11 _ _ c.in_ok-head.ensures refl (λ l. c.if-out-whole_length.true (l ∙ sym c.whole_length.ensures)) refl

pub bytes_of-written-requires : goal.bytes_of-written-requires
bytes_of-written-requires c = import_sized _ c.in_ok-head.ensures refl

pub fill-requires : goal.fill-requires
fill-requires c =
    import_fits _ c.args.out.now c.in_ok-head.ensures refl c.bytes_of-written.ensures (c.if-out-whole_length.false ∙ c.whole_length.ensures)

pub returns : goal.returns
returns c =
    import_filled _ _ c.in_ok-head.ensures refl c.bytes_of-written.ensures (c.if-out-whole_length.false ∙ c.whole_length.ensures) c.fill.ensures
