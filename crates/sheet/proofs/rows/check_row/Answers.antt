-- `rows::check_row` meets its contract.
-- Assumes nothing.
use mathlib.Core.Path.{◌∙◌, ap, sym}
use native.Mathlib.Omega.{arith}
use Rattle.laws.specs.Refusals.{here, then}
use Rattle.laws.proofs.Refusals.{accepted_when, exactly}
use Rattle.refusals.specs.Answers.{number_of}
use Rattle.refusals.proofs.Answers.{number_not_0}
use Rattle.head_rules.specs.Geometry.{out_length}
use Rattle.head_rules.proofs.Answers.{passed_up}
use Rattle.head_rules.proofs.Heading.{size_refused, sized}
use Rattle.sheet_rules.proofs.Refusing.{row_rules_is}
use Rattle.sheet.proofs.rows.check_row.Goals as goal

pub returns-in_err-check_size : goal.returns-in_err-check_size
returns-in_err-check_size c =
    let x = size_refused _ _ _ c.in_err-check_size.ensures (number_not_0 _) in
    ap number_of (passed_up _ c.from_residual.ensures.1) ∙ x.0 ∙ sym ((exactly (row_rules_is _ _ _ _ _) 9).1 (here x.1))

pub blocks_across-requires : goal.blocks_across-requires
blocks_across-requires c = (sized _ _ _ (sym c.in_ok-check_size.ensures)).within_high

pub returns-then-row-blocks_across : goal.returns-then-row-blocks_across
returns-then-row-blocks_across c =
    let size = sized _ _ _ (sym c.in_ok-check_size.ensures) in
    sym ((exactly (row_rules_is _ _ _ _ _) 12).1 (then size (here (λ b. omega (arith, c.if-row-blocks_across.true, c.blocks_across.ensures, b)))))

pub row_length-requires : goal.row_length-requires
row_length-requires c = (sized _ _ _ (sym c.in_ok-check_size.ensures)).within_wide

pub returns-then-given-row_length : goal.returns-then-given-row_length
returns-then-given-row_length c =
    let size = sized _ _ _ (sym c.in_ok-check_size.ensures) in
    sym ((exactly (row_rules_is _ _ _ _ _) 10).1 (then size (then (omega (arith, c.if-row-blocks_across.false, c.blocks_across.ensures))
    (here (λ z. c.if-given-row_length.true (z ∙ sym c.row_length.ensures))))))

pub out_length-requires : goal.out_length-requires
out_length-requires c = record { wide = (sized _ _ _ (sym c.in_ok-check_size.ensures)).within_wide; few = omega (arith, c.shown_in.ensures) }

pub returns-then-room-out_length : goal.returns-then-room-out_length
returns-then-room-out_length c =
    let size = sized _ _ _ (sym c.in_ok-check_size.ensures) in
    let e = c.out_length.ensures ∙ ap (out_length c.args.width) c.shown_in.ensures in
    sym ((exactly (row_rules_is _ _ _ _ _) 11).1 (then size (then (omega (arith, c.if-row-blocks_across.false, c.blocks_across.ensures))
    (then (c.if-given-row_length.false ∙ c.row_length.ensures) (here (λ z. c.if-room-out_length.true (z ∙ sym e)))))))

pub returns : goal.returns
returns c =
    let e = c.out_length.ensures ∙ ap (out_length c.args.width) c.shown_in.ensures in
    sym ((accepted_when (row_rules_is _ _ _ _ _)).1 (
      sized _ _ _ (sym c.in_ok-check_size.ensures),
      (
        omega (arith, c.if-row-blocks_across.false, c.blocks_across.ensures),
        (c.if-given-row_length.false ∙ c.row_length.ensures, (c.if-room-out_length.false ∙ e, tt)),
      ),
    ))
