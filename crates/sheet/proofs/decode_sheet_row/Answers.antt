-- `decode_sheet_row` meets its contract.
-- Assumes nothing.
use Rattle.std.specs.Prelude.{ℕ}
use mathlib.Core.Path.{◌∙◌, ap, sym, refl}
use mathlib.Core.List.{[]}
use Prim.Native.Nat.{ℕ}
use native.Mathlib.Omega.{arith}
use Rattle.laws.specs.Refusals.{here, then}
use Rattle.refusals.proofs.Answers.{number_not_0}
use Rattle.head_rules.specs.Geometry.{out_length}
use Rattle.head_rules.proofs.Answers.{passed_up}
use Rattle.sheet.proofs.SheetDecoding.{head_is, is_drawn_is, long_is, not_drawn, not_whole, size_is}
use Rattle.sheet.proofs.decode_sheet_row.Goals as goal

pub returns-in_err-head : goal.returns-in_err-head
returns-in_err-head c = rw (passed_up _ c.from_residual.ensures.1) (not_whole _ _ _ c.in_err-head.ensures (number_not_0 _))

pub blocks_across-requires : goal.blocks_across-requires
blocks_across-requires c = (size_is _ 0 [] c.in_ok-head.ensures refl).within_high

pub returns-then-row-blocks_across : goal.returns-then-row-blocks_across
returns-then-row-blocks_across c =
    let across = c in
    let told = across in
    not_drawn _ _ _ c.in_ok-head.ensures refl
    (here (λ q. omega (arith, c.if-row-blocks_across.true, across.blocks_across.ensures, q))) (λ z. omega arith)

pub out_length-requires : goal.out_length-requires
out_length-requires c =
    let told = c in
    record {
      wide = (size_is _ 0 [] c.in_ok-head.ensures refl).within_wide;
      few = omega (arith, c.shown_in-scanlines.ensures);
    }

pub returns-then-out-out_length : goal.returns-then-out-out_length
returns-then-out-out_length c =
    let room = c in
    let shown = room in
    let inside = shown in
    let across = inside in
    let told = across in
    let head = c.in_ok-head.head in
    not_drawn _ _ _ c.in_ok-head.ensures refl (then (omega (arith, inside.if-row-blocks_across.false, across.blocks_across.ensures))
    (here (λ q. c.if-out-out_length.true (q ∙ sym (room.out_length.ensures ∙ ap (λ (n : ℕ). out_length head.width n) shown.shown_in-scanlines.ensures)))))
    (λ z. omega arith)

pub put_sheet_row-requires : goal.put_sheet_row-requires
put_sheet_row-requires c =
    let fits = c in
    let room = fits in
    let shown = room in
    let inside = shown in
    let across = inside in
    let told = across.before in
    let head = c.in_ok-head.ensures in
    record {
      head = head_is _ 0 [] head refl;
      told = refl;
      long = (long_is _ 0 [] head refl).long;
      inside = omega (arith, inside.if-row-blocks_across.false, across.blocks_across.ensures);
      scanlines = omega (arith, shown.shown_in-scanlines.ensures);
      whole = fits.if-out-out_length.false ∙ room.out_length.ensures;
    }

pub returns : goal.returns
returns c =
    let put = c in
    let fits = put in
    let room = fits in
    let shown = room in
    let inside = shown in
    let across = inside in
    let told = across in
    let head = c.in_ok-head.head in
    is_drawn_is _ _ _ c.in_ok-head.ensures refl (
      omega (arith, inside.if-row-blocks_across.false, across.blocks_across.ensures),
      (
        fits.if-out-out_length.false ∙ room.out_length.ensures ∙ ap (λ (n : ℕ). out_length head.width n) shown.shown_in-scanlines.ensures,
        tt,
      ),
    ) shown.shown_in-scanlines.ensures put.put_sheet_row.ensures
