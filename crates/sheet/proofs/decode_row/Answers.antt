-- `decode_row` meets its contract.
-- Assumes nothing.
use mathlib.Core.Path.{◌∙◌, ap, refl, sym}
use Prim.Native.Nat.{ℕ, ◌*◌}
use native.Mathlib.Omega.{arith}
use Rattle.refusals.proofs.Answers.{number_not_0}
use Rattle.head_rules.proofs.Answers.{passed_up}
use Rattle.sheet.proofs.Decoding.{drawn_by, kept, told_by}
use Rattle.sheet.proofs.decode_row.Goals as goal

pub returns-in_err-check_row : goal.returns-in_err-check_row
returns-in_err-check_row c = rw (passed_up _ c.from_residual.ensures.1) (kept _ _ _ _ _ c.in_err-check_row.ensures (number_not_0 _))

pub shown_in-requires : goal.shown_in-requires
shown_in-requires c = omega (arith, (told_by _ _ _ _ _ c.in_ok-check_row.ensures refl).inside)

pub put_row-requires : goal.put_row-requires
put_row-requires c =
    let t = told_by _ _ _ _ _ c.in_ok-check_row.ensures refl in
    let w = c.args.width in
    record {
      scanlines = omega (arith, c.shown_in.ensures);
      some = omega (arith, t.size.wide);
      width = omega (arith, t.size.within_wide);
      blocks = t.enough;
      whole = t.space ∙ ap (λ (n : ℕ). n * (4 * w)) (sym c.shown_in.ensures);
    }

pub returns : goal.returns
returns c = drawn_by _ _ _ _ _ c.in_ok-check_row.ensures refl c.shown_in.ensures c.put_row.ensures
