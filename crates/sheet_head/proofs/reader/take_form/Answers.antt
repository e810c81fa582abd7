-- `reader::take_form` meets its contract.
-- Assumes nothing.
use mathlib.Core.Path.{◌∙◌, ap}
use native.Mathlib.Omega.{arith}
use Rattle.head_rules.specs.declared.Form.{Form}
use Rattle.head_rules.specs.declared.ColourSpace.TheVariants.{Unspecified}
use Rattle.head_rules.specs.declared.Stage.TheVariants.{Width}
use Rattle.head_rules.specs.Heads.{head_in}
use Rattle.head_rules.specs.Reader.{awaiting}
use Rattle.head_rules.proofs.Bytewise.{none_taken, rows_taken, tiles_taken}
use Rattle.sheet_head.proofs.reader.take_form.Goals.{in-1, in-2}
use Rattle.sheet_head.proofs.reader.take_form.Goals as goal

pub returns-in_default : goal.returns-in_default
returns-in_default c = none_taken _ _ (λ e. omega (arith, e)) (λ e. omega (arith, e))

pub returns : goal.returns
returns c =
    let next = c.args.next in
    c.at_stage.ensures ∙ ap (awaiting Width) c.sides_known.ensures
    ∙ elim c.match-n.branch [
      | in-1 w ↦ ap (λ (f : Form). awaiting Width (head_in f Unspecified 0 0 0 next)) w.form-is ∙ rows_taken _ _ w.in-1.is
      | in-2 w ↦ ap (λ (f : Form). awaiting Width (head_in f Unspecified 0 0 0 next)) w.form-is ∙ tiles_taken _ _ w.in-2.is
    ]
