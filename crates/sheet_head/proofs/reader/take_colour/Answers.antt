-- `reader::take_colour` meets its contract.
-- Assumes nothing.
use mathlib.Core.Path.{◌∙◌, ap, sym}
use borrow.Author.Tests.{ne_eqb}
use Rattle.refusals.specs.Answers.{Answer}
use Rattle.refusals.proofs.Answers.{number_not_0}
use Rattle.head_rules.specs.declared.ColourSpace.{ColourSpace}
use Rattle.head_rules.specs.Answers.{reader_answered}
use Rattle.head_rules.specs.Reader.{colour_taken}
use Rattle.head_rules.proofs.Answers.{passed_up}
use Rattle.sheet_head.proofs.reader.take_colour.Goals as goal

pub returns-in_err-colour_space : goal.returns-in_err-colour_space
unfolding colour_taken
returns-in_err-colour_space c =
    ap reader_answered (passed_up _ c.from_residual.ensures.1)
    ∙ sym (rw (← ap (λ (a : Answer ColourSpace). a.refusal) c.in_err-colour_space.ensures, ne_eqb _ 0 (number_not_0 c.in_err-colour_space.field-0.0)))

pub returns : goal.returns
unfolding colour_taken
returns c =
    let e = c.in_ok-colour_space.ensures in
    c.take_size.ensures
    ∙ sym (rw (← ap (λ (a : Answer ColourSpace). a.refusal) e, ← ap (λ (a : Answer ColourSpace). a.value) e))
