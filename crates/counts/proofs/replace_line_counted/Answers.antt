-- `replace_line_counted` meets its contract.
-- Assumes nothing.
use mathlib.Core.Path.{refl}
use Rattle.refusals.proofs.Answers.{number_not_0}
use Rattle.head_rules.proofs.Answers.{passed_up}
use Rattle.counts.proofs.Naming.{line_put_is, line_refused, not_named_as}
use Rattle.counts.proofs.replace_line_counted.Goals as goal

pub returns-in_err-named : goal.returns-in_err-named
returns-in_err-named c =
    rw (passed_up _ c.from_residual.ensures.1) (not_named_as _ _ _ _ c.in_err-named.ensures (number_not_0 _) refl)

pub returns-in_err-made : goal.returns-in_err-made
returns-in_err-made c =
    rw (passed_up _ c.from_residual-in_err-made.ensures.1)
    (line_refused _ _ _ _ _ (c.in_ok-named.ensures.here _ refl) c.in_err-made.ensures (number_not_0 _) refl)

pub returns : goal.returns
returns c = line_put_is _ _ _ _ _ (c.in_ok-named.ensures.here _ refl) c.in_ok-made.ensures refl c.put.ensures refl
