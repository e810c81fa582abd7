-- `read_of_form_numbered` meets its contract.
-- Assumes nothing.
use mathlib.Core.Logic.{inl, inr}
use mathlib.Core.Path.{◌∙◌, ap, refl}
use Rattle.refusals.specs.Answers.{number}
use Rattle.refusals.proofs.Answers.{number_injective, number_not_0}
use Rattle.head_rules.specs.Answers.{no_head}
use Rattle.head_rules.proofs.Between.{given_before_9, nothing_before_9, refused_before_9}
use Rattle.sheet_head.proofs.read_of_form_numbered.Goals as goal

pub returns-then-own-eq0-clause-head : goal.returns-then-own-eq0-clause-head
returns-then-own-eq0-clause-head c = nothing_before_9 _ _ _ c.in-Ok.ensures c.if-own-eq0.true

pub returns-else-own-eq0-clause-number : goal.returns-else-own-eq0-clause-number
returns-else-own-eq0-clause-number c = given_before_9 _ _ _ c.in-Ok.ensures c.if-own-eq0.false (inl refl)

pub returns-then-own-eq0-2-clause-number : goal.returns-then-own-eq0-2-clause-number
returns-then-own-eq0-2-clause-number c = ap no_head c.number.ensures ∙ nothing_before_9 _ _ _ c.in-Err.ensures c.if-own-eq0-2.true

pub returns-in-BadSide-clause-number : goal.returns-in-BadSide-clause-number
returns-in-BadSide-clause-number c = given_before_9 _ _ _ c.in-Err.ensures c.if-own-eq0-2.false (inr (ap number c.in-BadSide.is))

pub returns-in_default : goal.returns-in_default
returns-in_default c = record {
  head = tt;
  number = ap no_head c.number-in_default.ensures ∙ refused_before_9 _ _ _ c.in-Err.ensures (number_not_0 _) (λ q. c.in_default.not-BadSide (number_injective q));
}
