-- `state_colour` meets its contract.
-- Assumes nothing.
use mathlib.Core.Path.{ap, refl}
use Rattle.refusals.proofs.Answers.{number_not_0}
use Rattle.head_rules.proofs.Answers.{passed_up}
use Rattle.moves.proofs.Stating.{no_colour, not_whole, ready}
use borrow.Author.Rules.{rules}
use Rattle.moves.proofs.state_colour.Goals as goal

pub returns-in_err-head : goal.returns-in_err-head
returns-in_err-head c = rw (passed_up _ c.from_residual.ensures.1) (not_whole _ _ c.in_err-head.ensures (number_not_0 _))

pub returns-in_err-colour_numbered : goal.returns-in_err-colour_numbered
returns-in_err-colour_numbered c =
    rw (passed_up _ c.from_residual-in_err-colour_numbered.ensures.1)
    (no_colour _ _ c.in_ok-head.ensures refl (ap (λ a. a.refusal) c.in_err-colour_numbered.ensures) (number_not_0 _))

pub overflow_sub-at : goal.overflow_sub-at
overflow_sub-at c =
    (ready _ _ c.in_ok-head.ensures refl (ap (λ a. a.refusal) c.in_ok-colour_numbered.ensures) (search rules) refl).one_before

pub overflow_cast-sheet : goal.overflow_cast-sheet
overflow_cast-sheet c = record {
  fits = (ready _ _ c.in_ok-head.ensures refl (ap (λ a. a.refusal) c.in_ok-colour_numbered.ensures) (search rules) refl).byte;
}

pub bounds-sheet-at : goal.bounds-sheet-at
bounds-sheet-at c = (ready _ _ c.in_ok-head.ensures refl (ap (λ a. a.refusal) c.in_ok-colour_numbered.ensures) (search rules) refl).inside

pub returns : goal.returns
returns c = (ready _ _ c.in_ok-head.ensures refl (ap (λ a. a.refusal) c.in_ok-colour_numbered.ensures) (search rules) refl).stated
