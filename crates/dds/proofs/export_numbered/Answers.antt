-- `export_numbered` meets its contract.
-- Assumes nothing.
use mathlib.Core.Path.{◌≡◌, ◌∙◌, ap, refl}
use Rattle.std.specs.Prelude.{Result, Ok, Err, ⊤}
use Rattle.std.specs.Result.{result_and}
use Rattle.refusals.specs.declared.Refusal.{Refusal}
use Rattle.refusals.specs.Answers.{number_of}
use Rattle.refusals.proofs.Answers.{number_not_0}
use Rattle.head_rules.specs.declared.Head.{Head}
use Rattle.head_rules.specs.Answers.{head_answered}
use Rattle.dds.proofs.Answers.{numbered_exported, numbered_refused}
use Rattle.dds.proofs.export_numbered.Goals as goal

pub returns-in-Ok : goal.returns-in-Ok
returns-in-Ok c = numbered_exported _ _ _ (ap (λ a. a.refusal) c.in-Ok.ensures) refl (ap (λ a. a.value) c.in-Ok.ensures) c.export_dds.ensures

-- of a head the refusal alone is handed on
refusal_alone : (x : Result Head Refusal) (o : Result ⊤ Refusal) → number_of o ≡ 0 → number_of (result_and x o) ≡ (head_answered x).refusal
refusal_alone (Ok h) o e = e
refusal_alone (Err r) o e = refl

pub returns-in-Err : goal.returns-in-Err
returns-in-Err c =
    rw (ap number_of c.and.ensures ∙ refusal_alone _ (Ok tt) refl)
    (numbered_refused _ _ _ (ap (λ a. a.refusal) c.in-Err.ensures) (number_not_0 _) c.read_of_form_with.ensures)
