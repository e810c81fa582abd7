-- `next_number` meets its contract.
-- Assumes nothing.
use mathlib.Core.Path.{◌≡◌, ◌∙◌, ap, refl}
use mathlib.Core.List.{List}
use Prim.Native.Nat.{ℕ}
use native.Mathlib.Omega.{arith}
use Rattle.std.specs.Prelude.{Result}
use Rattle.refusals.specs.declared.Refusal.{Refusal}
use Rattle.refusals.proofs.Answers.{number_not_0}
use Rattle.head_rules.specs.declared.HeadReader.{HeadReader}
use Rattle.head_rules.specs.Answers.{reader_answered, reader_known}
use Rattle.head_rules.specs.Reader.{next_number}
use Rattle.head_rules.proofs.Answers.{passed_up}
use Rattle.head_rules.proofs.Reading.{near}
use Rattle.head_rules.proofs.Bytewise.{next_near, next_refuses, next_takes, no_next}
use Rattle.sheet_head.specs.Promised.{TakesNumber}
use Rattle.sheet_head.proofs.next_number.Goals as goal

-- the number ends three bytes behind its place at the most
taken : {s : List ℕ} {r : HeadReader} (x : Result HeadReader Refusal) → reader_answered x ≡ next_number s (reader_known r) → TakesNumber s r x
taken {s} {r} x e = record { same = e; near = rw e (next_near s (reader_known r)) }

pub returns-then-has_ended : goal.returns-then-has_ended
returns-then-has_ended c = taken _ (no_next _ _ c.has_ended.ensures c.if-has_ended.true)

pub returns-in_err-number : goal.returns-in_err-number
returns-in_err-number c = taken _ (ap reader_answered (passed_up _ c.from_residual.ensures.1)
    ∙ next_refuses _ _ c.has_ended.ensures c.if-has_ended.false c.in_err-number.ensures (number_not_0 _))

pub overflow_cast-number : goal.overflow_cast-number
overflow_cast-number c = omega (arith, near _ _ c.in_ok-number.ensures, c.requires)

pub returns : goal.returns
returns c = taken _ (c.take_number.ensures ∙ next_takes _ _ c.has_ended.ensures c.if-has_ended.false c.in_ok-number.ensures refl)
