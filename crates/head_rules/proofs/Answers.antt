-- AN ANSWER ABOUT HEADS IS ONE RESULT'S.
-- Assumes nothing.
use mathlib.Core.Path.{◌≡◌, ap, sym}
use Rattle.std.specs.Prelude.{Result, Ok, Err}
use Rattle.std.specs.Result.{IsErrAnd}
use Rattle.refusals.specs.declared.Refusal.{Refusal}
use Rattle.refusals.proofs.Answers.{number_injective, number_not_0}
use Rattle.head_rules.specs.declared.HeadBytes as bytes
use Rattle.head_rules.specs.declared.Head as heads
use Rattle.head_rules.specs.Answers.{Head, HeadBytes, bytes_answered, head_answered}

-- what the exit of a `?` returns: the refusal that came
pub passed_up : {A : Type 0} (r : Result A Refusal) {e : Refusal} → IsErrAnd r (λ y. y ≡ e) → r ≡ Err e
passed_up (Ok v) h = absurd h
passed_up (Err x) h = ap Err h

pub bytes_fixes : (a b : Result bytes.HeadBytes Refusal) → bytes_answered a ≡ bytes_answered b → a ≡ b
bytes_fixes (Ok v) (Ok w) e = ap (λ (x : HeadBytes). Ok (record { bytes = x.bytes; count = x.count })) e
bytes_fixes (Ok v) (Err q) e = absurd (number_not_0 q (sym (ap (λ (x : HeadBytes). x.refusal) e)))
bytes_fixes (Err r) (Ok w) e = absurd (number_not_0 r (ap (λ (x : HeadBytes). x.refusal) e))
bytes_fixes (Err r) (Err q) e = ap Err (number_injective (ap (λ (x : HeadBytes). x.refusal) e))

pub head_fixes : (a b : Result heads.Head Refusal) → head_answered a ≡ head_answered b → a ≡ b
head_fixes (Ok v) (Ok w) e = ap (λ (x : Head). Ok (record { form = x.form; width = x.width; height = x.height; start = x.start; colour_space = x.colour_space })) e
head_fixes (Ok v) (Err q) e = absurd (number_not_0 q (sym (ap (λ (x : Head). x.refusal) e)))
head_fixes (Err r) (Ok w) e = absurd (number_not_0 r (ap (λ (x : Head). x.refusal) e))
head_fixes (Err r) (Err q) e = ap Err (number_injective (ap (λ (x : Head). x.refusal) e))
