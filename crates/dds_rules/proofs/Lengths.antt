-- AN ANSWER ABOUT A LENGTH IS ONE RESULT'S.
-- Assumes nothing.
use mathlib.Core.Path.{◌≡◌, ap, sym}
use Prim.Native.Nat.{ℕ}
use Rattle.std.specs.Prelude.{Result, Ok, Err}
use Rattle.refusals.specs.declared.Refusal.{Refusal}
use Rattle.refusals.proofs.Answers.{number_injective, number_not_0}
use Rattle.dds_rules.specs.Lengths.{Length, length_answered}

pub length_fixes : (a b : Result ℕ Refusal) → length_answered a ≡ length_answered b → a ≡ b
length_fixes (Ok v) (Ok w) e = ap (λ (x : Length). Ok x.length) e
length_fixes (Ok v) (Err q) e = absurd (number_not_0 q (sym (ap (λ (x : Length). x.refusal) e)))
length_fixes (Err r) (Ok w) e = absurd (number_not_0 r (ap (λ (x : Length). x.refusal) e))
length_fixes (Err r) (Err q) e = ap Err (number_injective (ap (λ (x : Length). x.refusal) e))
