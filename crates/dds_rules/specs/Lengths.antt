-- HOW MANY BYTES A CALL NEEDS for its output, as document 01 has it: the number of a refusal, 0 for none, and the length, 0 where the call would be
-- refused whatever the output's length. A call answers a result, and what a result answers is said here.
-- Assumes nothing.
use Rattle.std.specs.Prelude.{ℕ, Result, Ok, Err}
use Rattle.refusals.specs.declared.Refusal.{Refusal}
use Rattle.refusals.specs.Answers.{number}

pub record Length : Type 0 where
  pub refusal : ℕ
  pub length : ℕ

abbrev pub length_answered : Result ℕ Refusal → Length
length_answered (Ok n) = record { refusal = 0; length = n }
length_answered (Err r) = record { refusal = number r; length = 0 }
