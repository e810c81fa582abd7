-- WHAT IS PROVED OF A BLOCK BY ITS NUMBER: when it is refused, and what is answered.
-- Assumes nothing.
use Prim.Native.Nat.{ℕ}
use mathlib.Core.Path.{◌≡◌, ◌∙◌, ap, sym}
use mathlib.Core.Logic.{◌≢◌, ◌↔◌}
use mathlib.Core.List.{List}
use borrow.Author.Tests.{ne_eqb}
use lib.ListN.{replicate}
use Rattle.head_rules.specs.Heads.{read_head}
use Rattle.std.specs.Prelude.{Result, Ok, Err}
use Rattle.refusals.specs.declared.Refusal.{Refusal}
use Rattle.refusals.proofs.Answers.{number_injective, number_not_0}
use Rattle.laws.specs.Refusals.{Given}
use Rattle.laws.proofs.Refusals.{answer_0, exactly}
use Rattle.sheet_rules.specs.Blocks.{BlockRead, ReadsBlock, block_answered, block_read, block_rules}
use Rattle.sheet_rules.specs.Sheets.{block_in, find_refusal}
use Rattle.sheet_rules.proofs.Finding.{finding_in_words}

module _ (s : List ℕ) (b : ℕ) where
  -- each refusal number is given exactly when the request says (`block_rules` has the words)
  pub block_refused_when : (n : ℕ) → ((block_read s b).refusal ≡ n) ↔ Given (block_rules s b) n
  unfolding block_read
  block_refused_when = exactly (finding_in_words s b)

  -- what is answered where it is accepted, and where not
  pub block_accepted : find_refusal (read_head s) s b ≡ 0 → record { refusal = 0; block = block_in s b } ≡ block_read s b
  unfolding block_read
  block_accepted e = sym (λ j. record { refusal = e j; block = answer_0 (block_in s b) (replicate 16 0) e j })

  pub block_refused : find_refusal (read_head s) s b ≢ 0 → record { refusal = find_refusal (read_head s) s b; block = replicate 16 0 } ≡ block_read s b
  unfolding block_read
  block_refused ne = rw (ne_eqb _ 0 ne)

-- an answer is one result's
block_fixes : (x y : Result (List ℕ) Refusal) → block_answered x ≡ block_answered y → x ≡ y
block_fixes (Ok v) (Ok w) e = ap (λ (a : BlockRead). Ok a.block) e
block_fixes (Ok v) (Err q) e = absurd (number_not_0 q (sym (ap (λ (a : BlockRead). a.refusal) e)))
block_fixes (Err r) (Ok w) e = absurd (number_not_0 r (ap (λ (a : BlockRead). a.refusal) e))
block_fixes (Err r) (Err q) e = ap Err (number_injective (ap (λ (a : BlockRead). a.refusal) e))

-- DEMAND 1: any two answers that the promise admits coincide
pub determined_block_in_sheet : (sheet : List ℕ) (b : ℕ) (x y : Result (List ℕ) Refusal) → ReadsBlock sheet b x → ReadsBlock sheet b y → x ≡ y
determined_block_in_sheet sheet b x y p q = block_fixes x y (p ∙ sym q)
