-- What a call on a sheet is answered, and which sheet it leaves.
-- Assumes nothing.
use mathlib.Core.Path.{◌≡◌}
use mathlib.Core.List.{List, [], ◌∷◌, ◌++◌}
use Prim.Native.Nat.{ℕ}
use borrow.Author.Tests.{eq-eqb, ne_eqb}
use Rattle.bcn_format.specs.Block.{put_block}
use Rattle.line_rules.specs.declared.Replacement.{Replacement}
use Rattle.laws.specs.Refusals.{handed}
use Rattle.laws.proofs.Refusals.{Answers, answers, by_answer, none, rule, rules}
use Rattle.head_rules.specs.Geometry.{place_of}
use Rattle.head_rules.specs.Heads.{read_head}
use Rattle.head_rules.specs.Answers.{Head}
use Rattle.sheet_rules.specs.Sheets.{find_refusal, find_rules, replaced_in, sheet_after, sheet_refusal}
use Rattle.sheet_rules.proofs.Finding.{finding}

module _ (s : List ℕ) (b l : ℕ) (new : Replacement) where
  abbrev h : Head
  h = read_head s

  pub refused_is : (sheet_refusal h s b l new ≡ 0 → ⊥) → sheet_after h s b l new ≡ s
  unfolding sheet_after
  refused_is ne = rw (ne_eqb (sheet_refusal h s b l new) 0 ne)

  pub accepted_is : sheet_refusal h s b l new ≡ 0 → sheet_after h s b l new ≡ put_block s (place_of h b) (replaced_in h s b l new).value
  unfolding sheet_after
  accepted_is e = rw (eq-eqb (sheet_refusal h s b l new) 0 e)

  -- what `find_block` answers, then as for the block
  pub handing : Answers (sheet_refusal h s b l new) (handed (find_refusal h s b) ∷ handed (replaced_in h s b l new).refusal ∷ [])
  unfolding sheet_refusal
  handing = answers (rule by_answer λ f. rule by_answer λ z. none)

  -- the head's refusal, 10, 12, then as for the block
  pub replacing : Answers (sheet_refusal h s b l new) (find_rules h s b ++ (handed (replaced_in h s b l new).refusal ∷ []))
  unfolding sheet_refusal
  replacing = answers (rules (finding s b) λ m. rule by_answer λ z. none)
