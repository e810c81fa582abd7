-- A WHOLE SHEET: its head is accepted, and behind it stand all blocks that the head says and no byte more. Every call that takes a whole sheet
-- looks at this first.
-- Assumes nothing.
use Rattle.std.specs.Prelude.{ℕ, ◌≡◌, not, List, [], ◌∷◌, eqb, length}
use Rattle.head_rules.specs.Answers.{Head}
use Rattle.laws.specs.Refusals.{Rule, first, refuse, unless}
use Rattle.head_rules.specs.Geometry.{whole_length}
use Rattle.head_rules.specs.Heads.{head_as}

-- h is what was read of the sheet's own head, by whatever reader: its refusal, then 10
unfoldable pub whole_refusal : Head → List ℕ → ℕ
whole_refusal h s = first (h.refusal ∷ refuse 10 (not (eqb (length s) (whole_length h))) ∷ [])

-- 10 in words
abbrev pub whole_rule : Head → List ℕ → Rule
whole_rule h s = unless 10 (length s ≡ whole_length h)

-- the head, or the refusal and zeros
unfoldable pub whole_head : Head → List ℕ → Head
whole_head h s = head_as (whole_refusal h s) h

-- what is not refused
pub record Whole (h : Head) (s : List ℕ) : Type 0 where
  pub told : h.refusal ≡ 0
  pub long : length s ≡ whole_length h
