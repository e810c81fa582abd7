-- `lowest_with` meets its contract.
-- Assumes nothing.
use mathlib.Core.Path.{◌≡◌, ◌∙◌, ap, sym}
use mathlib.Core.List.{List}
use Prim.Native.Nat.{ℕ}
use Rattle.head_rules.specs.Answers.{known}
use Rattle.head_rules.specs.Answers.{Head}
use mathlib.Core.Bool.{Bool}
use borrow.Author.Rules.{rules}
use Rattle.profile_rules.specs.Profile.{admits}
use Rattle.profile.specs.Looking.{stored_block}
use Rattle.profile.proofs.Looking.{kept_as_it_was, kept_lower}
use Rattle.profile.proofs.lowest_with.Goals as goal

-- what the test says of the stored block
tested : (h : Head) (s : List ℕ) (p : ℕ) {t b : Bool} {block : List ℕ} → t ≡ admits block → block ≡ stored_block h s p → t ≡ b
    → admits (stored_block h s p) ≡ b
tested h s p told at e = sym (told ∙ ap admits at) ∙ e

pub returns-then-is_admitted : goal.returns-then-is_admitted
returns-then-is_admitted c = kept_as_it_was _ _ _ _ (tested (known c.args.head) _ _ c.is_admitted.ensures c.load.ensures c.if-is_admitted.true)

pub returns : goal.returns
returns c =
    kept_lower _ _ _ _ c.number_at-number.ensures.same (search rules)
    (tested (known c.args.head) _ _ c.is_admitted.ensures c.load.ensures c.if-is_admitted.false)
