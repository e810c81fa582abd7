-- When a row is refused, and when not.
-- Assumes nothing.
use mathlib.Core.Path.{◌≡◌}
use mathlib.Core.List.{List}
use Prim.Native.Nat.{ℕ, ◌*◌, ◌<◌}
use borrow.Author.Tests.{ne_eqb}
use lib.ListN.{length}
use Rattle.laws.proofs.Refusals.{Answers, answer_0, answers, by_leb, by_not_eqb, none, rule}
use Rattle.head_rules.specs.Geometry.{across, side_shown}
use Rattle.head_rules.specs.Heads.{Sized, limit}
use Rattle.head_rules.proofs.Heading.{size_test}
use Rattle.sheet_rules.specs.Rows.{row_bytes, row_out, row_out_up_to, row_refusal, row_refusal_up_to, row_rules}

module _ (w h row given room : ℕ) where
  pub row_rules_is : Answers (row_refusal w h row given room) (row_rules w h row given room)
  unfolding row_refusal_up_to
  row_rules_is = answers (
      rule (size_test limit w h) λ z. rule (by_leb tt (across h) row) λ b. rule (by_not_eqb tt given (16 * across w)) λ g. rule
      (by_not_eqb tt room (side_shown h row * (4 * w))) λ r. none)

  -- what an accepted row has
  pub record Accepted : Type 0 where
    pub size : Sized w h
    pub inside : row < across h
    pub enough : given ≡ 16 * across w
    pub space : room ≡ side_shown h row * (4 * w)

  pub told : row_refusal w h row given room ≡ 0 → Accepted
  told e = let (z, (b, (g, (r, u)))) = row_rules_is.met e in record { size = z; inside = b; enough = g; space = r }

pub drawn : (w h row : ℕ) (blocks out : List ℕ) → row_refusal w h row (length blocks) (length out) ≡ 0 → row_out w h row blocks out
    ≡ row_bytes w (side_shown h row) blocks
unfolding row_out_up_to
drawn w h row blocks out e = answer_0 _ _ e

pub undrawn : (w h row : ℕ) (blocks out : List ℕ) → (row_refusal w h row (length blocks) (length out) ≡ 0 → ⊥) → row_out w h row blocks out ≡ out
unfolding row_out_up_to
undrawn w h row blocks out ne = rw (ne_eqb (row_refusal w h row (length blocks) (length out)) 0 ne)
