-- The ways of `move_to`: x is the head of the sheet, if it is whole.
-- Assumes nothing.
use mathlib.Core.Path.{◌≡◌, ◌∙◌, ap, sym, subst}
use mathlib.Core.Logic.{◌≢◌}
use mathlib.Core.List.{List}
use Prim.Native.Nat.{ℕ}
use lib.ListN.{length}
use Rattle.laws.specs.Refusals.{Given, here, then}
use Rattle.laws.proofs.Refusals.{Met, accepted_when, exactly}
use Rattle.head_rules.specs.declared.Form.{Form}
use Rattle.head_rules.specs.Answers.{Head}
use Rattle.head_rules.specs.Geometry.{whole_length}
use Rattle.head_rules.specs.Heads.{Sized, read_of_form}
use Rattle.head_rules.specs.Whole.{whole_head, whole_refusal}
use Rattle.head_rules.proofs.Whole.{of_form_sized, whole_number, whole_told}
use Rattle.move_rules.specs.Moving.{move_after, move_refusal, moved_to, other}
use Rattle.move_rules.proofs.Moving.{behind_whole, handing, movable, moved_is, unmoved}

module _ (f : Form) (s out : List ℕ) {x : Head} (ex : x ≡ whole_head (read_of_form (other f) s) s) where
  abbrev h : Head
  h = read_of_form (other f) s

  -- a move that answers this number, and leaves this
  abbrev Leaves : ℕ → List ℕ → Type 0
  Leaves n after = (n ≡ move_refusal f s (length out)) × (after ≡ move_after f s out)

  left : {n : ℕ} → move_refusal f s (length out) ≡ n → n ≢ 0 → Leaves n out
  left e ne = (sym e, sym (unmoved f s out (λ z. ne (sym e ∙ z))))

  pub not_whole : x.refusal ≢ 0 → Leaves x.refusal out
  not_whole ne = let e = whole_number h s ex in left ((exactly (handing f s (length out)) _).1 (here (λ z. ne (e ∙ z))) ∙ sym e) ne

  module _ (z : x.refusal ≡ 0) where
    fits : whole_refusal h s ≡ 0
    fits = sym (whole_number h s ex) ∙ z

    head_is : x ≡ h
    head_is = (whole_told h s ex z).1

    pub long_is : length s ≡ whole_length x
    long_is = (whole_told h s ex z).0.long ∙ ap (λ (y : Head). whole_length y) (sym head_is)

    pub size_is : Sized x.width x.height
    size_is = of_form_sized (other f) s head_is z

    pub not_moved : {n : ℕ} → Given (behind_whole f x (length out)) n → n ≢ 0 → Leaves n out
    not_moved {n} g ne =
        left ((exactly (handing f s (length out)) n).1 (then fits (subst (λ (y : Head). Given (behind_whole f y (length out)) n) head_is g))) ne

    pub is_moved : Met (behind_whole f x (length out)) → {after : List ℕ} → after ≡ moved_to f x s → Leaves 0 after
    is_moved m {after} ea =
        let e = (accepted_when (handing f s (length out))).1 (fits, subst (λ (y : Head). Met (behind_whole f y (length out))) head_is m) in
        let q = head_is ∙ (movable f s (length out) e).same in
        (sym e, ea ∙ ap (λ (y : Head). moved_to f y s) q ∙ sym (moved_is f s out e))
