-- The ways of `check_profile`: x is the head of the sheet, if it is whole.
-- Assumes nothing.
use mathlib.Core.Path.{◌≡◌, ◌∙◌, ap, sym, subst}
use mathlib.Core.Logic.{◌≢◌}
use mathlib.Core.List.{List}
use Prim.Native.Nat.{ℕ, ◌<◌, ◌≤◌}
use lib.ListN.{length}
use native.Mathlib.Omega.{arith}
use Rattle.refusals.specs.declared.Refusal.{Refusal}
use Rattle.refusals.specs.declared.Refusal.TheVariants.{ProfileBlock}
use Rattle.refusals.specs.Answers.{number}
use Rattle.head_rules.specs.Answers.{Head}
use Rattle.head_rules.specs.Geometry.{blocks_of, whole_length}
use Rattle.head_rules.specs.Heads.{Sized, read_head}
use Rattle.head_rules.specs.Whole.{whole_head, whole_refusal}
use Rattle.head_rules.proofs.Whole.{read_sized, whole_number, whole_told}
use Rattle.profile_rules.specs.Profile.{checked, first_breaking, sides_refusal}
use Rattle.profile_rules.proofs.Checking.{broken_at, given_below, kept, not_sides, not_whole, said, whole_below_20}

module _ (s : List ℕ) {x : Head} (ex : x ≡ whole_head (read_head s) s) where
  pub answers_not_whole : x.refusal ≢ 0 → said x.refusal 0 ≡ checked (read_head s) s
  answers_not_whole = not_whole (read_head s) s (whole_below_20 s) (whole_number (read_head s) s ex)

  pub not_20 : {r : Refusal} → number r ≡ x.refusal → r ≢ ProfileBlock
  not_20 e q =
      let below = whole_below_20 s in
      let z : ⊥ = omega (arith, sym e ∙ ap number q, whole_number (read_head s) s ex, below) in
      z

  module _ (z : x.refusal ≡ 0) where
    fits : whole_refusal (read_head s) s ≡ 0
    fits = sym (whole_number (read_head s) s ex) ∙ z

    head_is : x ≡ read_head s
    head_is = (whole_told (read_head s) s ex z).1

    pub size_is : Sized x.width x.height
    size_is = read_sized s head_is z

    pub long_is : length s ≡ whole_length x
    long_is = (whole_told (read_head s) s ex z).0.long ∙ ap whole_length (sym head_is)

    pub answers_not_sides : {n : ℕ} → n ≡ sides_refusal x → n ≢ 0 → said n 0 ≡ checked (read_head s) s
    answers_not_sides e = not_sides (read_head s) s fits (e ∙ ap sides_refusal head_is)

    pub not_20_but_17 : {r : Refusal} → number r ≡ sides_refusal x → r ≢ ProfileBlock
    unfolding sides_refusal
    not_20_but_17 e q =
        let below : sides_refusal x < 20 = given_below _ 17 (omega arith) in
        let n : ⊥ = omega (arith, sym e ∙ ap number q, below) in
        n

    module _ (even : sides_refusal x ≡ 0) {b : ℕ} (e : b ≡ first_breaking x s) where
      sides : sides_refusal (read_head s) ≡ 0
      sides = ap sides_refusal (sym head_is) ∙ even

      first : b ≡ first_breaking (read_head s) s
      first = e ∙ ap (λ (h : Head). first_breaking h s) head_is

      pub answers_broken : b < blocks_of x → said 20 b ≡ checked (read_head s) s
      answers_broken l = broken_at (read_head s) s fits sides first (subst (λ (h : Head). b < blocks_of h) head_is l)

      pub answers_kept : blocks_of x ≤ b → said 0 0 ≡ checked (read_head s) s
      answers_kept l = kept (read_head s) s fits sides first (subst (λ (h : Head). blocks_of h ≤ b) head_is l)
