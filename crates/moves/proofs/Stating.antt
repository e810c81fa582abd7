-- The ways of `state_colour`.
-- Assumes nothing.
use mathlib.Core.Path.{◌≡◌, ◌∙◌, ap, sym}
use mathlib.Core.Logic.{◌≢◌}
use mathlib.Core.List.{List}
use Prim.Native.Nat.{ℕ, ◌-◌, ◌<◌, ◌≤◌}
use native.Mathlib.Omega.{arith}
use lib.ListN.{length, set}
use Rattle.laws.specs.Refusals.{here, then}
use Rattle.laws.proofs.Refusals.{accepted_when, decided_is, decided_not, decided_so, exactly}
use Rattle.head_rules.specs.declared.Form.TheVariants.{Tiles}
use Rattle.head_rules.specs.Answers.{Head}
use Rattle.head_rules.specs.Colours.{colour_refusal}
use Rattle.head_rules.specs.Heads.{read_head, read_of_form}
use Rattle.head_rules.specs.Numbers.{Bytes}
use Rattle.head_rules.specs.Whole.{whole_head, whole_refusal}
use Rattle.head_rules.proofs.Colours.{colour_test}
use Rattle.head_rules.proofs.Whole.{whole_number, whole_told}
use Rattle.move_rules.specs.Stating.{state_after, state_refusal}
use Rattle.move_rules.proofs.Stating.{handing, only_that_byte, refused_state_stays, some_head, statable}

-- a call that answers this number, and leaves this
abbrev Leaves : List ℕ → ℕ → ℕ → List ℕ → Type 0
Leaves s n r after = (r ≡ state_refusal s n) × (after ≡ state_after s n)

-- what holds where the byte is written
pub record Ready (s : List ℕ) (n start : ℕ) : Type 0 where
  pub one_before : 1 ≤ start
  pub inside : start - 1 < length s
  pub byte : n < 256
  pub stated : Leaves s n 0 (set s (start - 1) n)

-- x is the head of the sheet, if it is whole
module _ (s : List ℕ) (n : ℕ) {x : Head} (ex : x ≡ whole_head (read_of_form Tiles s) s) where
  abbrev h : Head
  h = read_of_form Tiles s

  left : {r : ℕ} → state_refusal s n ≡ r → r ≢ 0 → Leaves s n r s
  left e ne = (sym e, sym (refused_state_stays s n (λ z. ne (sym e ∙ z))))

  pub not_whole : x.refusal ≢ 0 → Leaves s n x.refusal s
  not_whole ne = let e = whole_number h s ex in left ((exactly (handing s n) _).1 (here (λ z. ne (e ∙ z))) ∙ sym e) ne

  module _ (z : x.refusal ≡ 0) {r : ℕ} (er : r ≡ colour_refusal n) where
    fits : whole_refusal h s ≡ 0
    fits = sym (whole_number h s ex) ∙ z

    pub no_colour : r ≢ 0 → Leaves s n r s
    no_colour ne =
        let above : n ≤ 2 → ⊥ = λ k. ne (er ∙ decided_so (colour_test n) k) in
        left ((exactly (handing s n) 18).1 (then fits (here above)) ∙ sym (er ∙ decided_not (colour_test n) above)) ne

    pub ready : Bytes s → r ≡ 0 → Ready s n x.start
    ready y none =
        let small : n ≤ 2 = decided_is (colour_test n) (sym er ∙ none) in
        let e : state_refusal s n ≡ 0 = (accepted_when (handing s n)).1 (fits, (small, tt)) in
        let a = statable s n e in
        let same : x ≡ read_head s = (whole_told h s ex z).1 ∙ a.same in
        let some : 1 ≤ x.start = rw same (some_head s y n e) in
        record {
          one_before = some;
          inside = rw same (omega (arith, a.long, some_head s y n e));
          byte = omega (arith, small);
          stated = (sym e, ap (λ (k : Head). set s (k.start - 1) n) same ∙ sym (only_that_byte s y n e));
        }
