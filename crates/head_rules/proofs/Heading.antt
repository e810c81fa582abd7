-- What a head's refusal is, and what is read of its bytes.
-- Assumes nothing.
use mathlib.Core.Path.{◌≡◌, refl, ◌∙◌, ap, sym, subst}
use mathlib.Core.Logic.{◌≢◌, inl, inr, ⊎_elim}
use mathlib.Core.Bool.{true, not}
use mathlib.Core.List.{List, [], ◌∷◌}
use Prim.Native.Nat.{ℕ}
use native.Mathlib.Decide.{ℕ_discrete}
use borrow.Author.Tests.{eq-eqb, eqb-true, le-leb, leb-true, ne_eqb}
use lib.Dec.{eqb, leb}
use Rattle.head_rules.specs.Answers.{Head}
use Rattle.head_rules.specs.declared.Form.{Form}
use Rattle.head_rules.specs.declared.Form.TheVariants.{Rows, Tiles}
use Rattle.laws.specs.Refusals.{Given, first, refuse, unless}
use Rattle.laws.specs.Tables.{both}
use Rattle.laws.proofs.First.{first_last, first_skip}
use Rattle.laws.proofs.Refusals.{Answers, Decided, answers, by_answer, by_not, by_not_eqb, decided_is, decided_not, decided_so, exactly, none, rule}
use Rattle.laws.proofs.Refusals.{rules}
use Rattle.laws.proofs.Tests.{both_true}
use Rattle.head_rules.specs.Heads.{IsForm, SizedUpTo, form_in, form_number, form_of, head_as, head_of, head_refusal_up_to, head_rules_up_to}
use Rattle.head_rules.specs.Heads.{head_rules_with, head_tests, head_told, of_form_refusal_up_to, of_form_rules_up_to, of_form_rules_with, of_form_tests}
use Rattle.head_rules.specs.Heads.{read_head_up_to, read_of_form_up_to, side_up_to, size_refusal_up_to}
use Rattle.head_rules.proofs.Colours.{colour_test}

-- what a head says that was answered: the number, and where it is 0 the head
module _ (r : ℕ) (h : Head) (same : r ≡ 0 → h.refusal ≡ 0) {x : Head} (e : x ≡ head_as r h) where
  abbrev Said : Type 0
  Said = (x.refusal ≡ r) × (r ≡ 0 → x ≡ h)

  pub head_told_is : Said
  head_told_is = go (ℕ_discrete r 0)
    where
      go : Dec (r ≡ 0) → Said
      go (yes z) = let k : x ≡ h = e ∙ rw (eq-eqb r 0 z) in (ap (λ (y : Head). y.refusal) k ∙ same z ∙ sym z, λ q. k)
      go (no n) = let k : x ≡ head_of r 0 0 0 = e ∙ rw (ne_eqb r 0 n) in (ap (λ (y : Head). y.refusal) k, λ q. absurd (n q))

-- refusal 9
module _ (top w h : ℕ) where
  sized_test : both (side_up_to top w) (side_up_to top h) ≡ true → SizedUpTo top w h
  sized_test e =
      let a = both_true (side_up_to top w) (side_up_to top h) e in
      let b = both_true (leb 1 w) (leb w top) a.0 in
      let c = both_true (leb 1 h) (leb h top) a.1 in
      record { wide = leb-true _ _ b.0; within_wide = leb-true _ _ b.1; high = leb-true _ _ c.0; within_high = leb-true _ _ c.1 }

  pub size_test : Decided (size_refusal_up_to top w h) 9 (SizedUpTo top w h)
  unfolding size_refusal_up_to
  size_test =
      by_not tt (both (side_up_to top w) (side_up_to top h)) sized_test
      (λ s. rw (le-leb 1 w s.wide, le-leb w top s.within_wide, le-leb 1 h s.high, le-leb h top s.within_high))

  pub size_0 : SizedUpTo top w h → size_refusal_up_to top w h ≡ 0
  size_0 = decided_so size_test

  pub size_9 : (SizedUpTo top w h → ⊥) → size_refusal_up_to top w h ≡ 9
  size_9 = decided_not size_test

  pub size_refused : {r : ℕ} → r ≡ size_refusal_up_to top w h → r ≢ 0 → (r ≡ 9) × (SizedUpTo top w h → ⊥)
  size_refused e ne = let x : SizedUpTo top w h → ⊥ = λ s. ne (e ∙ size_0 s) in (e ∙ size_9 x, x)

  pub sized : size_refusal_up_to top w h ≡ 0 → SizedUpTo top w h
  sized = decided_is size_test

-- refusal 8
pub form_back : (f : Form) → form_of (form_number f) ≡ f
unfolding form_of
form_back Rows = refl
form_back Tiles = refl

pub of_a_form : (f : Form) → IsForm (form_number f)
of_a_form Rows = inl refl
of_a_form Tiles = inr refl

-- n is the number of its form, which is what is tested, exactly where it is one's
module _ {n : ℕ} where
  pub form_kept : IsForm n → form_number (form_of n) ≡ n
  form_kept = ⊎_elim (known Rows) (known Tiles)
    where
      known : (f : Form) → n ≡ form_number f → form_number (form_of n) ≡ n
      known f e = ap (λ (m : ℕ). form_number (form_of m)) e ∙ ap form_number (form_back f) ∙ sym e

  pub is_form : form_number (form_of n) ≡ n → IsForm n
  is_form e = subst IsForm e (of_a_form (form_of n))

form_test : (n : ℕ) → Decided (refuse 8 (not (eqb (form_number (form_of n)) n))) 8 (IsForm n)
form_test n = by_not tt (eqb (form_number (form_of n)) n) (λ e. is_form (eqb-true _ _ e)) (λ f. eq-eqb _ _ (form_kept f))

module _ (top : ℕ) (s : List ℕ) where
  pub head_rules_is : Answers (head_refusal_up_to top s) (head_rules_up_to top s)
  unfolding head_refusal_up_to
  head_rules_is =
      answers (rule by_answer λ a. rule (form_test _) λ b. rule by_answer λ c. rule by_answer λ d. rule by_answer λ e. rule (colour_test _) λ k. rule
      (size_test _ _ _) λ z. none)

  pub refused : (r : ℕ) → head_refusal_up_to top s ≡ r → r ≢ 0 → head_of r 0 0 0 ≡ read_head_up_to top s
  unfolding read_head_up_to
  refused r e ne = rw (e, ne_eqb r 0 ne)

  pub accepted : head_refusal_up_to top s ≡ 0 → head_told s ≡ read_head_up_to top s
  unfolding read_head_up_to
  accepted e = rw (eq-eqb (head_refusal_up_to top s) 0 e)

  pub refusal_is : (read_head_up_to top s).refusal ≡ head_refusal_up_to top s
  unfolding read_head_up_to
  refusal_is = (head_told_is (head_refusal_up_to top s) (head_told s) (λ z. refl) refl).0

-- one form only: the form is looked at first, and where it is f's the rest is as for any head
module _ (top : ℕ) (f : Form) (s : List ℕ) where
  pub of_form_rules_is : Answers (of_form_refusal_up_to top f s) (of_form_rules_up_to top f s)
  unfolding of_form_refusal_up_to
  of_form_rules_is = answers (rule by_answer λ a. rule (by_not_eqb tt (form_in s).value (form_number f)) λ b. rules (head_rules_is top s) λ m. none)

  -- a refusal before 9 is one rule more
  module _ {r n : ℕ} {Q : Type 0} (d : Decided r n Q) where
    head_rules_with_is : Answers (first (head_tests (r ∷ []) top s)) (head_rules_with (unless n Q ∷ []) top s)
    head_rules_with_is =
        answers (rule by_answer λ a. rule (form_test _) λ b. rule by_answer λ c. rule by_answer λ e. rule by_answer λ g. rule (colour_test _) λ k.
        rule d λ q. rule (size_test _ _ _) λ z. none)

    pub of_form_with : Answers (first (of_form_tests f s (first (head_tests (r ∷ []) top s)))) (of_form_rules_with (unless n Q ∷ []) top f s)
    of_form_with = answers (rule by_answer λ a. rule (by_not_eqb tt (form_in s).value (form_number f)) λ b. rules head_rules_with_is λ m. none)

  pub of_form_told : of_form_refusal_up_to top f s ≡ 0 → head_told s ≡ read_of_form_up_to top f s
  unfolding read_of_form_up_to
  of_form_told e = rw e

  pub of_form_not : (n : ℕ) → Given (of_form_rules_up_to top f s) n → n ≢ 0 → head_of n 0 0 0 ≡ read_of_form_up_to top f s
  unfolding read_of_form_up_to
  of_form_not n g ne = rw ((exactly of_form_rules_is n).1 g, ne_eqb n 0 ne)

  pub of_form_same : (form_in s).refusal ≡ 0 → (form_in s).value ≡ form_number f → read_of_form_up_to top f s ≡ read_head_up_to top s
  unfolding read_of_form_up_to of_form_refusal_up_to read_head_up_to
  of_form_same a b =
      let behind = head_refusal_up_to top s ∷ [] in
      rw (
        first_skip (form_in s).refusal (refuse 8 (not (eqb (form_in s).value (form_number f))) ∷ behind) a,
        eq-eqb _ _ b,
        first_skip 0 behind refl,
        first_last (head_refusal_up_to top s),
      )

  pub of_form_number : (read_of_form_up_to top f s).refusal ≡ of_form_refusal_up_to top f s
  unfolding read_of_form_up_to
  of_form_number = (head_told_is (of_form_refusal_up_to top f s) (head_told s) (λ z. refl) refl).0
