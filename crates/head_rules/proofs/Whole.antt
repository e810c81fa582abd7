-- A WHOLE SHEET: when it is refused, both ways, and what is known of one that is not.
-- Assumes nothing.
use mathlib.Core.Path.{◌≡◌, refl, ◌∙◌, ap, sym, subst}
use mathlib.Core.Bool.{not}
use mathlib.Core.Logic.{◌↔◌, ◌≢◌}
use mathlib.Core.List.{List, [], ◌∷◌, ◌++◌}
use Prim.Native.Nat.{ℕ}
use borrow.Author.Tests.{ne_eqb}
use lib.Dec.{eqb}
use lib.ListN.{length}
use Rattle.head_rules.specs.declared.Form.{Form}
use Rattle.head_rules.specs.Answers.{Head}
use Rattle.laws.specs.Refusals.{Given, Rule, handed, refuse}
use Rattle.laws.proofs.Refusals.{Answers, Decided, accepted_when, answer_0, answers, by_answer, by_not_eqb, exactly, none, rule, rules}
use Rattle.head_rules.specs.Geometry.{whole_length}
use Rattle.head_rules.specs.Heads.{Sized, head_of, read_head, read_of_form}
use Rattle.head_rules.specs.Whole.{Whole, whole_head, whole_refusal, whole_rule}
use Rattle.head_rules.proofs.Heading.{head_told_is}
use Rattle.head_rules.proofs.Theorems.{head_sized, of_form_is}

module _ (h : Head) (s : List ℕ) where
  -- EXACTLY WHEN: 10 stands behind the rules of the head, whichever reader read it; it may be said of any head that an accepted one is
  pub whole_rules_as : (g : Head) {rs : List Rule} → (h.refusal ≡ 0 → h ≡ g) → Answers h.refusal rs
      → Answers (whole_refusal h s) (rs ++ (whole_rule g s ∷ []))
  unfolding whole_refusal
  whole_rules_as g same a = answers (rules a λ m. rule (long (same ((accepted_when a).1 m))) λ l. none)
    where
      long : h ≡ g → Decided (refuse 10 (not (eqb (length s) (whole_length h)))) 10 (length s ≡ whole_length g)
      long e =
          subst (λ (x : Head). Decided (refuse 10 (not (eqb (length s) (whole_length h)))) 10 (length s ≡ whole_length x)) e
          (by_not_eqb tt (length s) (whole_length h))

  pub whole_rules_is : {rs : List Rule} → Answers h.refusal rs → Answers (whole_refusal h s) (rs ++ (whole_rule h s ∷ []))
  whole_rules_is = whole_rules_as h (λ z. refl)

  pub whole_refused_when : {rs : List Rule} → Answers h.refusal rs → (n : ℕ) → (whole_refusal h s ≡ n) ↔ Given (rs ++ (whole_rule h s ∷ [])) n
  whole_refused_when a = exactly (whole_rules_is a)

  -- and behind the head's refusal as it was answered
  pub whole_handed : Answers (whole_refusal h s) (handed h.refusal ∷ whole_rule h s ∷ [])
  unfolding whole_refusal
  whole_handed = answers (rule by_answer λ m. rule (by_not_eqb tt (length s) (whole_length h)) λ l. none)

  pub whole_when : (whole_refusal h s ≡ 0) ↔ Whole h s
  whole_when =
      let a = accepted_when whole_handed in (λ e. record { told = (a.0 e).0; long = (a.0 e).1.0 }, λ w. a.1 (w.told, (w.long, tt)))

  -- the ways of `whole`
  pub not_whole : (n : ℕ) → Given (handed h.refusal ∷ whole_rule h s ∷ []) n → n ≢ 0 → head_of n 0 0 0 ≡ whole_head h s
  unfolding whole_head
  not_whole n g ne = rw ((exactly whole_handed n).1 g, ne_eqb n 0 ne)

  pub is_whole : Whole h s → h ≡ whole_head h s
  unfolding whole_head
  is_whole w = sym (answer_0 h _ (whole_when.1 w))

  -- and what its answer says: the number, and where it is 0 the head of a whole sheet
  module _ {x : Head} (e : x ≡ whole_head h s) where
    pub whole_number : x.refusal ≡ whole_refusal h s
    unfolding whole_head
    whole_number = (head_told_is (whole_refusal h s) h (λ z. (whole_when.0 z).told) e).0

    pub whole_told : x.refusal ≡ 0 → Whole h s × (x ≡ h)
    unfolding whole_head
    whole_told z = let q = sym whole_number ∙ z in (whole_when.0 q, (head_told_is (whole_refusal h s) h (λ z. (whole_when.0 z).told) e).1 q)

-- a head that was read, of either form or of one, has a size where it is accepted
pub read_sized : (s : List ℕ) {h : Head} → h ≡ read_head s → h.refusal ≡ 0 → Sized h.width h.height
read_sized s e z = subst (λ (x : Head). Sized x.width x.height) (sym e) (head_sized s (ap (λ (x : Head). x.refusal) (sym e) ∙ z))

pub of_form_sized : (f : Form) (s : List ℕ) {h : Head} → h ≡ read_of_form f s → h.refusal ≡ 0 → Sized h.width h.height
of_form_sized f s e z = read_sized s (e ∙ (of_form_is f s (ap (λ (x : Head). x.refusal) (sym e) ∙ z)).0) z
