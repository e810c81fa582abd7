-- A REFUSAL OF A CALL'S OWN BEFORE 9 of the head: when which is given, and how it follows from the head that was read without it.
-- Assumes nothing.
use mathlib.Core.Path.{◌≡◌, refl, ◌∙◌, ap, sym}
use mathlib.Core.Logic.{◌⊎◌, inl, inr, ⊎_elim, ◌≢◌}
use mathlib.Core.List.{List, [], ◌∷◌, ◌++◌}
use Prim.Native.Nat.{ℕ, ◌≤◌}
use native.Mathlib.Omega.{arith}
use borrow.Author.Tests.{ne_eqb}
use Rattle.head_rules.specs.declared.Form.{Form}
use Rattle.head_rules.specs.declared.Form.TheVariants.{Rows, Tiles}
use Rattle.head_rules.specs.Answers.{Head}
use Rattle.laws.specs.Refusals.{Given, Rule, accepted, handed, here, then, unless}
use Rattle.laws.proofs.Refusals.{Answers, Decided, accepted_when, answer_0, by_answer, exactly}
use Rattle.head_rules.specs.Heads.{IsForm, colour_behind, colour_in, form_in, form_number, form_of, head_as, head_of, head_told, height_in}
use Rattle.head_rules.specs.Heads.{limit, of_form_refusal_up_to, of_form_refusal_with, of_form_rules, of_form_rules_with, read_of_form, read_of_form_up_to}
use Rattle.head_rules.specs.Heads.{read_of_form_with, width_in}
use Rattle.head_rules.proofs.Heading.{head_told_is, of_form_number, of_form_rules_is, of_form_told, of_form_with}
use Rattle.head_rules.proofs.Theorems.{zero_or_seven}

-- a rule in front of what stands last
before_last : (ps : List Rule) {qs rs : List Rule} {n : ℕ} → (Given qs n → Given rs n) → Given (ps ++ qs) n → Given (ps ++ rs) n
before_last [] f g = f g
before_last (unless k Q ∷ ps) f (here x) = here x
before_last (unless k Q ∷ ps) f (then q g) = then q (before_last ps f g)

module _ (r : ℕ) (f : Form) (s : List ℕ) where
  -- EXACTLY WHEN, by the rule that r answers
  pub with_answers : {n : ℕ} {Q : Type 0} → Decided r n Q → Answers (read_of_form_with r f s).refusal (of_form_rules_with (unless n Q ∷ []) limit f s)
  unfolding read_of_form_with of_form_refusal_with
  with_answers d = rw (head_told_is (of_form_refusal_with r f s) (head_told s) (λ z. refl) refl).0 (of_form_with limit f s d)

  -- an accepted head is the one that is read without it
  pub with_same : (read_of_form_with r f s).refusal ≡ 0 → read_of_form_with r f s ≡ read_of_form f s
  unfolding read_of_form_with
  with_same e =
      let (a, (b, (c, (d, (w, (h, (k, (v, (q, (y, u)))))))))) = (with_answers by_answer).met e in
      let z = sym (head_told_is (of_form_refusal_with r f s) (head_told s) (λ z. refl) refl).0 ∙ e in
      let o = (accepted_when (of_form_rules_is limit f s)).1 (a, (b, (c, (d, (w, (h, (k, (v, (y, tt))))))))) in
      answer_0 (head_told s) _ z ∙ of_form_told limit f s o

  pub with_refused : r ≢ 0 → (read_of_form_with r f s).refusal ≢ 0
  with_refused ne e = let (a, (b, (c, (d, (w, (h, (k, (v, (q, (y, u)))))))))) = (with_answers by_answer).met e in ne q

-- 7 is all that a number of a head is refused with, so it is not what gives 9
neither : {m : ℕ} → (m ≡ 0) ⊎ (m ≡ 7) → (m ≡ 0 → ⊥) → (m ≡ 0) ⊎ (m ≡ 9) → ⊥
neither (inl z) x o = x z
neither (inr e) x (inl z) = x z
neither (inr e) x (inr n) = omega (arith, e, n)

colour_0_or_7 : (f : Form) (s : List ℕ) (at : ℕ) → ((colour_behind f s at).refusal ≡ 0) ⊎ ((colour_behind f s at).refusal ≡ 7)
colour_0_or_7 Rows s at = inl refl
colour_0_or_7 Tiles s at = zero_or_seven s at

-- THE HEAD READ WITHOUT r, which is x, says it all: 9 is the last of its refusals, and no other rule gives 9
module _ (r : ℕ) (f : Form) (s : List ℕ) {x : Head} (ex : x ≡ read_of_form f s) where
  abbrev before_9 : List Rule
  before_9 =
      handed (form_in s).refusal ∷
      unless 8 ((form_in s).value ≡ form_number f) ∷
      handed (form_in s).refusal ∷
      unless 8 (IsForm (form_in s).value) ∷
      handed (width_in s).refusal ∷
      handed (height_in s).refusal ∷
      handed (colour_in s).refusal ∷
      unless 18 ((colour_in s).value ≤ 2) ∷
      []

  number_is : x.refusal ≡ of_form_refusal_up_to limit f s
  number_is = ap (λ (h : Head). h.refusal) ex ∙ of_form_number limit f s

  given : Given (of_form_rules f s) x.refusal
  given = rw number_is (of_form_rules_is limit f s).given

  -- the same number, so the same head
  same_as : {n : ℕ} → Given (of_form_rules_with (handed r ∷ []) limit f s) n → n ≡ x.refusal → x ≡ read_of_form_with r f s
  unfolding read_of_form_with read_of_form_up_to of_form_refusal_with
  same_as {n} g e =
      ex ∙ ap (λ (m : ℕ). head_as m (head_told s)) (sym number_is ∙ sym e ∙ sym ((exactly (of_form_with limit f s by_answer) n).1 g))

  pub nothing_before_9 : r ≡ 0 → x ≡ read_of_form_with r f s
  nothing_before_9 z = same_as (before_last before_9 (λ g. then z g) given) refl

  last : {Q : Type 0} {rs : List Rule} {n : ℕ} → n ≢ 0 → n ≢ 9 → Given (unless 9 Q ∷ []) n → Given rs n
  last n0 n9 (here y) = absurd (n9 refl)
  last n0 n9 (then q accepted) = absurd (n0 refl)

  pub refused_before_9 : x.refusal ≢ 0 → x.refusal ≢ 9 → x ≡ read_of_form_with r f s
  refused_before_9 n0 n9 = same_as (before_last before_9 (last n0 n9) given) refl

  put_in : {n : ℕ} → r ≢ 0 → Given (of_form_rules f s) n → (n ≡ 0) ⊎ (n ≡ 9) → Given (of_form_rules_with (handed r ∷ []) limit f s) r
  unfolding form_in width_in height_in colour_in
  put_in ne (here y) o = absurd (neither (zero_or_seven s _) y o)
  put_in ne (then a (here y)) o = absurd (⊎_elim (λ e. omega (arith, e)) (λ e. omega (arith, e)) o)
  put_in ne (then a (then b (here y))) o = absurd (neither (zero_or_seven s _) y o)
  put_in ne (then a (then b (then c (here y)))) o = absurd (⊎_elim (λ e. omega (arith, e)) (λ e. omega (arith, e)) o)
  put_in ne (then a (then b (then c (then d (here y))))) o = absurd (neither (zero_or_seven s _) y o)
  put_in ne (then a (then b (then c (then d (then w (here y)))))) o = absurd (neither (zero_or_seven s _) y o)
  put_in ne (then a (then b (then c (then d (then w (then h (here y))))))) o = absurd (neither (colour_0_or_7 (form_of (form_in s).value) s _) y o)
  put_in ne (then a (then b (then c (then d (then w (then h (then k (here y)))))))) o =
      absurd (⊎_elim (λ e. omega (arith, e)) (λ e. omega (arith, e)) o)
  put_in ne (then a (then b (then c (then d (then w (then h (then k (then v g)))))))) o =
      then a (then b (then c (then d (then w (then h (then k (then v (here ne))))))))

  pub given_before_9 : r ≢ 0 → (x.refusal ≡ 0) ⊎ (x.refusal ≡ 9) → head_of r 0 0 0 ≡ read_of_form_with r f s
  unfolding read_of_form_with of_form_refusal_with
  given_before_9 ne o = rw ((exactly (of_form_with limit f s by_answer) r).1 (put_in ne given o), ne_eqb r 0 ne)
