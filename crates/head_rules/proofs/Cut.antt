-- THE FIRST BYTES OF A SHEET ARE ENOUGH to read its head: ten of either form, seven of form 1.
-- Assumes nothing.
use mathlib.Core.Path.{◌≡◌, refl, ◌∙◌, ap, ap₂, sym}
use mathlib.Core.Bool.{Bool, not, true, false}
use mathlib.Core.Logic.{◌⊎◌, inl, inr, ⊎_elim}
use mathlib.Core.List.{List, [], ◌∷◌}
use Prim.Native.Nat.{ℕ, zero, suc, ◌+◌, ◌-◌, ◌<◌, ◌≤◌}
use native.Mathlib.Nat.{eq-zero-or-pos, le_of_suc-le-suc, not-suc-le-zero}
use native.Mathlib.Numerals.{unary_clauses}
use native.Mathlib.Omega.{arith}
use borrow.Author.Tests.{eqb-true, ne_eqb}
use lib.Dec.{eqb, ltb}
use lib.ListN.{take, drop}
use Rattle.laws.specs.Refusals.{first, refuse}
use Rattle.laws.specs.Tables.{pick}
use Rattle.laws.proofs.First.{first_here, first_skip, refuse_no}
use Rattle.head_rules.specs.declared.Form.{Form}
use Rattle.head_rules.specs.declared.Form.TheVariants.{Rows, Tiles}
use Rattle.head_rules.specs.Answers.{Number}
use Rattle.head_rules.specs.Heads.{IsForm, colour_behind, colour_in, form_in, form_number, form_of, head_refusal_up_to, head_told, height_in}
use Rattle.head_rules.specs.Heads.{of_form_refusal_up_to, read_head_up_to, read_of_form_up_to, width_in}
use Rattle.head_rules.specs.Numbers.{found, raised, read_groups, read_number}
use Rattle.head_rules.proofs.Heading.{form_back, head_rules_is, of_form_rules_is}
use Rattle.head_rules.proofs.Reading.{every_number, near}

-- k groups look at k bytes
cut_groups : (k m at : ℕ) (bs : List ℕ) → k ≤ m → read_groups k at (take m bs) ≡ read_groups k at bs
unfolding read_groups
cut_groups zero m at bs l = refl
cut_groups (suc k) zero at bs l = absurd (not-suc-le-zero l)
cut_groups (suc k) (suc m) at [] l = refl
cut_groups (suc k) (suc m) at (b ∷ bs) l =
    ap (λ (r : Number). pick (ltb b 128) (found b (at + 1)) (raised b r)) (cut_groups k m (at + 1) bs (le_of_suc-le-suc l))

take_none : (n : ℕ) → [] ≡ take {A = ℕ} n []
take_none zero = refl
take_none (suc n) = refl

drop_take : (i n : ℕ) (l : List ℕ) → i ≤ n → drop i (take n l) ≡ take (n - i) (drop i l)
drop_take zero n l h = simp unary_clauses
drop_take (suc i) zero l h = absurd (not-suc-le-zero h)
drop_take (suc i) (suc n) [] h = take_none (suc n - suc i)
drop_take (suc i) (suc n) (x ∷ l) h = simp unary_clauses (drop_take i n l (le_of_suc-le-suc h))

cut_number : (s : List ℕ) (n at : ℕ) → at + 3 ≤ n → read_number (take n s) at ≡ read_number s at
unfolding read_number
cut_number s n at l = ap (read_groups 3 at) (drop_take at n s (omega arith)) ∙ cut_groups 3 (n - at) at (drop at s) (omega arith)

-- a number below 128 is one byte
one_byte_long : (k at : ℕ) (bs : List ℕ) → (read_groups k at bs).refusal ≡ 0 → (read_groups k at bs).value < 128 → (read_groups k at bs).next ≡ at + 1
one_byte_long =
    every_number (λ k at bs r. r.refusal ≡ 0 → r.value < 128 → r.next ≡ at + 1) (λ k at bs e v. absurd (let q : ⊥ = omega (arith, e) in q))
    (λ k at b bs l e v. refl)
    (λ k at b bs r l ne h e v. absurd (ne (omega (arith, v))))

not_not : (b : Bool) → not b ≡ false → b ≡ true
not_not true e = refl
not_not false e = sym e

-- the form is looked at first: where it is refused, nothing behind it matters
first_cut : (a b : ℕ) (xs ys : List ℕ) → (a ≡ 0 → b ≡ 0 → xs ≡ ys) → first (a ∷ b ∷ xs) ≡ first (a ∷ b ∷ ys)
first_cut a b xs ys k =
    ⊎_elim (λ ea. ⊎_elim (λ eb. ap (λ (l : List ℕ). first (a ∷ b ∷ l)) (k ea eb))
    (λ lb. let ne : b ≡ 0 → ⊥ = λ q. omega arith in
    first_skip a (b ∷ xs) ea ∙ first_here b xs ne ∙ sym (first_skip a (b ∷ ys) ea ∙ first_here b ys ne))
    (eq-zero-or-pos b))
    (λ la. let ne : a ≡ 0 → ⊥ = λ q. omega arith in first_here a (b ∷ xs) ne ∙ sym (first_here a (b ∷ ys) ne)) (eq-zero-or-pos a)

two_forms_small : (f : Form) → form_number f ≤ 2
two_forms_small Rows = omega arith
two_forms_small Tiles = omega arith

form_small : {n : ℕ} → form_number (form_of n) ≡ n → n ≤ 2
form_small {n} e = omega (arith, e, two_forms_small (form_of n))

is_form_small : {n : ℕ} → IsForm n → n ≤ 2
is_form_small o = ⊎_elim (λ e. omega (arith, e)) (λ e. omega (arith, e)) o

module _ (s : List ℕ) where
  -- a form that there is has one byte
  pub form_short : (form_in s).refusal ≡ 0 → (form_in s).value ≤ 2 → (form_in s).next ≤ 1
  unfolding form_in read_number
  form_short e v = omega (arith, one_byte_long 3 0 (drop 0 s) e (omega arith))

  form_is : (n : ℕ) → refuse 8 (not (eqb (form_number (form_of n)) n)) ≡ 0 → n ≤ 2
  form_is n e = form_small (eqb-true (form_number (form_of n)) n (not_not (eqb (form_number (form_of n)) n) (refuse_no 7 _ e)))

  module _ (n : ℕ) (l : 7 ≤ n) where
    abbrev t : List ℕ
    t = take n s

    pub form_cut : form_in t ≡ form_in s
    unfolding form_in
    form_cut = cut_number s n 0 (omega arith)

    -- behind it three bytes are enough for each number; form 1 has two, and form 2 three
    module _ (short : (form_in s).next ≤ 1) where
      pub width_cut : width_in t ≡ width_in s
      unfolding width_in
      width_cut = ap (λ (f : Number). read_number t f.next) form_cut ∙ cut_number s n (form_in s).next (omega arith)

      width_near : (width_in s).next ≤ 4
      unfolding width_in
      width_near = omega (arith, near s (form_in s).next refl)

      pub height_cut : height_in t ≡ height_in s
      unfolding height_in
      height_cut = ap (λ (w : Number). read_number t w.next) width_cut ∙ cut_number s n (width_in s).next (omega (arith, width_near))

      height_near : (height_in s).next ≤ 7
      unfolding height_in
      height_near = omega (arith, width_near, near s (width_in s).next refl)

      behind_cut : (f : Form) → (f ≡ Rows) ⊎ (10 ≤ n) → colour_behind f t (height_in s).next ≡ colour_behind f s (height_in s).next
      behind_cut Rows k = refl
      behind_cut Tiles (inl e) = absurd (let z : ◌≡◌ {A = ℕ} 1 2 = sym (ap form_number e) in let q : ⊥ = omega (arith, z) in q)
      behind_cut Tiles (inr m) = cut_number s n (height_in s).next (omega (arith, height_near))

      pub colour_cut : (form_of (form_in s).value ≡ Rows) ⊎ (10 ≤ n) → colour_in t ≡ colour_in s
      unfolding colour_in
      colour_cut k =
          ap₂ (λ (f h : Number). colour_behind (form_of f.value) t h.next) form_cut height_cut ∙ behind_cut (form_of (form_in s).value) k

      pub told_cut : (form_of (form_in s).value ≡ Rows) ⊎ (10 ≤ n) → head_told t ≡ head_told s
      told_cut k = rw (form_cut, width_cut, height_cut, colour_cut k)

-- TEN BYTES, for either form
module _ (top : ℕ) (s : List ℕ) where
  ten : 7 ≤ 10
  ten = omega arith

  refusal_cut : head_refusal_up_to top (take 10 s) ≡ head_refusal_up_to top s
  unfolding head_refusal_up_to
  refusal_cut =
      rw (form_cut s 10 ten) (first_cut (form_in s).refusal (refuse 8 (not (eqb (form_number (form_of (form_in s).value)) (form_in s).value))) _ _
      (λ ea eb. let short = form_short s ea (form_is s (form_in s).value eb) in
      rw (width_cut s 10 ten short, height_cut s 10 ten short, colour_cut s 10 ten short (inr (omega arith)))))

  pub ten_bytes_are_enough : read_head_up_to top (take 10 s) ≡ read_head_up_to top s
  unfolding read_head_up_to
  ten_bytes_are_enough =
      ⊎_elim
      (λ e. let m = (head_rules_is top s).met e in
      rw (refusal_cut, e) (told_cut s 10 ten (form_short s m.0 (is_form_small m.1.0)) (inr (omega arith))))
      (λ l. let ne : head_refusal_up_to top s ≡ 0 → ⊥ = λ q. omega arith in rw (refusal_cut, ne_eqb (head_refusal_up_to top s) 0 ne))
      (eq-zero-or-pos (head_refusal_up_to top s))

-- SEVEN BYTES, for who takes form 1 alone
module _ (top : ℕ) (s : List ℕ) where
  seven : 7 ≤ 7
  seven = omega arith

  rows_number : refuse 8 (not (eqb (form_in s).value (form_number Rows))) ≡ 0 → (form_in s).value ≡ 1
  rows_number e = eqb-true (form_in s).value 1 (not_not (eqb (form_in s).value 1) (refuse_no 7 _ e))

  -- where the form is 1
  module _ (a : (form_in s).refusal ≡ 0) (v : (form_in s).value ≡ 1) where
    short : (form_in s).next ≤ 1
    short = form_short s a (omega (arith, v))

    in_rows : form_of (form_in s).value ≡ Rows
    in_rows = ap form_of v ∙ form_back Rows

    rest_cut : head_refusal_up_to top (take 7 s) ≡ head_refusal_up_to top s
    unfolding head_refusal_up_to
    rest_cut =
        rw (form_cut s 7 seven, width_cut s 7 seven short, height_cut s 7 seven short, colour_cut s 7 seven short (inl in_rows))

  of_form_cut : of_form_refusal_up_to top Rows (take 7 s) ≡ of_form_refusal_up_to top Rows s
  unfolding of_form_refusal_up_to
  of_form_cut =
      rw (form_cut s 7 seven) (first_cut (form_in s).refusal (refuse 8 (not (eqb (form_in s).value (form_number Rows)))) _ _
      (λ ea eb. ap (λ (n : ℕ). n ∷ []) (rest_cut ea (rows_number eb))))

  pub seven_bytes_are_enough : read_of_form_up_to top Rows (take 7 s) ≡ read_of_form_up_to top Rows s
  unfolding read_of_form_up_to
  seven_bytes_are_enough =
      ⊎_elim
      (λ e. let m = (of_form_rules_is top Rows s).met e in
      rw (of_form_cut, e) (told_cut s 7 seven (short m.0 m.1.0) (inl (in_rows m.0 m.1.0))))
      (λ l. let ne : of_form_refusal_up_to top Rows s ≡ 0 → ⊥ = λ q. omega arith in rw (of_form_cut, ne_eqb (of_form_refusal_up_to top Rows s) 0 ne))
      (eq-zero-or-pos (of_form_refusal_up_to top Rows s))
