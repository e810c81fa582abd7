-- Checking a sheet: each refusal exactly when the profile's rules say so, and which block is named.
-- Assumes nothing.
use mathlib.Core.Path.{◌≡◌, ◌∙◌, ap, sym}
use mathlib.Core.Logic.{◌≢◌, ⊎_elim}
use mathlib.Core.Bool.{Bool, true, not}
use mathlib.Core.List.{List, [], ◌∷◌}
use Prim.Native.Nat.{ℕ, zero, suc, ◌<◌, ◌≤◌, ◌%◌}
use native.Mathlib.Omega.{arith}
use borrow.Author.Tests.{eq-eqb, eqb-true, le-ltb, lt-ltb, ltb-false, ltb-true, ne_eqb}
use lib.Dec.{eqb, ltb}
use lib.ListN.{length}
use Rattle.laws.specs.Refusals.{first, handed, refuse}
use Rattle.laws.specs.Tables.{both}
use Rattle.profile_rules.specs.Profile.{Checked}
use Rattle.laws.proofs.Cases.{pick_lt}
use Rattle.laws.proofs.First.{first_here, first_last, first_skip}
use Rattle.laws.proofs.Refusals.{Answers, Decided, answers, by_answer, by_not, by_test, none, rule, rules}
use Rattle.laws.proofs.Tests.{both_true, not_so}
use Rattle.head_rules.specs.declared.Form.{Form}
use Rattle.head_rules.specs.declared.Form.TheVariants.{Rows, Tiles}
use Rattle.head_rules.specs.Answers.{Head}
use Rattle.head_rules.specs.Colours.{colour_refusal}
use Rattle.head_rules.specs.Geometry.{blocks_of, whole_length}
use Rattle.head_rules.specs.Heads.{colour_behind, colour_in, form_in, form_number, form_of, head_refusal_up_to, height_in, limit, read_head, size_refusal_up_to}
use Rattle.head_rules.specs.Heads.{side_up_to, width_in}
use Rattle.head_rules.specs.Numbers.{read_number}
use Rattle.head_rules.specs.Whole.{whole_refusal}
use Rattle.head_rules.proofs.Heading.{refusal_is}
use Rattle.head_rules.proofs.Theorems.{head_answers, zero_or_seven}
use Rattle.head_rules.proofs.Whole.{whole_rules_is}
use Rattle.sheet_rules.specs.Sheets.{block_by}
use Rattle.profile_rules.specs.Profile.{Admitted, Sides, breaks, check_refusal, checked, first_breaking}
use Rattle.profile_rules.specs.Profile.{profile_behind_whole, profile_rules, sides_refusal}
use Rattle.profile_rules.proofs.Modes.{breaks_is, breaks_not}
use Rattle.profile_rules.proofs.Lowest.{lowest_passes, none_before}

-- THE REFUSALS OF A WHOLE SHEET are below 20, so that 20 says nothing else than a block that breaks the profile
abbrev Each : ℕ → List ℕ → Type 0
Each n [] = Unit {0}
Each n (r ∷ rs) = (r < n) × Each n rs

first_below : (n : ℕ) → 0 < n → (rs : List ℕ) → Each n rs → first rs < n
unfolding first
first_below n p [] e = p
first_below n p (zero ∷ rs) e = first_below n p rs e.1
first_below n p (suc r ∷ rs) e = e.0

number_below : (s : List ℕ) (at : ℕ) → (read_number s at).refusal < 20
number_below s at = ⊎_elim (λ z. omega (arith, z)) (λ z. omega (arith, z)) (zero_or_seven s at)

colour_below : (f : Form) (s : List ℕ) (at : ℕ) → (colour_behind f s at).refusal < 20
colour_below Rows s at = omega arith
colour_below Tiles s at = number_below s at

pub given_below : (b : Bool) (n : ℕ) → n < 20 → refuse n b < 20
given_below b n l = pick_lt b n 0 20 l (omega arith)

head_below : (s : List ℕ) → (read_head s).refusal < 20
unfolding head_refusal_up_to form_in width_in height_in colour_in colour_refusal size_refusal_up_to
head_below s =
    let other : Bool = not (eqb (form_number (form_of (form_in s).value)) (form_in s).value) in
    let space : Bool = ltb 2 (colour_in s).value in
    let size : Bool = not (both (side_up_to limit (width_in s).value) (side_up_to limit (height_in s).value)) in
    let colour = colour_below (form_of (form_in s).value) s (height_in s).next in
    rw (refusal_is limit s) (first_below 20 (omega arith) _ (
      number_below s _,
      (
        given_below other 8 (omega arith),
        (
          number_below s _,
          (
            number_below s _,
            (colour, (given_below space 18 (omega arith), (given_below size 9 (omega arith), tt))),
          ),
        ),
      ),
    ))

pub whole_below_20 : (s : List ℕ) → whole_refusal (read_head s) s < 20
unfolding whole_refusal
whole_below_20 s =
    let long : Bool = not (eqb (length s) (whole_length (read_head s))) in
    first_below 20 (omega arith) _ (head_below s, (given_below long 10 (omega arith), tt))

-- 17
module _ (h : Head) where
  sides_are : both (eqb (h.width % 4) 0) (eqb (h.height % 4) 0) ≡ true → Sides h
  sides_are e =
      let (w, g) = both_true (eqb (h.width % 4) 0) (eqb (h.height % 4) 0) e in
      record { wide = eqb-true (h.width % 4) 0 w; high = eqb-true (h.height % 4) 0 g }

  are_sides : Sides h → both (eqb (h.width % 4) 0) (eqb (h.height % 4) 0) ≡ true
  are_sides z = rw (eq-eqb (h.width % 4) 0 z.wide, eq-eqb (h.height % 4) 0 z.high)

  pub by_sides : Decided (sides_refusal h) 17 (Sides h)
  unfolding sides_refusal
  by_sides = by_not tt (both (eqb (h.width % 4) 0) (eqb (h.height % 4) 0)) sides_are are_sides

-- 20
module _ (h : Head) (s : List ℕ) where
  pub admitted_before : (b : ℕ) → b < first_breaking h s → Admitted (block_by h s b)
  unfolding first_breaking breaks
  admitted_before b l = breaks_not (block_by h s b) (none_before (blocks_of h) (breaks h s) b l)

  pub breaks_there : first_breaking h s < blocks_of h → Admitted (block_by h s (first_breaking h s)) → ⊥
  unfolding first_breaking breaks
  breaks_there l = breaks_is (block_by h s (first_breaking h s)) (lowest_passes (blocks_of h) (breaks h s) l)

  pub by_blocks : Decided (refuse 20 (ltb (first_breaking h s) (blocks_of h))) 20 ((b : ℕ) → b < blocks_of h → Admitted (block_by h s b))
  by_blocks = by_test tt (ltb (first_breaking h s) (blocks_of h))
      (λ e b l. admitted_before b (omega (arith, l, ltb-false (first_breaking h s) (blocks_of h) e)))
      (λ all. not_so _ (λ e. let l = ltb-true (first_breaking h s) (blocks_of h) e in breaks_there l (all (first_breaking h s) l)))

  pub check_handed : Answers (check_refusal h s) (handed (whole_refusal h s) ∷ profile_behind_whole h s)
  unfolding check_refusal
  check_handed = answers (rule by_answer λ w. rule (by_sides h) λ z. rule by_blocks λ a. none)

-- THE WAYS OF A CHECK: each answer where it is reached, and the block beside it
abbrev pub said : ℕ → ℕ → Checked
said n b = record { refusal = n; block = b }

module _ (h : Head) (s : List ℕ) where
  other : {n : ℕ} → check_refusal h s ≡ n → n < 20 → said n 0 ≡ checked h s
  unfolding checked
  other {n} e l = rw (e, ne_eqb n 20 (λ q. omega (arith, q, l)))

  pub not_whole : whole_refusal h s < 20 → {n : ℕ} → n ≡ whole_refusal h s → n ≢ 0 → said n 0 ≡ checked h s
  unfolding check_refusal
  not_whole l e ne = other (first_here _ _ (λ z. ne (e ∙ z)) ∙ sym e) (rw e l)

  module _ (w : whole_refusal h s ≡ 0) where
    pub not_sides : {n : ℕ} → n ≡ sides_refusal h → n ≢ 0 → said n 0 ≡ checked h s
    unfolding check_refusal sides_refusal
    not_sides e ne =
        let odd : Bool = not (both (eqb (h.width % 4) 0) (eqb (h.height % 4) 0)) in
        other (first_skip _ _ w ∙ first_here _ _ (λ z. ne (e ∙ z)) ∙ sym e) (rw e (given_below odd 17 (omega arith)))

    module _ (z : sides_refusal h ≡ 0) where
      behind : check_refusal h s ≡ refuse 20 (ltb (first_breaking h s) (blocks_of h))
      unfolding check_refusal
      behind = first_skip _ _ w ∙ first_skip _ _ z ∙ first_last _

      pub broken_at : {b : ℕ} → b ≡ first_breaking h s → b < blocks_of h → said 20 b ≡ checked h s
      unfolding checked
      broken_at {b} e l =
          let g : check_refusal h s ≡ 20 = behind ∙ ap (refuse 20) (lt-ltb (first_breaking h s) (blocks_of h) (rw (sym e) l)) in
          rw (g, sym e)

      pub kept : {b : ℕ} → b ≡ first_breaking h s → blocks_of h ≤ b → said 0 0 ≡ checked h s
      kept e l = other (behind ∙ ap (refuse 20) (le-ltb (first_breaking h s) (blocks_of h) (rw (sym e) l))) (omega arith)

pub check_in_words : (s : List ℕ) → Answers (check_refusal (read_head s) s) (profile_rules s)
unfolding check_refusal
check_in_words s =
    let h = read_head s in answers (rules (whole_rules_is h s (head_answers s)) λ w. rule (by_sides h) λ z. rule (by_blocks h s) λ a. none)
