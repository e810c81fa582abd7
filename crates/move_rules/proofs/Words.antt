-- Why a move is refused, in words: what each direction can give.
-- Assumes nothing.
use mathlib.Core.Path.{◌≡◌, ◌∙◌, ap, sym}
use mathlib.Core.Logic.{inr}
use mathlib.Core.Bool.{not}
use mathlib.Core.List.{List, [], ◌∷◌, ◌++◌}
use Prim.Native.Nat.{ℕ}
use lib.Dec.{eqb}
use Rattle.laws.specs.Refusals.{Given, Rule, accepted, here, refuse, then}
use Rattle.laws.proofs.First.{first_none, first_skip}
use Rattle.laws.proofs.Refusals.{Answers, Decided, Met, Tests, accepted_when, answers, by_not_eqb, none, rule, rules}
use Rattle.head_rules.specs.declared.Form.{Form}
use Rattle.head_rules.specs.declared.Form.TheVariants.{Rows, Tiles}
use Rattle.head_rules.specs.Answers.{Head}
use Rattle.head_rules.specs.Colours.{colour_number}
use Rattle.head_rules.specs.Geometry.{whole_length}
use Rattle.head_rules.specs.Heads.{colour_in, limit, of_form_rules, read_head, read_of_form}
use Rattle.head_rules.specs.Whole.{whole_refusal, whole_rule}
use Rattle.head_rules.proofs.Colours.{number_back}
use Rattle.head_rules.proofs.Heading.{accepted as accepted_head, refusal_is}
use Rattle.head_rules.proofs.Theorems.{form_1_unspecified, of_form_answers, of_form_is, parts, rows_answers}
use Rattle.head_rules.proofs.Whole.{whole_rules_as, whole_when}
use Rattle.move_rules.specs.Moving.{head_in_form, move_refusal, move_rules, tiles_rules}

-- of form 2 the form is looked at once
module _ (s : List ℕ) where
  tiles_given : {n : ℕ} → Given (of_form_rules Tiles s) n → Given (tiles_rules s) n
  tiles_given (here x) = here x
  tiles_given (then a (here x)) = then a (here x)
  tiles_given (then a (then b (here x))) = absurd (x a)
  tiles_given (then a (then b (then c (here x)))) = absurd (x (inr b))
  tiles_given (then a (then b (then c (then d g)))) = then a (then b g)

  pub tiles_answers : Answers (read_of_form Tiles s).refusal (tiles_rules s)
  tiles_answers = record {
    given = tiles_given (of_form_answers Tiles s).given;
    met = λ e. let (a, (b, (c, (d, m)))) = (of_form_answers Tiles s).met e in (a, (b, m));
  }

  -- the number that an accepted head has for its colour space is the one that was read
  pub number_read : (read_head s).refusal ≡ 0 → colour_number (read_head s).colour_space ≡ (colour_in s).value
  number_read e =
      let z = sym (refusal_is limit s) ∙ e in
      ap (λ (h : Head). colour_number h.colour_space) (sym (accepted_head limit s z)) ∙ number_back (colour_in s).value (parts s z).space

-- a test that never refuses has no rule
never : {r : ℕ} → r ≡ 0 → Tests (r ∷ []) []
never {r} e = record { answers = record { given = rw (first_skip r [] e ∙ first_none) accepted; met = λ z. tt } }

eleven : (f : Form) (s : List ℕ) (room : ℕ) {h : Head} → h ≡ read_head s
    → Decided (refuse 11 (not (eqb room (whole_length (head_in_form f h))))) 11 (room ≡ whole_length (head_in_form f (read_head s)))
eleven f s room q = rw q (by_not_eqb tt room (whole_length (head_in_form f (read_head s))))

-- 10, of the head that any reader reads alike
ten : (f : Form) (s : List ℕ) {rs : List Rule} → Answers (read_of_form f s).refusal rs
    → Answers (whole_refusal (read_of_form f s) s) (rs ++ (whole_rule (read_head s) s ∷ []))
ten f s = whole_rules_as (read_of_form f s) s (read_head s) (λ z. (of_form_is f s z).0)

told : (f : Form) (s : List ℕ) {rs : List Rule} → Answers (read_of_form f s).refusal rs → Met (rs ++ (whole_rule (read_head s) s ∷ []))
    → (read_of_form f s).refusal ≡ 0
told f s a m = ((whole_when (read_of_form f s) s).0 ((accepted_when (ten f s a)).1 m)).told

-- form 1 says no colour space, so that 16 is not given; of form 2 it is looked at by its number
module _ (s : List ℕ) where
  no_sixteen : (read_of_form Rows s).refusal ≡ 0 → refuse 16 (not (eqb (colour_number (read_of_form Rows s).colour_space) 0)) ≡ 0
  no_sixteen z = let (q, k) = of_form_is Rows s z in rw (q, form_1_unspecified s k)

  sixteen : (read_of_form Tiles s).refusal ≡ 0
      → Decided (refuse 16 (not (eqb (colour_number (read_of_form Tiles s).colour_space) 0))) 16 ((colour_in s).value ≡ 0)
  sixteen z =
      let q = (of_form_is Tiles s z).0 in
      rw (q, number_read s (ap (λ (h : Head). h.refusal) (sym q) ∙ z)) (by_not_eqb tt (colour_in s).value 0)

pub moving_in_words : (f : Form) (s : List ℕ) (room : ℕ) → Answers (move_refusal f s room) (move_rules f s room)
unfolding move_refusal
moving_in_words Tiles s room = answers (rules (ten Rows s (rows_answers s)) λ m.
    let z = told Rows s (rows_answers s) m in
    rule (eleven Tiles s room (of_form_is Rows s z).0) λ r. never (no_sixteen s z))
moving_in_words Rows s room = answers (rules (ten Tiles s (tiles_answers s)) λ m.
    let z = told Tiles s (tiles_answers s) m in
    rule (eleven Rows s room (of_form_is Tiles s z).0) λ r. rule (sixteen s z) λ c. none)
