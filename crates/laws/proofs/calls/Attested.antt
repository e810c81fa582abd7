-- WHAT HOLDS THE WORDS ON CALLS: each on a short list of numbers. A call is a number; the state is the list of those that were made,
-- the latest first, and a call is answered how many were made before it.
-- Assumes nothing.
use mathlib.Core.Path.{◌≡◌, refl}
use mathlib.Core.List.{List, [], ◌∷◌}
use Prim.Native.Nat.{ℕ, ◌+◌, ◌*◌, ◌%◌}
use lib.Dec.{eqb, ltb}
use lib.ListN.{length}
use Rattle.laws.specs.Calls.{calls_on, keep, last, last_of_each, left, nothing, right, run, seen, told, told_left}

abbrev made : List ℕ → ℕ → List ℕ
made s c = c ∷ s

abbrev before : List ℕ → ℕ → ℕ
before s c = length s

-- each word, and what it says
pub record Words : Type 0 where
  pub one_after_another : run made [] (5 ∷ 6 ∷ 7 ∷ []) ≡ 7 ∷ 6 ∷ 5 ∷ []
  pub answers : told made before (9 ∷ []) (5 ∷ 6 ∷ 7 ∷ []) ≡ 1 ∷ 2 ∷ 3 ∷ []
  pub the_last : last (ltb 3) (5 ∷ 1 ∷ 7 ∷ 2 ∷ []) ≡ 7 ∷ []
  pub the_last_of_none : last (ltb 9) (5 ∷ 1 ∷ 7 ∷ 2 ∷ []) ≡ []
  pub the_last_of_each : last_of_each (λ (l c : ℕ). eqb (c % 2) l) (0 ∷ 1 ∷ []) (1 ∷ 2 ∷ 3 ∷ 4 ∷ 5 ∷ []) ≡ 4 ∷ 5 ∷ []
  pub shown : seen (λ (c : ℕ). c + 10) 3 (5 ∷ []) ≡ 15
  pub shown_before : seen (λ (c : ℕ). c + 10) 3 [] ≡ 3
  pub on_a_part : calls_on (λ (c : ℕ). c % 2) (λ (c : ℕ). 10 * c) 1 (1 ∷ 2 ∷ 3 ∷ 4 ∷ 5 ∷ []) ≡ 10 ∷ 30 ∷ 50 ∷ []
  pub answers_of_one_desk : told_left made before (left {c = 5} (right {c = 6} (left {c = 7} nothing))) [] ≡ 0 ∷ 2 ∷ []

pub words_say : Words
unfolding run told keep last last_of_each calls_on told_left
words_say = record {
  one_after_another = refl;
  answers = refl;
  the_last = refl;
  the_last_of_none = refl;
  the_last_of_each = refl;
  shown = refl;
  shown_before = refl;
  on_a_part = refl;
  answers_of_one_desk = refl;
}
