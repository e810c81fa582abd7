-- WHAT HOLDS THE DEFINITIONS OF TEXT AND OF COUNTS: letters by their codes, numbers and a refusal written out; the odd numbers below six and
-- below seven, and a sum of squares.
-- Assumes nothing.
use mathlib.Core.Path.{◌≡◌, refl}
use mathlib.Core.List.{List, [], ◌∷◌, ◌++◌, map}
use Prim.Native.Nat.{ℕ, ◌*◌, ◌%◌}
use lib.Dec.{eqb}
use Prim.Native.String.{String}
use Rattle.laws.specs.Counting.{count, kept, sum}
use Rattle.laws.specs.Text.{ascii, decimal, digits_in, refused_text}

-- texts as claims have them: 10 ends each
unfoldable pub text : List String → List ℕ
text [] = []
text (s ∷ more) = ascii s ++ (10 ∷ []) ++ text more

pub record Words : Type 0 where
  pub letters : ascii "az AZ 09 -" ≡ 97 ∷ 122 ∷ 32 ∷ 65 ∷ 90 ∷ 32 ∷ 48 ∷ 57 ∷ 32 ∷ 45 ∷ []
  pub numbers : map decimal (0 ∷ 9 ∷ 10 ∷ 105 ∷ 4294967295 ∷ []) ≡ map ascii ("0" ∷ "9" ∷ "10" ∷ "105" ∷ "4294967295" ∷ [])
  pub refusal : refused_text 10 ≡ text ("refused 10" ∷ [])

pub words_hold : Words
unfolding text ascii decimal digits_in refused_text
words_hold = record { letters = refl; numbers = refl; refusal = refl }

pub record Counts : Type 0 where
  pub counted : map (λ (n : ℕ). count n (λ k. eqb (k % 2) 1)) (0 ∷ 1 ∷ 6 ∷ 7 ∷ []) ≡ 0 ∷ 0 ∷ 3 ∷ 3 ∷ []
  pub odd_ones : kept 7 (λ k. eqb (k % 2) 1) ≡ 1 ∷ 3 ∷ 5 ∷ []
  pub squares : map (λ (n : ℕ). sum n (λ k. k * k)) (0 ∷ 1 ∷ 5 ∷ []) ≡ 0 ∷ 0 ∷ 30 ∷ []

pub counts_hold : Counts
unfolding count kept sum
counts_hold = record { counted = refl; odd_ones = refl; squares = refl }
