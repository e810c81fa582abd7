-- An output filled by two copies.
-- Assumes nothing.
use mathlib.Core.Path.{◌≡◌, ◌∙◌, ap₂}
use mathlib.Core.List.{List, [], ◌++◌, append-nil}
use Prim.Native.Nat.{ℕ, ◌-◌}
use native.Mathlib.Nat.{le_of_eq}
use lib.ListN.{length, take, drop, drop_of_length-le, length-drop}
use lib.Seq.{length-take-le, take_all, take_at}
use Rattle.dds.specs.Filling.{Fills}

-- the first copy lays the first count bytes of a head, the second, behind them, the bytes of another list from start on
module _ (head from out : List ℕ) (count start : ℕ) (h : Fills (length head) count (length from) start (length out)) {one two : List ℕ}
    (e : one ≡ take count head) (f : two ≡ take (length from - start) (drop start from)) where
  long : length (take count head) ≡ count
  long = length-take-le count head h.count_there

  all : take (length from - start) (drop start from) ≡ drop start from
  all = take_all (length from - start) (drop start from) (le_of_eq (length-drop start from))

  first_is : take count (one ++ drop count out) ≡ take count head
  first_is = rw e (take_at (take count head) (drop count out) count long)

  none_behind : (xs : List ℕ) → drop (length xs - count) (drop count xs) ≡ []
  none_behind xs = drop_of_length-le (drop count xs) {i = length xs - count} (le_of_eq (length-drop count xs))

  pub two_copies : take count (one ++ drop count out)
      ++ (two ++ drop (length (one ++ drop count out) - count) (drop count (one ++ drop count out))) ≡ take count head ++ drop start from
  two_copies =
      rw (none_behind (one ++ drop count out), append-nil two) (ap₂ (λ (a b : List ℕ). a ++ b) first_is (f ∙ all))
