-- A string walked letter by letter.
-- Assumes nothing.
use mathlib.Core.Path.{◌≡◌, refl, ap, ◌∙◌}
use mathlib.Core.Bool.{Bool, true, false, not}
use mathlib.Core.List.{List, [], ◌∷◌, ◌++◌}
use Prim.Native.Nat.{ℕ, suc, ◌+◌, ◌-◌, ◌<◌}
use native.Mathlib.Numerals.{add-one}
use native.Mathlib.Omega.{arith}
use borrow.Author.Tests.{eq-eqb, ne_eqb}
use lib.Dec.{eqb}
use lib.ListN.{drop, get_or, length, take}
use lib.Seq.{drop-cons, drop-length, take-suc}
use Rattle.laws.specs.Tables.{both, pick}
use Rattle.bcn_format.specs.Partitions.{how_many}
use Rattle.pixel_rules.specs.Strings.{place_in}

module _ (cs : List ℕ) (k : ℕ) (h : k < length cs) where
  here : drop k cs ≡ get_or cs k 0 ∷ drop (k + 1) cs
  here = rw (add-one k) (drop-cons cs k 0 h)

  -- what is left of the walk at a letter: a dash, the digit that is looked for, another digit
  pub at_dash : (left : ℕ) → get_or cs k 0 ≡ 45 → k + place_in (drop k cs) left ≡ (k + 1) + place_in (drop (k + 1) cs) left
  unfolding place_in
  at_dash left e =
      let one : place_in (drop k cs) left ≡ suc (place_in (drop (k + 1) cs) left) =
      ap (λ (l : List ℕ). place_in l left) here
      ∙ ap (λ (b : Bool). pick (both (eqb left 0) (not b)) 0 (suc (place_in (drop (k + 1) cs) (pick b left (left - 1))))) (eq-eqb (get_or cs k 0) 45 e)
      ∙ never (eqb left 0) in
      omega (arith, one)
    where
      never : (b : Bool) {x : ℕ} → pick (both b false) 0 x ≡ x
      never true = refl
      never false = refl

  pub at_digit : (get_or cs k 0 ≡ 45 → ⊥) → place_in (drop k cs) 0 ≡ 0
  unfolding place_in
  at_digit n =
      ap (λ (l : List ℕ). place_in l 0) here
      ∙ ap (λ (b : Bool). pick (both true (not b)) 0 (suc (place_in (drop (k + 1) cs) (pick b 0 0)))) (ne_eqb (get_or cs k 0) 45 n)

  pub past_digit : (left : ℕ) → (get_or cs k 0 ≡ 45 → ⊥) → (left ≡ 0 → ⊥)
      → k + place_in (drop k cs) left ≡ (k + 1) + place_in (drop (k + 1) cs) (left - 1)
  unfolding place_in
  past_digit left n some =
      let one : place_in (drop k cs) left ≡ suc (place_in (drop (k + 1) cs) (left - 1)) =
      ap (λ (l : List ℕ). place_in l left) here
      ∙ ap (λ (b : Bool). pick (both (eqb left 0) (not b)) 0 (suc (place_in (drop (k + 1) cs) (pick b left (left - 1))))) (ne_eqb (get_or cs k 0) 45 n)
      ∙ ap (λ (b : Bool). pick (both b true) 0 (suc (place_in (drop (k + 1) cs) (left - 1)))) (ne_eqb left 0 some) in
      omega (arith, one)

-- behind the last letter
pub at_end : (cs : List ℕ) (k left : ℕ) → k ≡ length cs → place_in (drop k cs) left ≡ 0
unfolding place_in
at_end cs k left e = ap (λ (j : ℕ). place_in (drop j cs) left) e ∙ ap (λ (l : List ℕ). place_in l left) (drop-length cs)

-- dashes up to a letter, and one letter more
many_snoc : (d : ℕ) (xs : List ℕ) (x : ℕ) → how_many d (xs ++ (x ∷ [])) ≡ pick (eqb x d) 1 0 + how_many d xs
many_snoc d [] x = last (eqb x d)
  where
    last : (b : Bool) → pick b 1 0 ≡ pick b 1 0 + 0
    last true = refl
    last false = refl
many_snoc d (y ∷ ys) x = go (eqb y d) (many_snoc d ys x)
  where
    go : (b : Bool) → how_many d (ys ++ (x ∷ [])) ≡ pick (eqb x d) 1 0 + how_many d ys
        → pick b (suc (how_many d (ys ++ (x ∷ [])))) (how_many d (ys ++ (x ∷ []))) ≡ pick (eqb x d) 1 0 + pick b (suc (how_many d ys)) (how_many d ys)
    go true e = omega arith
    go false e = e

module _ (cs : List ℕ) (k : ℕ) (h : k < length cs) where
  more : how_many 45 (take (k + 1) cs) ≡ pick (eqb (get_or cs k 0) 45) 1 0 + how_many 45 (take k cs)
  more = rw (add-one k) (ap (how_many 45) (take-suc cs k 0 h) ∙ many_snoc 45 (take k cs) (get_or cs k 0))

  pub one_more : get_or cs k 0 ≡ 45 → how_many 45 (take (k + 1) cs) ≡ suc (how_many 45 (take k cs))
  one_more e =
      more ∙ ap (λ (b : Bool). pick b 1 0 + how_many 45 (take k cs)) (eq-eqb (get_or cs k 0) 45 e)
      ∙ (let z : 1 + how_many 45 (take k cs) ≡ suc (how_many 45 (take k cs)) = omega arith in z)

  pub no_more : (get_or cs k 0 ≡ 45 → ⊥) → how_many 45 (take (k + 1) cs) ≡ how_many 45 (take k cs)
  no_more n =
      more ∙ ap (λ (b : Bool). pick b 1 0 + how_many 45 (take k cs)) (ne_eqb (get_or cs k 0) 45 n)
      ∙ (let z : 0 + how_many 45 (take k cs) ≡ how_many 45 (take k cs) = omega arith in z)
