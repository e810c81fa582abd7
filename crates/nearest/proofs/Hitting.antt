-- The index that hits, from the nearest one and its distance.
-- Assumes nothing.
use mathlib.Core.Path.{◌≡◌, sym, ◌∙◌}
use mathlib.Core.Logic.{◌≢◌}
use mathlib.Core.Bool.{not}
use mathlib.Core.List.{List}
use Prim.Native.Nat.{ℕ}
use native.Mathlib.Nat.{le_refl}
use borrow.Author.Tests.{eq-eqb, le-ltb, lt-ltb, ne_eqb}
use lib.Dec.{ltb}
use lib.Pow.{pow_pos}
use Rattle.refusals.specs.Answers.{Answer}
use Rattle.laws.specs.Refusals.{refuse}
use Rattle.laws.proofs.First.{first_here, first_last, first_skip}
use Rattle.bc7_format.specs.Modes.{mode_of}
use Rattle.bc7_format.specs.Splits.{split_of}
use Rattle.bc7_format.specs.Lines.{line_bits}
use Rattle.nearest_rules.specs.Nearest.{distance, exact_index, exact_refusal, index_count, least_at, nearest_index, nearest_refusal, zero_at}
use Rattle.nearest.specs.Trying.{Tried, Tries}
use Rattle.nearest_rules.proofs.Least.{Least, least_at_is, no_zero, zero_is_least}

abbrev answer : ℕ → ℕ → Answer ℕ
answer r i = record { refusal = r; value = i }

module _ (bs : List ℕ) (l q : ℕ) (wanted : List ℕ) {x : Tried} (t : Tries bs l q wanted x) where
  abbrev n : ℕ
  n = index_count bs l

  abbrev d : ℕ → ℕ
  d = distance bs l q wanted

  refusal_is : x.refusal ≡ nearest_refusal bs l q
  unfolding nearest_index
  refusal_is = t.refusal

  -- what is refused of the nearest index is refused of the one that hits
  pub exact_refused : x.refusal ≢ 0 → answer x.refusal x.index ≡ exact_index bs l q wanted
  unfolding exact_index exact_refusal nearest_index
  exact_refused ne =
      let no : nearest_refusal bs l q ≢ 0 = rw refusal_is at ne in
      let e : exact_refusal bs l q wanted ≡ nearest_refusal bs l q = first_here (nearest_refusal bs l q) _ no in
      rw (t.refusal, t.index, e, ne_eqb (nearest_refusal bs l q) 0 no)

  module _ (ok : x.refusal ≡ 0) where
    accepted : nearest_refusal bs l q ≡ 0
    accepted = sym refusal_is ∙ ok

    index_is : x.index ≡ least_at n d
    unfolding nearest_index
    index_is = rw (eq-eqb _ _ accepted) at t.index

    least : Least n d x.index
    unfolding index_count
    least = rw index_is (least_at_is n d (pow_pos (line_bits (mode_of bs) (split_of bs) l)))

    only_14 : exact_refusal bs l q wanted ≡ refuse 14 (not (ltb (zero_at n d) n))
    unfolding exact_refusal
    only_14 = first_skip (nearest_refusal bs l q) _ accepted ∙ first_last (refuse 14 (not (ltb (zero_at n d) n)))

    -- where the nearest isn't at distance 0, none is
    pub exact_missed : x.distance ≢ 0 → answer 14 0 ≡ exact_index bs l q wanted
    unfolding exact_index
    exact_missed ne =
        let none : zero_at n d ≡ n = no_zero n d least (rw (t.distance ok) at ne) in
        rw (only_14, none, le-ltb n n (le_refl n))

    -- and else it is the lowest that hits
    pub exact_found : x.distance ≡ 0 → answer x.refusal x.index ≡ exact_index bs l q wanted
    unfolding exact_index
    exact_found z =
        let hit : zero_at n d ≡ x.index = zero_is_least n d least (sym (t.distance ok) ∙ z) in
        rw (only_14, hit, lt-ltb x.index n least.below, ok)
