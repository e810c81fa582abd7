-- A given line on the words of its indexes: which fits.
-- Assumes nothing.
use mathlib.Core.Path.{◌≡◌, refl, sym, ◌∙◌}
use mathlib.Core.Bool.{Bool, true, false}
use Prim.Native.Nat.{ℕ, ◌+◌, ◌*◌, ◌/◌, ◌%◌, ◌^◌, ◌≤◌, ◌<◌}
use native.Mathlib.Nat.{le_refl, lt_of_lt_of_le, mod-lt}
use native.Mathlib.Omega.{arith}
use lib.Bits.{bit_and}
use lib.Dec.{eqb, lit<, ltb, ltb→lt, lt→ltb}
use lib.ListN.{get_or}
use lib.Pow.{pow_mono, pow_pos}
use Rattle.bc7_places.specs.declared.lines.LinePart.{LinePart}
use Rattle.line_rules.specs.declared.Replacement.{Replacement}
use Rattle.bc7_format.specs.declared.Split.{Split}
use Rattle.laws.specs.Tables.{below, pick}
use Rattle.laws.proofs.Tests.{T_true, at, below_intro, both_intro, both_true, true_T}
use Rattle.line_rules.specs.Acceptable.{WithinLine}
use Rattle.line_rules.specs.Replace.{line_given}
use Rattle.bc7_places.specs.Lines.{own_pixel}
use Rattle.line.specs.Parts.{parts_fit}
use Rattle.line.proofs.parts.Parts.{IsPart}
use Rattle.line.proofs.parts.Words.{Small, mask_part, masked, word, word_one, word_same}

module _ {m : ℕ} {s : Split} {l : ℕ} {x : LinePart} (is : IsPart m s l x) (g : Replacement) where
  abbrev w : ℕ
  w = x.index

  abbrev own : ℕ → Bool
  own q = own_pixel x.pixels q

  abbrev v : ℕ → ℕ
  v q = get_or g.indexes q 0

  abbrev value_test_is : ℕ → Bool
  value_test_is i = ltb (get_or g.endpoints i 0) (2 ^ pick (eqb (i % 4) 3) x.alpha x.colour)

  abbrev p_test_is : ℕ → Bool
  p_test_is k = ltb (get_or g.p k 0) (2 ^ x.p)

  abbrev index_test : ℕ → Bool
  index_test q = ltb (v q) (2 ^ w)

  -- what fits in the line fits its parts
  pub within_parts : WithinLine m s l (line_given g) → parts_fit x g ≡ true
  unfolding parts_fit line_given
  within_parts h =
      T_true _ (both_intro (below 16 index_test) _ (below_intro 16 index_test (λ q hq. lt→ltb _ _ (index q hq)))
      (both_intro (below 2 p_test_is) _ (below_intro 2 p_test_is (λ k hk. lt→ltb _ _ (rw (is.p k hk) at (h.p k hk))))
      (below_intro 8 value_test_is (λ i hi. lt→ltb _ _ (value i hi)))))
    where
      value : (i : ℕ) → i < 8 → get_or g.endpoints i 0 < 2 ^ pick (eqb (i % 4) 3) x.alpha x.colour
      value i hi =
          let hk : i / 4 < 2 = omega arith in
          let hc : i % 4 < 4 = mod-lt i (lit< tt) in
          let e : 4 * (i / 4) + i % 4 ≡ i = omega arith in
          rw (is.value (i / 4) (i % 4) hk hc, e) at (h.value (i / 4) (i % 4) hk hc)

      index : (q : ℕ) → q < 16 → v q < 2 ^ w
      index q hq = lt_of_lt_of_le (rw (is.index q hq) at (h.index q hq)) (pow_mono (or_none (own q)))
        where
          or_none : (b : Bool) → pick b w 0 ≤ w
          or_none true = le_refl w
          or_none false = omega arith

  module _ (fits : Small w v) where
    own_small : Small w (λ q. pick (own q) (v q) 0)
    own_small q h = go (own q)
      where
        go : (b : Bool) → pick b (v q) 0 < 2 ^ w
        go true = fits q h
        go false = pow_pos w

    -- so it leaves the word exactly where the others are zero
    pub only_kept : bit_and (word w v) (word w (mask_part x)) ≡ word w v → (q : ℕ) → q < 16 → pick (own q) (v q) 0 ≡ v q
    only_kept e = word_one w (λ q. pick (own q) (v q) 0) v own_small fits (sym (masked x v fits) ∙ e)

    pub within_kept : WithinLine m s l (line_given g) → bit_and (word w v) (word w (mask_part x)) ≡ word w v
    unfolding line_given
    within_kept h = masked x v fits ∙ word_same w _ _ (λ q hq. go (own q) (rw (is.index q hq) at (h.index q hq)))
      where
        go : (b : Bool) {z : ℕ} → z < 2 ^ pick b w 0 → pick b z 0 ≡ z
        go true k = refl
        go false {z} k = let e : 0 ≡ z = omega arith in e

  -- what fits its parts and has zeros at the others fits in the line
  pub small_indexes : parts_fit x g ≡ true → Small w v
  unfolding parts_fit
  small_indexes e q hq =
      ltb→lt _ _ (at 16 index_test (true_T _ (both_true (below 16 index_test) _ e).0) q hq)

  pub parts_within : parts_fit x g ≡ true → ((q : ℕ) → q < 16 → pick (own q) (v q) 0 ≡ v q) → WithinLine m s l (line_given g)
  unfolding parts_fit line_given
  parts_within e kept =
      let b = both_true (below 2 p_test_is) _ (both_true (below 16 index_test) _ e).1 in
      record {
        value = λ k c hk hc.
            let z : (4 * k + c) % 4 ≡ c = omega arith in
            rw (is.value k c hk hc)
            (rw z at (ltb→lt (get_or g.endpoints (4 * k + c) 0) (2 ^ pick (eqb ((4 * k + c) % 4) 3) x.alpha x.colour)
            (at 8 value_test_is (true_T _ b.1) (4 * k + c) (omega arith))));
        p = λ k hk. rw (is.p k hk) (ltb→lt _ _ (at 2 p_test_is (true_T _ b.0) k hk));
        index = λ q hq. rw (is.index q hq) (go (own q) (kept q hq) (small_indexes e q hq));
      }
    where
      go : (b : Bool) {z : ℕ} → pick b z 0 ≡ z → z < 2 ^ w → z < 2 ^ pick b w 0
      go true k h = h
      go false {z} k h = omega arith
