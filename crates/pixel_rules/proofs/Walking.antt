-- What the letters of a string say is what its digits and marks say: one computed test for each table of strings.
-- Assumes nothing.
use mathlib.Core.Path.{◌≡◌, refl}
use mathlib.Core.Bool.{Bool, true, false}
use mathlib.Core.List.{[], ◌∷◌}
use Prim.Native.Nat.{ℕ, zero, suc, ◌+◌, ◌-◌, ◌*◌, ◌≤◌, ◌<◌}
use Prim.Native.String.{String}
use native.Mathlib.Omega.{arith}
use lib.Dec.{T, eqb, eqb→eq, leb, leb→le, ltb, ltb→lt}
use lib.ListN.{get_or, length}
use Rattle.laws.specs.Digits.{total}
use Rattle.laws.specs.Tables.{below, both, pick, table, table_from}
use Rattle.laws.proofs.Rows.{total_more, total_same}
use Rattle.laws.proofs.Tests.{at, both_left, both_right}
use Rattle.bcn_format.specs.Indexes.{index_width}
use Rattle.bcn_format.specs.Partitions.{among, anchors2, anchors3, digits, marks, strings2, strings3, subset2, subset3}
use Rattle.bc7_format.specs.declared.Split.{Split}
use Rattle.bc7_format.specs.declared.Split.TheVariants.{Whole, Two, Three, Vector}
use Rattle.bc7_format.specs.Splits.{anchors, kind_of, partition, subset}
use Rattle.pixel_rules.specs.Strings.{anchors_before, is_anchor_in, letters, place_in, string_of, subset_spelt, undivided}

-- two tests have the same answer
same : Bool → Bool → Bool
same true b = b
same false true = false
same false false = true

same_is : (a b : Bool) → T (same a b) → a ≡ b
unfolding same
same_is true true t = refl
same_is true false t = absurd t
same_is false true t = absurd t
same_is false false t = refl

-- of n subsets, at pixel q
walked_at : ℕ → String → ℕ → Bool
walked_at n t q =
    let cs = letters t in
    both (ltb (place_in cs q) (length cs))
    (both (leb q (place_in cs q))
    (both (leb 48 (get_or cs (place_in cs q) 0))
    (both (ltb (subset_spelt cs q) n)
    (both (eqb (subset_spelt cs q) (get_or (digits t) q 0))
    (both (same (is_anchor_in cs q) (among q (0 ∷ marks 0 t)))
    (eqb (anchors_before cs (suc q)) (pick (is_anchor_in cs q) 1 0 + anchors_before cs q)))))))

walked : ℕ → String → Bool
walked n t = below 16 (walked_at n t)

walked_1 : T (walked 1 undivided)
unfolding walked walked_at same letters place_in subset_spelt is_anchor_in anchors_before digits marks
walked_1 = tt

walked_2 : T (below 64 (λ a. walked 2 (get_or strings2 a "")))
unfolding walked walked_at same letters place_in subset_spelt is_anchor_in anchors_before digits marks strings2
walked_2 = tt

walked_3 : T (below 64 (λ a. walked 3 (get_or strings3 a "")))
unfolding walked walked_at same letters place_in subset_spelt is_anchor_in anchors_before digits marks strings3
walked_3 = tt

-- what the test says of a pixel
pub record Walked (n : ℕ) (t : String) (q : ℕ) : Type 0 where
  pub found : place_in (letters t) q < length (letters t)
  pub past : q ≤ place_in (letters t) q
  pub digit : 48 ≤ get_or (letters t) (place_in (letters t) q) 0
  pub few : subset_spelt (letters t) q < n
  pub subset : subset_spelt (letters t) q ≡ get_or (digits t) q 0
  pub anchor : is_anchor_in (letters t) q ≡ among q (0 ∷ marks 0 t)
  pub counted : anchors_before (letters t) (suc q) ≡ pick (is_anchor_in (letters t) q) 1 0 + anchors_before (letters t) q

walked_at_is : (n : ℕ) (t : String) → T (walked n t) → (q : ℕ) → q < 16 → Walked n t q
unfolding walked walked_at
walked_at_is n t w q h =
    let cs = letters t in
    let t0 = at 16 (walked_at n t) w q h in
    let t1 = both_right (ltb (place_in cs q) (length cs)) _ t0 in
    let t2 = both_right (leb q (place_in cs q)) _ t1 in
    let t3 = both_right (leb 48 (get_or cs (place_in cs q) 0)) _ t2 in
    let t4 = both_right (ltb (subset_spelt cs q) n) _ t3 in
    let t5 = both_right (eqb (subset_spelt cs q) (get_or (digits t) q 0)) _ t4 in
    let t6 = both_right (same (is_anchor_in cs q) (among q (0 ∷ marks 0 t))) _ t5 in
    record {
      found = ltb→lt _ _ (both_left (ltb (place_in cs q) (length cs)) _ t0);
      past = leb→le _ _ (both_left (leb q (place_in cs q)) _ t1);
      digit = leb→le _ _ (both_left (leb 48 (get_or cs (place_in cs q) 0)) _ t2);
      few = ltb→lt _ _ (both_left (ltb (subset_spelt cs q) n) _ t3);
      subset = eqb→eq _ _ (both_left (eqb (subset_spelt cs q) (get_or (digits t) q 0)) _ t4);
      anchor = same_is _ _ (both_left (same (is_anchor_in cs q) (among q (0 ∷ marks 0 t))) _ t5);
      counted = eqb→eq _ _ t6;
    }

-- how many subsets a split has: a vector and its scalar are one
abbrev pub subsets_of : Split → ℕ
subsets_of s = get_or (1 ∷ 2 ∷ 3 ∷ 1 ∷ []) (kind_of s) 0

pub walked_split : (s : Split) → partition s < 64 → (q : ℕ) → q < 16 → Walked (subsets_of s) (string_of s) q
walked_split Whole h = walked_at_is 1 undivided walked_1
walked_split (Two a) h = walked_at_is 2 (get_or strings2 a "") (at 64 (λ a. walked 2 (get_or strings2 a "")) walked_2 a h)
walked_split (Three a) h = walked_at_is 3 (get_or strings3 a "") (at 64 (λ a. walked 3 (get_or strings3 a "")) walked_3 a h)
walked_split (Vector r i) h = walked_at_is 1 undivided walked_1

-- the split's subsets and anchors are those of its string
pub anchors_are : (s : Split) → anchors s ≡ 0 ∷ marks 0 (string_of s)
unfolding anchors2 anchors3 marks
anchors_are Whole = refl
anchors_are (Two a) = refl
anchors_are (Three a) = refl
anchors_are (Vector r i) = refl

pub subset_is : (s : Split) → partition s < 64 → (q : ℕ) → q < 16 → subset_spelt (letters (string_of s)) q ≡ subset s q
unfolding subset2 subset3
subset_is Whole h q hq = omega (arith, (walked_split Whole h q hq).few)
subset_is (Two a) h q hq = (walked_split (Two a) h q hq).subset
subset_is (Three a) h q hq = (walked_split (Three a) h q hq).subset
subset_is (Vector r i) h q hq = omega (arith, (walked_split (Vector r i) h q hq).few)

module _ (s : Split) (hp : partition s < 64) where
  pub anchor_is : (q : ℕ) → q < 16 → is_anchor_in (letters (string_of s)) q ≡ among q (anchors s)
  anchor_is q hq = rw (anchors_are s) (walked_split s hp q hq).anchor

  -- each pixel has at most one
  pub fewer : (q : ℕ) → q ≤ 16 → anchors_before (letters (string_of s)) q ≤ q
  unfolding anchors_before
  fewer zero h = omega arith
  fewer (suc q) h =
      omega (arith, (walked_split s hp q h).counted, fewer q (omega arith), one (is_anchor_in (letters (string_of s)) q))
    where
      one : (b : Bool) → pick b 1 0 ≤ 1
      one true = omega arith
      one false = omega arith

  -- the widths of the indexes before a pixel: so many times the width, less one for each anchor
  less_one : (b : Bool) (w : ℕ) → 1 ≤ w → pick b (w - 1) w + pick b 1 0 ≡ w
  less_one true w h = omega arith
  less_one false w h = omega arith

  none_wide : (b : Bool) → ◌≡◌ {A = ℕ} (pick b (0 - 1) 0) 0
  none_wide true = refl
  none_wide false = refl

  together : (w : ℕ) → 1 ≤ w → (q : ℕ) → q ≤ 16
      → total (table q (index_width w (anchors s))) + anchors_before (letters (string_of s)) q ≡ q * w
  unfolding anchors_before table table_from
  together w some zero h = omega arith
  together w some (suc q) h =
      let an : is_anchor_in (letters (string_of s)) q ≡ among q (anchors s) = anchor_is q h in
      let more : anchors_before (letters (string_of s)) (suc q) ≡ pick (among q (anchors s)) 1 0 + anchors_before (letters (string_of s)) q =
      rw an at (walked_split s hp q h).counted in
      omega (arith, total_more q (index_width w (anchors s)), together w some q (omega arith), less_one (among q (anchors s)) w some)

  pub behind : (w q : ℕ) → q ≤ 16 → total (table q (index_width w (anchors s))) ≡ q * w - anchors_before (letters (string_of s)) q
  behind zero q h =
      let z : total (table q (index_width 0 (anchors s))) ≡ q * 0 = total_same _ 0 q (λ k l. none_wide (among k (anchors s))) in omega arith
  behind (suc v) q h = omega (arith, together (suc v) (omega arith) q h)
