-- What a block shows is what its fields show.
-- Assumes nothing.
use mathlib.Core.Path.{◌≡◌, refl, sym, ap, ap₂, ◌∙◌, subst}
use mathlib.Core.Logic.{◌≢◌}
use mathlib.Core.Bool.{Bool, true, false, not}
use mathlib.Core.List.{List, []}
use Prim.Native.Nat.{ℕ, ◌+◌, ◌-◌, ◌*◌, ◌/◌, ◌≤◌, ◌<◌}
use native.Mathlib.Nat.{lt_of_lt_of_le}
use native.Mathlib.Omega.{arith}
use borrow.Author.Tests.{ne_eqb}
use lib.Dec.{T, eqb}
use lib.Pow.{pow_mono}
use Rattle.bc7_format.specs.declared.Place.TheVariants.{Value, PBit, Index}
use Rattle.bc7_format.specs.declared.Split.{Split}
use Rattle.bc7_format.specs.declared.Split.TheVariants.{Whole, Two, Three, Vector}
use Rattle.laws.specs.Digits.{Fit}
use Rattle.laws.specs.Tables.{pick, table, table_from}
use Rattle.laws.proofs.Cases.{pick_less}
use Rattle.laws.proofs.Joining.{table_same}
use Rattle.bcn_format.specs.Block.{eights, field, number}
use Rattle.bc7_format.specs.Modes.{mode_of, channel_bits, index_bits, lines, p_count}
use Rattle.bcn_format.specs.Drawing.{drawn, weight_of}
use Rattle.bc7_format.specs.Lines.{eight, index_set_of, index_place, is_drawn, line_at, line_bits, line_of, means_stored, p_place, pixel, pixels}
use Rattle.bc7_format.specs.Lines.{rotated, shown, value_place}
use Rattle.bcn_format.specs.Partitions.{among}
use Rattle.bc7_format.specs.Places.{at_place, opened, width}
use Rattle.bc7_format.specs.Splits.{anchors, is_vector, rotation, split_at, split_of, subset}
use Rattle.bc7_format.specs.WellFormed.{WellFormed}
use Rattle.bc7_fields.proofs.Direct.{plain_line, shown_direct}
use Rattle.bcn_format.proofs.Drawing.{weight_le}
use Rattle.bc7_format.proofs.Meaning.{index_set_lt, eight_ext, good_rotation, line_bits_is, rotated_lt}
use Rattle.bc7_format.proofs.Modes.{good_index_mode, good_subset, good_vector, p_count_is}
use Rattle.bc7_format.proofs.Opening.{opened_good}
use Rattle.bc7_format.proofs.Places.{inside_index}
use Rattle.bc7_format.proofs.Subsets.{line_below}
use Rattle.bc7_fields.specs.Fields.{direct, direct_pixels, end_byte, p_start, value_start}
use Rattle.bc7_fields.proofs.Fields.{p_at, value_at_is}

-- between 255 and 255 there is nothing else
opaque : (w : ℕ) → w ≤ 64 → drawn 255 255 w ≡ 255
unfolding drawn
opaque w h = omega arith

vector_subset : (s : Split) (q : ℕ) → is_vector s ≡ true → subset s q ≡ 0
vector_subset Whole q e = refl
vector_subset (Two a) q e = absurd (subst (λ (b : Bool). T (not b)) e tt)
vector_subset (Three a) q e = absurd (subst (λ (b : Bool). T (not b)) e tt)
vector_subset (Vector r i) q e = refl

p_below : (b : Bool) (l j k n : ℕ) → pick b k (2 * k) ≡ n → l < k → j < 2 → pick b ((2 * l + j) / 2) (2 * l + j) < n
p_below true l j k n e h hj = omega arith
p_below false l j k n e h hj = omega arith

module _ (m : ℕ) (s : Split) (n : ℕ) (g : WellFormed m s (at_place m s n)) (q d : ℕ) (hq : q < 16) (hd : d < 4) where
  -- the line that draws, where the split has a vector (b) and where not
  abbrev drawing : Bool → ℕ
  drawing b = pick b (pick (eqb d 3) 1 0) (subset s q)

  subset_below : is_vector s ≡ false → subset s q < lines m
  unfolding line_at
  subset_below e = subst (λ (b : Bool). drawing b < lines m) e (line_below g q d hq)

  -- its endpoint k: the value, and the p where the mode has one
  value_is : (b : Bool) → is_vector s ≡ b → (k : ℕ) → k < 2
      → at_place m s n (Value d (pick b k (2 * drawing b + k))) ≡ field n (value_start m d (2 * subset s q + k)) (channel_bits m d)
  value_is true e k hk =
      let z : k ≡ 2 * subset s q + k = omega (arith, vector_subset s q e) in
      ap (λ (x : ℕ). at_place m s n (Value d x)) z ∙ value_at_is m s n g.mode d _ hd (omega (arith, (good_vector g e).ends, vector_subset s q e))
  value_is false e k hk = value_at_is m s n g.mode d _ hd (omega (arith, (good_subset g e).ends, subset_below e))

  p_is : (b : Bool) → is_vector s ≡ b → (k : ℕ) → k < 2 → p_count m ≢ 0
      → at_place m s n (PBit (pick (eqb m 1) (drawing b) (2 * drawing b + k))) ≡ field n (p_start m (2 * subset s q + k)) 1
  p_is true e k hk some = absurd (some (good_vector g e).none)
  p_is false e k hk some =
      let l : ℕ = subset s q in
      let half : l ≡ (2 * l + k) / 2 = omega arith in
      let count = p_count_is m g.mode some in
      ap (λ (h : ℕ). at_place m s n (PBit (pick (eqb m 1) h (2 * l + k)))) half
      ∙ p_at m s n g.mode (2 * l + k) (omega (arith, count.1, subset_below e))
      (p_below (eqb m 1) l k (lines m) (p_count m) count.0 (subset_below e) hk)

  end_is : (k : ℕ) → k < 2 → is_drawn m d ≡ true
      → eight m d (at_place m s n (value_place s (line_at s q d) k d)) (at_place m s n (p_place m (line_at s q d) k)) ≡ end_byte m n (2 * subset s q + k) d
  unfolding end_byte value_place p_place line_at
  end_is k hk dr =
      eight_ext m d _ _ _ _ (value_is (is_vector s) refl k hk) (p_is (is_vector s) refl k hk)
      ∙ sym (ap (λ (b : Bool). pick b (eight m d (field n (value_start m d (2 * subset s q + k)) (channel_bits m d))
      (field n (p_start m (2 * subset s q + k)) 1)) 255) dr)

  -- the weight of the index that serves the channel
  weight : ℕ
  weight = let a = index_set_of s (line_at s q d) in weight_of (index_bits m a) (at_place m s n (Index a q))

  weight_64 : weight ≤ 64
  unfolding weight line_bits width index_set_of
  weight_64 =
      let a : ℕ = index_set_of s (line_at s q d) in
      let bits = line_bits_is g (line_at s q d) in
      let two : a < 2 = index_set_lt s (line_at s q d) (good_index_mode g) in
      let narrow : pick (among q (anchors s)) (index_bits m a - 1) (index_bits m a) ≤ index_bits m a =
      pick_less (among q (anchors s)) (index_bits m a) in
      weight_le (index_bits m a) _ bits.0 bits.1 (lt_of_lt_of_le (g.fits (Index a q) (inside_index two hq)) (pow_mono narrow))

  both_ends : (b : Bool) → is_drawn m d ≡ b
      → pick b (means_stored m s (line_at s q d) (plain_line m s (line_at s q d) (at_place m s n)) q d) 255
      ≡ drawn (end_byte m n (2 * subset s q + 0) d) (end_byte m n (2 * subset s q + 1) d) weight
  unfolding means_stored plain_line weight line_bits index_place end_byte
  both_ends true dr = ap₂ (λ (x y : ℕ). drawn x y weight) (end_is 0 (omega arith) dr) (end_is 1 (omega arith) dr)
  both_ends false dr = rw dr (sym (opaque weight weight_64))

-- a channel that is shown
shown_is : (m : ℕ) (s : Split) (n : ℕ) → WellFormed m s (at_place m s n) → (q c : ℕ) → q < 16 → c < 4
    → shown m s (at_place m s n) q c ≡ direct m s n q c
unfolding shown direct weight
shown_is m s n g q c hq hc = go (is_drawn m d) refl
  where
    d : ℕ
    d = rotated (rotation s) c

    hd : d < 4
    hd = rotated_lt (rotation s) c (good_rotation g) hc

    go : (b : Bool) → is_drawn m d ≡ b → shown m s (at_place m s n) q c ≡ direct m s n q c
    go true e = shown_direct g q c hq hc e ∙ both_ends m s n g q d hq hd true e
    go false e =
        ap (λ (b : Bool). pick b (means_stored m s (line_at s q d) (line_of m s (line_at s q d) (at_place m s n)) q d) 255) e
        ∙ both_ends m s n g q d hq hd false e

-- a block that is not reserved
module _ (bs : List ℕ) (sixteen : Fit eights bs) (low : mode_of bs < 8) where
  pixel_is : (q c : ℕ) → q < 16 → c < 4 → pixel bs q c ≡ direct (mode_of bs) (split_at (mode_of bs) (number bs)) (number bs) q c
  unfolding pixel opened split_of
  pixel_is q c hq hc =
      ap (λ (b : Bool). pick b 0 (shown (mode_of bs) (split_of bs) (opened bs) q c)) (ne_eqb (mode_of bs) 8 (λ e. omega arith))
      ∙ shown_is (mode_of bs) (split_of bs) (number bs) (opened_good bs sixteen low) q c hq hc

  pub pixels_are : pixels bs ≡ direct_pixels (mode_of bs) (number bs)
  unfolding pixels direct_pixels table table_from
  pixels_are =
      table_same [] 16 (λ q. table 4 (pixel bs q)) (λ q. table 4 (direct (mode_of bs) (split_at (mode_of bs) (number bs)) (number bs) q))
      (λ q hq. table_same 0 4 _ _ (λ c hc. pixel_is q c hq hc))
