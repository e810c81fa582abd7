-- The pixels of a line and its anchor, as the maps have them.
-- Assumes nothing.
use mathlib.Core.Path.{◌≡◌, refl, sym, ap, ◌∙◌}
use mathlib.Core.Bool.{Bool, true, false}
use Prim.Native.Nat.{ℕ, zero, suc, ◌<◌}
use native.Mathlib.Omega.{arith}
use lib.Dec.{T, eqb, eqb→eq}
use Rattle.bc7_format.specs.declared.Split.{Split}
use Rattle.bc7_format.specs.declared.Split.TheVariants.{Whole, Two, Three, Vector}
use Rattle.laws.specs.Tables.{below, pick}
use Rattle.laws.proofs.Tests.{at}
use Rattle.bc7_format.specs.Lines.{anchor_of}
use Rattle.bcn_format.specs.Partitions.{digits, marks, strings2, subset2, anchor2, anchor3}
use Rattle.bc7_format.specs.Splits.{is_vector, kind_of, partition, subset}
use Rattle.bc7_format.proofs.Modes.{first_only}
use Rattle.partitions.specs.Maps.{map2, map3}
use Rattle.partitions.proofs.Maps.{anchor_in2_is, anchor_in3, anchors_in2, anchors_in3}
use Rattle.bc7_places.specs.Lines.{anchor_in, line_pixels, own_pixel}
use Rattle.bc7_places.specs.Splits.{anchors_of}
use Rattle.bc7_places.proofs.splits.SubsetMaps.{subset_is}

-- the pixels of a line are those of its subset, and all of a vector's and its scalar's
pub own_pixel_is : (s : Split) (l q : ℕ) → partition s < 64 → q < 16 → own_pixel (line_pixels s l) q ≡ pick (is_vector s) true (eqb (subset s q) l)
unfolding own_pixel
own_pixel_is Whole l q h hq = ap (λ (x : ℕ). eqb x l) (subset_is Whole q h hq)
own_pixel_is (Two a) l q h hq = ap (λ (x : ℕ). eqb x l) (subset_is (Two a) q h hq)
own_pixel_is (Three a) l q h hq = ap (λ (x : ℕ). eqb x l) (subset_is (Three a) q h hq)
own_pixel_is (Vector r i) l q h hq = ap (λ (x : ℕ). eqb x 0) (subset_is (Vector r i) q h hq)

-- the anchor of a line; of two subsets the fixup is the second's
second_subset : T (below 64 (λ a. eqb (subset2 a (map2 a).fixup_index_2) 1))
unfolding digits marks strings2 subset2 map2
second_subset = tt

in_subset_1 : (a : ℕ) → a < 64 → subset2 a (map2 a).fixup_index_2 ≡ 1
in_subset_1 a h = eqb→eq _ 1 (at 64 (λ a. eqb (subset2 a (map2 a).fixup_index_2) 1) second_subset a h)

whole_anchor : (l : ℕ) → anchor_of Whole l ≡ 0
unfolding anchor_of
whole_anchor l = first_only l

vector_anchor : (r i l : ℕ) → anchor_of (Vector r i) l ≡ 0
unfolding anchor_of
vector_anchor r i l = first_only l

either : (b : Bool) → ◌≡◌ {A = ℕ} (pick b 0 0) 0
either true = refl
either false = refl

two_anchor : (a l : ℕ) → anchor_of (Two a) l ≡ anchor2 a l
unfolding anchor_of
two_anchor a l = refl

three_anchor : (a l : ℕ) → anchor_of (Three a) l ≡ anchor3 a l
unfolding anchor_of
three_anchor a l = refl

pub anchor_is : (s : Split) (l : ℕ) → partition s < 64 → (kind_of s ≡ 1 → l < 2) → (kind_of s ≡ 2 → l < 3)
    → anchor_in (kind_of s) l (line_pixels s l) (anchors_of s) ≡ anchor_of s l
anchor_is Whole l h h2 h3 = ap (pick (eqb l 0) 0) (either (own_pixel (line_pixels Whole l) 0)) ∙ either (eqb l 0) ∙ sym (whole_anchor l)
anchor_is (Two a) l h h2 h3 =
    rw (
      (anchors_in2 a h).are,
      own_pixel_is (Two a) l (map2 a).fixup_index_2 h (anchors_in2 a h).fixup.pixel,
      in_subset_1 a h,
    )
    (go l (h2 refl) ∙ sym (two_anchor a l ∙ anchor_in2_is a l h (h2 refl)))
  where
    go : (l : ℕ) → l < 2 → pick (eqb l 0) 0 (pick (eqb 1 l) (map2 a).fixup_index_2 0) ≡ pick (eqb l 0) 0 (map2 a).fixup_index_2
    go zero l2 = refl
    go (suc zero) l2 = refl
    go (suc (suc l)) l2 = absurd (let y : ⊥ = omega arith in y)
anchor_is (Three a) l h h2 h3 =
    rw (
      (anchors_in3 a h).are,
      own_pixel_is (Three a) l (map3 a).fixup_index_2 h (let f = (anchors_in3 a h).fixups in omega (arith, f.rising, f.pixel)),
    )
    (sym (three_anchor a l ∙ anchor_in3 a l h (h3 refl)))
anchor_is (Vector r i) l h h2 h3 = either (eqb l 0) ∙ sym (vector_anchor r i l)
