-- What the word of a partition says: the subset of each pixel, and the anchors behind pixel 0.
-- Assumes nothing.
use mathlib.Core.Path.{◌≡◌, sym, ap, ◌∙◌}
use mathlib.Core.List.{List, [], ◌∷◌}
use Prim.Native.Nat.{ℕ, zero, suc, ◌+◌, ◌-◌, ◌*◌, ◌/◌, ◌%◌, ◌^◌, ◌≤◌, ◌<◌}
use Prim.Native.String.{String}
use native.Mathlib.Nat.{lt_of_lt_of_le, mul_assoc, mul_comm}
use native.Mathlib.Omega.{arith}
use lib.ListN.{get_or, replicate}
use lib.Pow.{high, low, pow-add, pow_mono}
use Rattle.laws.specs.Digits.{Fit, join, more, none, split, total}
use Rattle.laws.proofs.Digits.{join_lt, split_join}
use Rattle.laws.proofs.Rows.{split_mod}
use Rattle.bcn_format.specs.Block.{field}
use Rattle.bcn_format.specs.Indexes.{OneFixup, TwoFixups, part}
use Rattle.bcn_format.specs.Partitions.{anchors2, anchors3, digits, marks, strings2, strings3, subset2, subset3}
use Rattle.partitions.specs.Maps.{map2, map3}
use Rattle.partitions.specs.Words.{anchor_in2, partition_word, partition_word2, partition_word3, second_in3, third_in3}
use Rattle.partitions.proofs.Maps.{anchors_in2, anchors_in3, fit2, fit3, marks2, marks3, share_of}

wider : (n b w : ℕ) {vs : List ℕ} → b ≤ w → Fit (replicate n b) vs → Fit (replicate n w) vs
wider zero b w h none = none
wider (suc n) b w h (more l f) = more (lt_of_lt_of_le l (pow_mono h)) (wider n b w h f)

-- of a string of digits of b bits, in fields of w
module _ (b w : ℕ) (s : String) (f : Fit (replicate 16 b) (digits s)) (least : b ≤ w) (most : w ≤ 3) where
  map : ℕ
  map = join (replicate 16 w) (digits s)

  wide : Fit (replicate 16 w) (digits s)
  wide = wider 16 b w least f

  bits : total (replicate 16 w) ≡ 16 * w
  bits = omega arith

  map_lt : map < 2 ^ (16 * w)
  unfolding map
  map_lt = rw bits at (join_lt wide)

  subsets_in : split (replicate 16 w) (partition_word w s) ≡ digits s
  unfolding partition_word map
  subsets_in =
      let a : ℕ = join (4 ∷ 4 ∷ []) (marks 0 s) in
      let e : 48 - 16 * w + 16 * w ≡ 48 = omega arith in
      let apart : a * 2 ^ 48 ≡ a * 2 ^ (48 - 16 * w) * 2 ^ (16 * w) =
      ap (λ (x : ℕ). a * 2 ^ x) (sym e) ∙ ap (λ (x : ℕ). a * x) (pow-add 2 (48 - 16 * w) (16 * w))
      ∙ sym (mul_assoc a (2 ^ (48 - 16 * w)) (2 ^ (16 * w))) in
      sym (split_mod (replicate 16 w) (partition_word w s))
      ∙ ap (split (replicate 16 w))
      (ap (λ (x : ℕ). partition_word w s % 2 ^ x) bits ∙ ap (λ (x : ℕ). (x + map) % 2 ^ (16 * w)) apart ∙ low (a * 2 ^ (48 - 16 * w)) (16 * w) map_lt)
      ∙ split_join wide

  subset_in_is : (q : ℕ) → q < 16 → partition_word w s / 2 ^ (q * w) % 2 ^ w ≡ get_or (digits s) q 0
  subset_in_is q h =
      ap (λ (x : ℕ). partition_word w s / 2 ^ x % 2 ^ w) (mul_comm q w) ∙ share_of w 16 (partition_word w s) q h
      ∙ ap (λ (l : List ℕ). get_or l q 0) subsets_in

  anchors_above : partition_word w s / 2 ^ 48 ≡ join (4 ∷ 4 ∷ []) (marks 0 s)
  unfolding partition_word map
  anchors_above = high (join (4 ∷ 4 ∷ []) (marks 0 s)) 48 (lt_of_lt_of_le map_lt (pow_mono {i = 16 * w} {j = 48} (omega arith)))

module _ (w a : ℕ) (h : a < 64) (most : w ≤ 3) where
  module _ (least : 1 ≤ w) where
    pub subset_of2 : (q : ℕ) → q < 16 → partition_word2 w a / 2 ^ (q * w) % 2 ^ w ≡ subset2 a q
    unfolding subset2
    subset_of2 = subset_in_is 1 w (get_or strings2 a "") (fit2 a h) least most

    pub anchor_of2 : partition_word2 w a / 2 ^ 48 ≡ (map2 a).fixup_index_2
    anchor_of2 = rw (anchors_above 1 w (get_or strings2 a "") (fit2 a h) least most, marks2 a h) (omega arith)

  module _ (least : 2 ≤ w) where
    pub subset_of3 : (q : ℕ) → q < 16 → partition_word3 w a / 2 ^ (q * w) % 2 ^ w ≡ subset3 a q
    unfolding subset3
    subset_of3 = subset_in_is 2 w (get_or strings3 a "") (fit3 a h) least most

    both : partition_word3 w a / 2 ^ 48 ≡ (map3 a).fixup_index_3 * 16 + (map3 a).fixup_index_2
    both = rw (anchors_above 2 w (get_or strings3 a "") (fit3 a h) least most, marks3 a h) (omega arith)

    pub second_of3 : partition_word3 w a / 2 ^ 48 % 16 ≡ (map3 a).fixup_index_2
    second_of3 = omega (arith, both, anchors_in3 a h)

    pub third_of3 : partition_word3 w a / 2 ^ 52 ≡ (map3 a).fixup_index_3
    third_of3 = omega (arith, both, anchors_in3 a h)

-- a word that has w bits for the subset of each pixel
pub record Maps (w : ℕ) (of : ℕ → ℕ) (word : ℕ) : Type 0 where
  pub at : (q : ℕ) → q < 16 → part word w q ≡ of q

-- the anchors after pixel 0, in pixel order
pub record Fixes2 (id a : ℕ) : Type 0 where
  pub are : anchors2 id ≡ 0 ∷ a ∷ []
  pub fixup : OneFixup a

pub record Fixes3 (id a b : ℕ) : Type 0 where
  pub are : anchors3 id ≡ 0 ∷ a ∷ b ∷ []
  pub fixups : TwoFixups a b

-- the word of a partition: its map, and its anchors behind pixel 0
module _ {w id set : ℕ} (hid : id < 64) (most : w ≤ 3) where
  module _ (least : 1 ≤ w) (e : set ≡ partition_word2 w id) where
    pub maps_2 : Maps w (subset2 id) set
    unfolding field
    maps_2 = record { at = λ q hq. rw e (subset_of2 w id hid most least q hq) }

    pub fixes_2 : Fixes2 id (anchor_in2 set)
    fixes_2 =
        let a = anchors_in2 id hid in
        rw (e, anchor_of2 w id hid most least) (record { are = a.are; fixup = a.fixup })

  module _ (least : 2 ≤ w) (e : set ≡ partition_word3 w id) where
    pub maps_3 : Maps w (subset3 id) set
    unfolding field
    maps_3 = record { at = λ q hq. rw e (subset_of3 w id hid most least q hq) }

    pub fixes_3 : Fixes3 id (second_in3 set) (third_in3 set)
    fixes_3 =
        let a = anchors_in3 id hid in
        rw (e, second_of3 w id hid most least, third_of3 w id hid most least)
        (record { are = a.are; fixups = a.fixups })
