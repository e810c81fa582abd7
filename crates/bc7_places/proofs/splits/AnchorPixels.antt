-- Anchors as three pixels: those of a split are its anchors, as many as its kind has, in rising order.
-- Assumes nothing.
use mathlib.Core.Path.{◌≡◌, refl}
use mathlib.Core.Bool.{Bool, true, false}
use Prim.Native.Nat.{ℕ, ◌<◌}
use native.Mathlib.Nat.{lt_trans}
use native.Mathlib.Omega.{arith}
use lib.Dec.{eqb, lit<}
use Rattle.bc7_places.specs.declared.splits.Anchors.{Anchors}
use Rattle.bc7_format.specs.declared.Split.{Split}
use Rattle.bc7_format.specs.declared.Split.TheVariants.{Whole, Two, Three, Vector}
use Rattle.bcn_format.specs.Partitions.{among, or}
use Rattle.bc7_format.specs.Splits.{anchors, kind_of, partition}
use Rattle.bcn_format.specs.Indexes.{Rising, anchors_with}
use Rattle.bc7_places.specs.Splits.{ArePixels, anchors_of, three_of}
use Rattle.partitions.specs.Maps.{map2, map3}
use Rattle.partitions.proofs.Maps.{anchors_in2, anchors_in3}

-- the anchors of a split, listed as three
again : (a b : Bool) → or a (or b (or a false)) ≡ or a (or b false)
again true b = refl
again false true = refl
again false false = refl

thrice : (a : Bool) → or a (or a (or a false)) ≡ or a false
thrice true = refl
thrice false = refl

pub three_are : (s : Split) → partition s < 64 → (q : ℕ) → among q (three_of (anchors_of s)) ≡ among q (anchors s)
three_are Whole h q = thrice (eqb q 0)
three_are (Two a) h q = rw (anchors_in2 a h).are (again (eqb q 0) (eqb q (map2 a).fixup_index_2))
three_are (Three a) h q = rw (anchors_in3 a h).are
three_are (Vector r i) h q = thrice (eqb q 0)

-- what the partition tables have
pub anchors_two : (a : ℕ) → a < 64 → ◌≡◌ {A = Anchors} (record { a = 0; b = (map2 a).fixup_index_2; c = 0 }) (anchors_of (Two a))
anchors_two a h = rw (anchors_in2 a h).are

pub anchors_three : (a : ℕ) → a < 64
    → ◌≡◌ {A = Anchors} (record { a = 0; b = (map3 a).fixup_index_2; c = (map3 a).fixup_index_3 }) (anchors_of (Three a))
anchors_three a h = rw (anchors_in3 a h).are

-- the anchors of a split by its kind
pub anchors_kind : (s : Split) → partition s < 64 → anchors_with (kind_of s) (anchors_of s).b (anchors_of s).c ≡ anchors s
anchors_kind Whole h = refl
anchors_kind (Two a) h = rw (anchors_in2 a h).are
anchors_kind (Three a) h = rw (anchors_in3 a h).are
anchors_kind (Vector r i) h = refl

pub anchors_rise : (s : Split) → partition s < 64 → Rising (kind_of s) (anchors_of s).b (anchors_of s).c
anchors_rise Whole h = record { two = λ e. absurd (let z : ⊥ = omega arith in z); three = λ e. absurd (let z : ⊥ = omega arith in z) }
anchors_rise (Two a) h =
    let x = anchors_in2 a h in record { two = λ e. rw x.are x.fixup; three = λ e. absurd (let z : ⊥ = omega arith in z) }
anchors_rise (Three a) h =
    let x = anchors_in3 a h in record { two = λ e. absurd (let z : ⊥ = omega arith in z); three = λ e. rw x.are x.fixups }
anchors_rise (Vector r i) h = record { two = λ e. absurd (let z : ⊥ = omega arith in z); three = λ e. absurd (let z : ⊥ = omega arith in z) }

pub anchors_low : (s : Split) → partition s < 64 → ArePixels (anchors_of s)
anchors_low Whole h = record { first = lit< tt; second = lit< tt; third = lit< tt }
anchors_low (Two a) h = let x = anchors_in2 a h in rw x.are (record { first = lit< tt; second = x.fixup.pixel; third = lit< tt })
anchors_low (Three a) h =
    let x = anchors_in3 a h in
    let f = x.fixups in
    rw x.are (record { first = lit< tt; second = lt_trans f.rising f.pixel; third = f.pixel })
anchors_low (Vector r i) h = record { first = lit< tt; second = lit< tt; third = lit< tt }
