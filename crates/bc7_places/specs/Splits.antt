-- What the code holds of a split: its anchors as three pixels, its subsets as a map, and the split with the stream behind it, as the lead of
-- a block.
-- Assumes nothing.
use Rattle.std.specs.Prelude.{◌≡◌, ℕ, ◌+◌, ◌*◌, ◌/◌, ◌%◌, ◌^◌, ◌<◌, ◌≤◌, List, [], ◌∷◌, get_or}
use Rattle.bc7_modes.specs.declared.ModeRow.{ModeRow}
use Rattle.bc7_places.specs.declared.splits.Anchors.{Anchors}
use Rattle.bc7_places.specs.declared.splits.ReadSplit.{ReadSplit}
use Rattle.bc7_places.specs.declared.splits.Subsets.{Subsets}
use Rattle.bc7_format.specs.declared.Split.{Split}
use Rattle.bc7_format.specs.declared.Split.TheVariants.{Whole, Two, Three, Vector}
use Rattle.bits.specs.declared.stream.BitStream.{BitStream}
use Rattle.bcn_format.specs.Block.{field, number}
use Rattle.bc7_fields.specs.Fields.{lead_end}
use Rattle.bc7_format.specs.Modes.{mode_of}
use Rattle.bc7_format.specs.Splits.{anchors, of_kind, partition, split_of}
use Rattle.bits.specs.Stream.{On, taken}
use Rattle.bc7_modes.specs.Modes.{OfMode}
use Rattle.partitions.specs.Maps.{map2, map3}

-- the anchors as three pixels: pixel 0 again where a split has fewer
abbrev pub three_of : Anchors → List ℕ
three_of x = x.a ∷ x.b ∷ x.c ∷ []

abbrev pub anchors_of : Split → Anchors
anchors_of s = record { a = get_or (anchors s) 0 0; b = get_or (anchors s) 1 0; c = get_or (anchors s) 2 0 }

-- the anchors are pixels
pub record ArePixels (a : Anchors) : Type 0 where
  pub first : a.a < 16
  pub second : a.b < 16
  pub third : a.c < 16

-- the subsets as a map, and the subset of pixel q in it
abbrev pub subsets_as : ℕ → ℕ → Subsets
subsets_as m b = record { map = m; bits = b }

abbrev pub subsets_of : Split → Subsets
subsets_of Whole = subsets_as 0 1
subsets_of (Two a) = subsets_as (map2 a).subset_indexes 1
subsets_of (Three a) = subsets_as (map3 a).subset_indexes 2
subsets_of (Vector r i) = subsets_as 0 1

unfoldable pub subset_in : Subsets → ℕ → ℕ
subset_in x q = field x.map (q * x.bits) x.bits

-- what asking for a pixel's subset asks
pub record PixelIn (x : Subsets) (q : ℕ) : Type 0 where
  pub bits : x.bits ≤ 2
  pub pixel : q < 16

-- the bits of the split are one read: a partition, or a rotation of two bits with the index mode above it
abbrev pub split_read : ModeRow → BitStream → ReadSplit
split_read row s =
    let r = taken s (row.partition + row.rotation + row.index_mode) in
    record { split = of_kind row.kind r.value (r.value % 4) (r.value / 2 ^ 2); stream = r.stream }

-- what that asks: the row of a mode, whose split's bits lie ahead
pub record SplitAhead (row : ModeRow) (s : BitStream) : Type 0 where
  pub of_mode_is : OfMode row
  pub inside : s.at + (row.partition + row.rotation + row.index_mode) ≤ 128

-- the lead of a block: its split, whose partition the tables have, and the stream on the block where the values start
pub record IsLead (bs : List ℕ) (r : ReadSplit) : Type 0 where
  pub split : r.split ≡ split_of bs
  pub few : partition r.split < 64
  pub stands : On (number bs) (lead_end (mode_of bs)) r.stream
