-- What the functions ask of what they are given.
-- Assumes nothing.
use Rattle.std.specs.Prelude.{◌≡◌, List, [], ◌∷◌, ℕ, ◌+◌, ◌-◌, ◌*◌, ◌≤◌, T, eqb}
use Rattle.laws.specs.Tables.{pick}
use Rattle.bcn_format.specs.Indexes.{OneFixup, TwoFixups}
use Rattle.bcn_format.specs.Partitions.{among}
use Rattle.bits.specs.declared.stream.BitStream.{BitStream}
use Rattle.bits.specs.Stream.{Room}
use Rattle.partitions.specs.Words.{anchor_in2, second_in3, third_in3}

-- one of these modes, and the stream at its marker
pub record AtMarker (modes : List ℕ) (m : ℕ) (s : BitStream) : Type 0 where
  pub mode : T (among m modes)
  pub stands : s.at ≡ 0

-- a mode with subsets, and the bits of its partition's number ahead: four in mode 0, else six
abbrev pub partition_width : ℕ → ℕ
partition_width m = pick (eqb m 0) 4 6

pub record PartitionAhead (m : ℕ) (s : BitStream) : Type 0 where
  pub mode : T (among m (0 ∷ 1 ∷ 2 ∷ 3 ∷ 7 ∷ []))
  pub room : Room s (partition_width m)

-- indexes of 2 or 3 bits, whose bits lie ahead, and the word of a partition: its anchors behind pixel 0 are pixels, each above the one before
pub record Anchored2 (bits : ℕ) (s : BitStream) (set : ℕ) : Type 0 where
  pub least : 2 ≤ bits
  pub most : bits ≤ 3
  pub fixup : OneFixup (anchor_in2 set)
  pub inside : s.at + (16 * bits - 2) ≤ 128

pub record Anchored3 (bits : ℕ) (s : BitStream) (set : ℕ) : Type 0 where
  pub least : 2 ≤ bits
  pub most : bits ≤ 3
  pub fixups : TwoFixups (second_in3 set) (third_in3 set)
  pub inside : s.at + (16 * bits - 3) ≤ 128
