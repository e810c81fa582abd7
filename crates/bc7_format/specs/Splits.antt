-- What a split says: its kind, its partition, its rotation and index mode, and who is in which subset.
-- Assumes nothing.
use Rattle.std.specs.Prelude.{ℕ, zero, suc, Bool, true, false, List, [], ◌∷◌, get_or}
use Rattle.bc7_format.specs.declared.Split.{Split}
use Rattle.bc7_format.specs.declared.Split.TheVariants.{Whole, Two, Three, Vector}
use Rattle.laws.specs.Digits.{split}
use Rattle.bc7_format.specs.Modes.{mode_of, index_mode_bits, kind_of_mode, partition_bits, rotation_bits}
use Rattle.bcn_format.specs.Block.{number}
use Rattle.bcn_format.specs.Partitions.{anchors2, anchors3, subset2, subset3}

abbrev pub kind_of : Split → ℕ
kind_of Whole = 0
kind_of (Two a) = 1
kind_of (Three a) = 2
kind_of (Vector r i) = 3

abbrev pub is_vector : Split → Bool
is_vector Whole = false
is_vector (Two a) = false
is_vector (Three a) = false
is_vector (Vector r i) = true

abbrev pub partition : Split → ℕ
partition Whole = 0
partition (Two a) = a
partition (Three a) = a
partition (Vector r i) = 0

abbrev pub rotation : Split → ℕ
rotation Whole = 0
rotation (Two a) = 0
rotation (Three a) = 0
rotation (Vector r i) = r

abbrev pub index_mode : Split → ℕ
index_mode Whole = 0
index_mode (Two a) = 0
index_mode (Three a) = 0
index_mode (Vector r i) = i

-- the subset of a pixel, and the pixels that are anchors
abbrev pub subset : Split → ℕ → ℕ
subset Whole q = 0
subset (Two a) q = subset2 a q
subset (Three a) q = subset3 a q
subset (Vector r i) q = 0

abbrev pub anchors : Split → List ℕ
anchors Whole = 0 ∷ []
anchors (Two a) = anchors2 a
anchors (Three a) = anchors3 a
anchors (Vector r i) = 0 ∷ []

-- the split of a kind with a partition, a rotation and an index mode, of which it takes what it has
abbrev pub of_kind : ℕ → ℕ → ℕ → ℕ → Split
of_kind zero a r i = Whole
of_kind (suc zero) a r i = Two a
of_kind (suc (suc zero)) a r i = Three a
of_kind (suc (suc (suc k))) a r i = Vector r i

-- a block starts with the marker, mode + 1 bits; then come the split bits
abbrev pub lead_bits : ℕ → List ℕ
lead_bits m = suc m ∷ partition_bits m ∷ rotation_bits m ∷ index_mode_bits m ∷ []

-- the split of a number in a mode, and of a block
unfoldable pub split_at : ℕ → ℕ → Split
split_at m n =
    let v = split (lead_bits m) n in
    of_kind (kind_of_mode m) (get_or v 1 0) (get_or v 2 0) (get_or v 3 0)

unfoldable pub split_of : List ℕ → Split
split_of bs = split_at (mode_of bs) (number bs)
