-- The indexes that stand in a number, and in the next bits of a stream.
-- Assumes nothing.
use Rattle.std.specs.Prelude.{◌≡◌, ⊤, List, [], ◌∷◌, length, ℕ, ◌+◌, ◌-◌, ◌*◌, ◌^◌, ◌≤◌, ◌<◌}
use Rattle.indexes.specs.declared.Indexes.{Indexes}
use Rattle.indexes.specs.declared.NewIndexes.{NewIndexes}
use Rattle.bits.specs.declared.stream.BitStream.{BitStream}
use Rattle.bits.specs.Stream.{taken}
use Rattle.laws.specs.Digits.{Fit}
use Rattle.bcn_format.specs.Indexes.{IndexWidth, Rising, anchor_count, expanded, index_widths, part}

-- index i, which is within its width
pub record Index (x : Indexes) (i r : ℕ) : Type 0 where
  pub same : r ≡ part x.uncompressed x.bits i
  pub small : r < 2 ^ x.bits

abbrev pub indexes_of : ℕ → List ℕ → ℕ → Indexes
indexes_of w an n = record { uncompressed = expanded w an n; bits = w }

-- the indexes in the t bits that come next
abbrev pub new_indexes : ℕ → List ℕ → BitStream → ℕ → NewIndexes
new_indexes w an s t = record { indexes = indexes_of w an (taken s t).value; stream = (taken s t).stream }

-- fix-ups are pixels, each above the one before
abbrev pub RisesFrom : ℕ → List ℕ → Type 0
RisesFrom a [] = ⊤
RisesFrom a (p ∷ ps) = (a < p) × (p < 16) × RisesFrom p ps

-- what is asked of indexes with anchors behind pixel 0, beside their width: that these rise
pub record AnchorsOf (w : ℕ) (fixups : List ℕ) : Type 0 where
  pub width : IndexWidth w
  pub rising : RisesFrom 0 fixups

-- how many bits they have, each anchor's one less
abbrev pub stored_size : ℕ → List ℕ → ℕ
stored_size w fixups = 16 * w - length (0 ∷ fixups)

-- and of a stream that they are read from: their t bits lie ahead
pub record Ahead (Anchors : Type 0) (s : BitStream) (t : ℕ) : Type 0 where
  pub anchors : Anchors
  pub inside : s.at + t ≤ 128

-- or of a number that they stand in: it has no more than their t bits
pub record Compressed (Anchors : Type 0) (n t : ℕ) : Type 0 where
  pub anchors : Anchors
  pub enough : n < 2 ^ t

-- of an index of a word: which one; and, to put a bit in, that there is room for it
pub record IndexAt (w i : ℕ) : Type 0 where
  pub width : IndexWidth w
  pub pixel : i < 16

pub record Insertable (w n i : ℕ) : Type 0 where
  pub index : IndexAt w i
  pub room : n < 2 ^ 63

-- of a set that comes next: its fix-ups rise, and its bits lie ahead
pub record SetAhead (s : BitStream) (fixups w p q : ℕ) : Type 0 where
  pub width : IndexWidth w
  pub rising : Rising fixups p q
  pub inside : s.at + (16 * w - anchor_count fixups) ≤ 128

-- of sixteen indexes
pub record SetFits (vs : List ℕ) (w : ℕ) : Type 0 where
  pub most : w ≤ 4
  pub fits : Fit (index_widths w []) vs
