-- Indexes read from a stream, over one number.
-- Assumes nothing.
use mathlib.Core.Path.{◌≡◌, refl, ap}
use mathlib.Core.List.{List}
use Prim.Native.Nat.{ℕ, ◌+◌}
use Rattle.bcn_format.specs.Block.{field}
use Rattle.bcn_format.specs.Indexes.{expanded}
use Rattle.bits.specs.declared.stream.BitStream.{BitStream}
use Rattle.bits.specs.Stream.{On}
use Rattle.bits.proofs.On.{got, on_read}
use Rattle.indexes.specs.declared.NewIndexes.{NewIndexes}
use Rattle.indexes.specs.Reading.{new_indexes}

-- the word of the indexes that stand in the next t bits, and where the stream stands then
module _ {n a : ℕ} {s : BitStream} (o : On n a s) (w : ℕ) (an : List ℕ) (t : ℕ) {r : NewIndexes}
    (e : r ≡ new_indexes w an s t) where
  pub got_indexes : r.indexes.uncompressed ≡ expanded w an (field n a t)
  got_indexes = rw e (ap (expanded w an) (got o t refl))

  pub on_indexes : On n (a + t) r.stream
  on_indexes = rw e (on_read o t refl)
