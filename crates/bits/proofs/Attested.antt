-- THE READS OF ONE BLOCK, written down by hand. Its bytes are 10 32 54 76 98 BA DC FE, 78 69 5A 4B 3C 2D 1E CF: no two are alike, bits 60 to
-- 63 are F, bits 64 to 67 are 8, and the last two are set.
-- Assumes nothing.
use mathlib.Core.Path.{◌≡◌, refl}
use mathlib.Core.List.{[], ◌∷◌}
use Prim.Native.Nat.{ℕ}
use Rattle.bits.specs.declared.stream.BitStream.{BitStream}
use Rattle.bcn_format.specs.Block.{field}
use Rattle.bits.specs.Stream.{Answer, held, read_of, reads_of}

abbrev at : ℕ → BitStream
at a = record { low = 18364758544493064720; high = 14924415952137906552; at = a }

abbrev answer : ℕ → ℕ → ℕ → ℕ → ℕ → Answer
answer r v f left a = record { refusal = r; value = v; first = f; remaining = left; stream = at a }

-- refusal, value, first bit, bits that remain, and where the stream stands then: the first byte; a byte across the halves, 8F; all 64 bits
-- from there; the last two; no bits at the end
pub accepted : read_of (at 0) 8 ∷ read_of (at 60) 8 ∷ read_of (at 64) 64 ∷ read_of (at 126) 2 ∷ read_of (at 128) 0 ∷ []
    ≡ answer 0 16 0 120 8 ∷ answer 0 143 60 60 68 ∷ answer 0 14924415952137906552 64 0 128 ∷ answer 0 3 126 0 128 ∷ answer 0 0 128 0 128 ∷ []
unfolding read_of held field
accepted = refl

-- three bits of the last two, 64 of 63, one at the end: 22, no value, and nothing moved
pub short : read_of (at 126) 3 ∷ read_of (at 65) 64 ∷ read_of (at 128) 1 ∷ read_of (at 200) 1 ∷ []
    ≡ answer 22 0 126 2 126 ∷ answer 22 0 65 63 65 ∷ answer 22 0 128 0 128 ∷ answer 22 0 200 0 200 ∷ []
unfolding read_of held field
short = refl

-- a refused read, a shorter one from the same place that is accepted, and one more
pub in_a_row : reads_of (at 126) (3 ∷ 1 ∷ 2 ∷ 1 ∷ [])
    ≡ answer 22 0 126 2 126 ∷ answer 0 1 126 1 127 ∷ answer 22 0 127 1 127 ∷ answer 0 1 127 0 128 ∷ []
unfolding reads_of read_of held field
in_a_row = refl
