-- What is proved of a field of a block that is not reserved, read behind those before it.
-- Assumes nothing.
use Rattle.std.specs.Prelude.{◌≡◌, ℕ, ◌+◌, ◌-◌, get_or}
use Rattle.bits.specs.Stream.{Answer}
use Rattle.bc7_format.specs.declared.Split.{Split}
use Rattle.bc7_format.specs.Places.{at_place, place_at, start, widths}

-- the read of the i-th field: accepted, what stands at the place, its first bit as the widths before it say, and what remains
pub record FieldRead (m : ℕ) (s : Split) (n i : ℕ) (r : Answer) : Type 0 where
  pub accepted : r.refusal ≡ 0
  pub value : r.value ≡ at_place m s n (place_at i)
  pub first : r.first ≡ start m s i
  pub remaining : r.remaining ≡ 128 - (start m s i + get_or (widths m s) i 0)
