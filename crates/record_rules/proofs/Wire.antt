-- Where the values of a record stand in its bytes.
-- Assumes nothing.
use mathlib.Core.Path.{◌≡◌, ap}
use mathlib.Core.List.{List}
use Prim.Native.Nat.{ℕ, ◌+◌, ◌-◌, ◌<◌}
use native.Mathlib.Omega.{arith}
use borrow.Author.Tests.{lt-ltb, le-ltb}
use lib.ListN.{get_or}
use Rattle.record_rules.specs.declared.Record.{Record}
use Rattle.record_rules.specs.Wire.{record_byte}
use Rattle.bc7_format.specs.Places.{values_from, ps_from, first_from, second_from}

-- i places behind o
pub behind : (o i : ℕ) (xs : List ℕ) → get_or xs (o + i - o) 0 ≡ get_or xs i 0
behind o i xs = ap (λ (k : ℕ). get_or xs k 0) (let z : o + i - o ≡ i = omega arith in z)

module _ (r : Record) (i : ℕ) where
  pub value_at_is : i < 24 → record_byte r (values_from + i) ≡ get_or r.endpoints i 0
  unfolding record_byte
  value_at_is h =
      rw (le-ltb (values_from + i) values_from (omega arith), lt-ltb (values_from + i) ps_from (omega arith)) (behind values_from i r.endpoints)

  pub p_bit_at : i < 6 → record_byte r (ps_from + i) ≡ get_or r.p i 0
  unfolding record_byte
  p_bit_at h =
      rw (le-ltb (ps_from + i) values_from (omega arith), le-ltb (ps_from + i) ps_from (omega arith), lt-ltb (ps_from + i) first_from (omega arith))
      (behind ps_from i r.p)

  pub first_at : i < 16 → record_byte r (first_from + i) ≡ get_or r.first i 0
  unfolding record_byte
  first_at h =
      rw (
        le-ltb (first_from + i) values_from (omega arith),
        le-ltb (first_from + i) ps_from (omega arith),
        le-ltb (first_from + i) first_from (omega arith),
        lt-ltb (first_from + i) second_from (omega arith),
      ) (behind first_from i r.first)

  pub second_at : i < 16 → record_byte r (second_from + i) ≡ get_or r.second i 0
  unfolding record_byte
  second_at h =
      rw (
        le-ltb (second_from + i) values_from (omega arith),
        le-ltb (second_from + i) ps_from (omega arith),
        le-ltb (second_from + i) first_from (omega arith),
        le-ltb (second_from + i) second_from (omega arith),
      ) (behind second_from i r.second)
