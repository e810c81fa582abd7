-- What a writer holds, and what a push makes of it.
-- Assumes nothing.
use Rattle.std.specs.Prelude.{ℕ, ◌+◌, ◌*◌, ◌/◌, ◌%◌, ◌^◌, ◌≤◌, ◌<◌}
use Rattle.bits.specs.declared.writer.BitWriter.{BitWriter}

unfoldable pub written : BitWriter → ℕ
written s = s.high * 2 ^ 64 + s.low

-- what is asked to push a value of w bits: that it has no more, that there is room, and that nothing stands from there on
pub record Pushable (s : BitWriter) (v w : ℕ) : Type 0 where
  pub fits : v < 2 ^ w
  pub room : s.at + w ≤ 128
  pub below : written s < 2 ^ s.at

-- the writer of the number n, at position a
abbrev pub writer_of : ℕ → ℕ → BitWriter
writer_of n a = record { low = n % 2 ^ 64; high = n / 2 ^ 64; at = a }

-- a value of w bits on top
abbrev pub pushed : BitWriter → ℕ → ℕ → BitWriter
pushed s v w = writer_of (v * 2 ^ s.at + written s) (s.at + w)
