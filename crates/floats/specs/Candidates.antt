-- THE CANDIDATE of a pattern of bits: if any channel's float has them, it is this one's (proofs/Candidates).
-- Assumes nothing.
use Rattle.std.specs.Prelude.{ℕ, ◌+◌, ◌-◌, ◌*◌, ◌/◌, ◌%◌, ◌^◌, ltb}
use Rattle.laws.specs.Tables.{pick}

-- 255 times the value, cut: of a pattern from 1 / 256 to 1 the value is its 23 digits, with the leading one before them, divided by
-- 2 ^ (150 - exponent). The digits of channel / 255 come again after eight, so that a one follows the 24 that a float keeps: every channel's
-- float is rounded up, or exact, and cutting is enough
unfoldable pub times255 : ℕ → ℕ
times255 b = 255 * (b % 0x80_0000 + 0x80_0000) / 2 ^ (150 - b / 0x80_0000) % 256

unfoldable pub candidate_of : ℕ → ℕ
candidate_of b = pick (ltb b 0x3b80_0000) 0 (pick (ltb 0x3f80_0000 b) 0 (times255 b))
