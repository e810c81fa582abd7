-- The number of a block, of its words.
-- Assumes nothing.
use Rattle.std.specs.Prelude.{ℕ, ◌+◌, ◌*◌, ◌^◌}
use Rattle.bc6h_modes.specs.declared.Words.{Words}

-- THE NUMBER of both words
unfoldable pub whole : Words → ℕ
whole w = w.high * 2 ^ 64 + w.low
