-- What the program's loop asks of its buffers.
-- Assumes nothing.
use Rattle.std.specs.Prelude.{ℕ, ◌+◌, ◌*◌, ◌≤◌}
use Rattle.listing_rules.specs.Machine.{most_in_run}

-- room for the bytes of a run, and for all that is said of it
pub record RoomAsked (buffer text : ℕ) : Type 0 where
  pub bytes : 16 * most_in_run ≤ buffer
  pub texts : 40 * most_in_run + 80 ≤ text
