-- Bytes of a file, laid into an output.
-- Assumes nothing.
use Rattle.std.specs.Prelude.{◌≡◌, ℕ, ◌+◌, ◌≤◌}

-- what is asked of lengths: so many bytes of a head, and a list from a place on, fill the output
pub record Fills (head count from start out : ℕ) : Type 0 where
  pub count_there : count ≤ head
  pub start_there : start ≤ from
  pub whole : out + start ≡ count + from
