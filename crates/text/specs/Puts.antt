-- What a function promises that puts a text to a place of the output.
-- Assumes nothing.
use Rattle.std.specs.Prelude.{ℕ, ◌+◌, ◌≤◌, List}
use Rattle.laws.specs.Padding.{Written}

-- a text is written, and no more than so many bytes of it
pub record Puts (most : ℕ) (before : List ℕ) (at : ℕ) (bs : List ℕ) (after : List ℕ) (next : ℕ) : Type 0 where
  pub text : Written before at bs after next
  pub within : next ≤ at + most
