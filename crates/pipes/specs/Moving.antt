-- What reading promises.
-- Assumes nothing.
use Rattle.std.specs.Prelude.{◌≡◌, List, ℕ, ◌≤◌, IfOk, Result, length}

-- at most n bytes were read into a buffer, which stays as long as it was
pub record ReadsWanted {E : Type 0} (n : ℕ) (before after : List ℕ) (r : Result ℕ E) : Type 0 where
  pub few : IfOk r (λ count. count ≤ n)
  pub long : length after ≡ length before
