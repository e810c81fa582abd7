-- Two ways to number the same n things.
-- Assumes nothing.
use Rattle.std.specs.Prelude.{◌≡◌, ℕ, ◌<◌}

-- f and g are inverse to each other on 0 .. n - 1
pub record Inverse (n : ℕ) (f g : ℕ → ℕ) : Type 0 where
  pub to : (k : ℕ) → k < n → f k < n
  pub from : (k : ℕ) → k < n → g k < n
  pub from_to : (k : ℕ) → k < n → g (f k) ≡ k
  pub to_from : (k : ℕ) → k < n → f (g k) ≡ k
