-- Two ways to number the same things, turned round; and no two things have one number.
-- Assumes nothing.
use mathlib.Core.Path.{◌≡◌, ◌∙◌, ap, sym}
use Prim.Native.Nat.{ℕ, ◌<◌}
use Rattle.laws.specs.Inverse.{Inverse}

module _ {n : ℕ} {f g : ℕ → ℕ} (z : Inverse n f g) where
  pub inverse_turn : Inverse n g f
  inverse_turn = record { to = z.from; from = z.to; from_to = z.to_from; to_from = z.from_to }

  pub inverse_apart : (a b : ℕ) → a < n → b < n → f a ≡ f b → a ≡ b
  inverse_apart a b la lb e = sym (z.from_to a la) ∙ ap g e ∙ z.from_to b lb
