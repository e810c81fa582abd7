-- Drawing, in the format's own numbers.
-- Assumes nothing.
use Rattle.std.specs.Prelude.{ℕ, zero, suc, ◌+◌, ◌-◌, ◌*◌, ◌/◌, ◌^◌, ◌<◌, ◌≤◌, List, [], ◌∷◌, get_or}

-- a value of b bits as eight: shifted left by 8 - b, and the empty places filled from its top
unfoldable pub promoted : ℕ → ℕ → ℕ
promoted b x = x * 2 ^ (8 - b) + x * 2 ^ (8 - b) / 2 ^ b

-- the weights of an index of b bits, of 64
unfoldable pub weights : ℕ → List ℕ
weights zero = []
weights (suc zero) = []
weights (suc (suc zero)) = 0 ∷ 21 ∷ 43 ∷ 64 ∷ []
weights (suc (suc (suc zero))) = 0 ∷ 9 ∷ 18 ∷ 27 ∷ 37 ∷ 46 ∷ 55 ∷ 64 ∷ []
weights (suc (suc (suc (suc b)))) = 0 ∷ 4 ∷ 9 ∷ 13 ∷ 17 ∷ 21 ∷ 26 ∷ 30 ∷ 34 ∷ 38 ∷ 43 ∷ 47 ∷ 51 ∷ 55 ∷ 60 ∷ 64 ∷ []

unfoldable pub weight_of : ℕ → ℕ → ℕ
weight_of b i = get_or (weights b) i 0

-- which indexes have one: those of 2, 3 and 4 bits
pub record Weighed (bits index : ℕ) : Type 0 where
  pub least : 2 ≤ bits
  pub most : bits ≤ 4
  pub within : index < 2 ^ bits

-- the channel between e0 and e1 at the weight w of 64
unfoldable pub drawn : ℕ → ℕ → ℕ → ℕ
drawn e0 e1 w = ((64 - w) * e0 + w * e1 + 32) / 64
