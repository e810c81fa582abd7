-- Endpoints out of values that have both, the colours between two endpoints, and sixteen pixels looked up in a palette.
-- Assumes nothing.
use Rattle.std.specs.Prelude.{List, [], ◌∷◌, ℕ, ◌+◌, ◌*◌, eqb, get_or}
use Rattle.laws.specs.Tables.{pick, table}
use Rattle.bcn_format.specs.Block.{field}
use Rattle.bcn_format.specs.Drawing.{drawn, promoted, weight_of}

-- four channels
abbrev pub four : (ℕ → ℕ) → List ℕ
four f = f 0 ∷ f 1 ∷ f 2 ∷ f 3 ∷ []

-- endpoint k of a value that has both, the first one's in the low bits, as eight bits: n bits of the value, and with the p bit below
abbrev pub end_of : ℕ → ℕ → ℕ → ℕ
end_of n k v = promoted n (field v (n * k) n)

abbrev pub end_of_p : ℕ → ℕ → ℕ → ℕ → ℕ
end_of_p n k v p = promoted (n + 1) (field v (n * k) n * 2 + field p k 1)

-- the channels of endpoints that store no alpha
abbrev pub solid : (ℕ → ℕ → ℕ) → ℕ → ℕ → ℕ
solid f k c = pick (eqb c 3) 255 (f k c)

-- the colour between two endpoints at the index k of b bits
unfoldable pub between : ℕ → List ℕ → List ℕ → ℕ → List ℕ
between b e0 e1 k = four (λ c. drawn (get_or e0 c 0) (get_or e1 c 0) (weight_of b k))

-- sixteen pixels, each looked up at its place in a palette
unfoldable pub painted : (ℕ → ℕ) → List (List ℕ) → List (List ℕ)
painted place p = table 16 (λ q. get_or p (place q) [])
