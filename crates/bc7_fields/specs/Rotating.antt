-- Sixteen pixels joined of colour and alpha, and with two channels exchanged.
-- Assumes nothing.
use Rattle.std.specs.Prelude.{List, [], ℕ, eqb, get_or}
use Rattle.laws.specs.Tables.{pick, table}
use Rattle.bc7_format.specs.Lines.{rotated}
use Rattle.bc7_fields.specs.Painting.{four}

-- red, green and blue of the first, alpha of the second
unfoldable pub merged : List (List ℕ) → List (List ℕ) → List (List ℕ)
merged colours alphas = table 16 (λ q. four (λ c. get_or (get_or (pick (eqb c 3) alphas colours) q []) c 0))

-- rotation 1, 2, 3 swaps alpha with red, green, blue
unfoldable pub swapped : ℕ → List (List ℕ) → List (List ℕ)
swapped r pixels = table 16 (λ q. four (λ c. get_or (get_or pixels q []) (rotated r c) 0))

-- both at once: the channel before rotation decides whether colour or alpha serves
unfoldable pub merged_and_swapped : ℕ → List (List ℕ) → List (List ℕ) → List (List ℕ)
merged_and_swapped r colours alphas =
    table 16 (λ q. four (λ c. let d = rotated r c in get_or (get_or (pick (eqb d 3) alphas colours) q []) d 0))
