-- Colours between two endpoints, and palettes of several subsets.
-- Assumes nothing.
use Rattle.std.specs.Prelude.{List, ℕ, ◌+◌, ◌-◌, ◌*◌, ◌/◌, ◌%◌, ltb, get_or}
use Rattle.laws.specs.Tables.{pick}
use Rattle.bc7_fields.specs.Painting.{four, between}
use Rattle.bc7_drawing.specs.declared.colour.Ends.{Ends}
use Rattle.bc7_drawing.specs.Words.{endpoint}

-- the channel between e0 and e1 at the weight w of 256
unfoldable pub lerped : ℕ → ℕ → ℕ → ℕ
lerped e0 e1 w = ((256 - w) * e0 + w * e1 + 128) / 256

-- the colour of subset l at the weight w of 256
unfoldable pub shade : Ends → ℕ → ℕ → List ℕ
shade e l w = four (λ c. lerped (get_or (endpoint e l 0) c 0) (get_or (endpoint e l 1) c 0) w)

-- endpoint k of subset l, of which the words e have the first two
unfoldable pub endpoints : Ends → Ends → ℕ → ℕ → List ℕ
endpoints e f l k = pick (ltb l 2) (endpoint e l k) (endpoint f (l - 2) k)

-- the colour that stands at place j: of index j / t in subset j % t, whose endpoints are given
unfoldable pub keyed : ℕ → ℕ → (ℕ → ℕ → List ℕ) → ℕ → List ℕ
keyed b t ends j = between b (ends (j % t) 0) (ends (j % t) 1) (j / t)
