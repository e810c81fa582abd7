-- Weights of 256 against the format's of 64, and the colour between two endpoints.
-- Assumes nothing.
use mathlib.Core.Path.{◌≡◌, ap, ◌∙◌}
use mathlib.Core.List.{List, [], ◌∷◌}
use Prim.Native.Nat.{ℕ, ◌+◌, ◌-◌, ◌*◌, ◌/◌, ◌≤◌}
use native.Mathlib.Omega.{arith}
use lib.ListN.{get_or}
use Rattle.bcn_format.specs.Drawing.{drawn, weight_of}
use Rattle.bcn_format.proofs.Drawing.{scaled, weight_le}
use Rattle.bc7_fields.specs.Painting.{four, between}
use Rattle.bcn_format.specs.Drawing.{Weighed}
use Rattle.bc7_drawing.specs.Colours.{lerped}

module _ (b k : ℕ) (index : Weighed b k) {w : ℕ} (e : w ≡ 4 * weight_of b k) where
  of_64 : weight_of b k ≤ 64
  of_64 = weight_le b k index.least index.most index.within

  pub of_256 : w ≤ 256
  of_256 = omega (arith, of_64)

  mixes : (u v : ℕ) → lerped u v w ≡ drawn u v (weight_of b k)
  unfolding lerped
  mixes u v = ap (λ (w : ℕ). ((256 - w) * u + w * v + 128) / 256) e ∙ scaled (weight_of b k) u v of_64

  pub between_is : (e0 e1 : List ℕ) → four (λ c. lerped (get_or e0 c 0) (get_or e1 c 0) w) ≡ between b e0 e1 k
  unfolding between
  between_is e0 e1 =
      λ i. mixes (get_or e0 0 0) (get_or e1 0 0) i ∷ mixes (get_or e0 1 0) (get_or e1 1 0) i ∷ mixes (get_or e0 2 0) (get_or e1 2 0) i ∷ mixes (get_or e0 3 0)
      (get_or e1 3 0) i ∷ []
