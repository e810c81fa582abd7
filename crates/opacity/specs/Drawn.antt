-- Opacity of a block whose pixels are drawn already.
-- Assumes nothing.
use Rattle.std.specs.Prelude.{ℕ, ◌<◌, ◌≡◌, Bool, List, [], eqb, get_or}
use Rattle.laws.specs.Tables.{below, implies}
use Rattle.bc7_format.specs.Lines.{pixels}
use Rattle.head_rules.specs.Answers.{Head}
use Rattle.head_rules.specs.Geometry.{blocks_of}
use Rattle.head_rules.specs.Heads.{Sized}
use Rattle.opacity_rules.specs.Opacity.{is_visible}

-- pixel q passes with this alpha
unfoldable pub alpha_passes : ℕ → ℕ → ℕ → ℕ → Bool
alpha_passes columns rows alpha q = implies (is_visible columns rows q) (eqb alpha 255)

-- all drawn pixels do
abbrev pub drawn_passes : ℕ → ℕ → List (List ℕ) → ℕ → Bool
drawn_passes columns rows drawn q = alpha_passes columns rows (get_or (get_or drawn q []) 3 0) q

unfoldable pub opaque_drawn : ℕ → ℕ → List (List ℕ) → Bool
opaque_drawn columns rows drawn = below 16 (drawn_passes columns rows drawn)

-- a block of a sheet, and its pixels
pub record InSheet (head : Head) (number : ℕ) (block : List ℕ) (drawn : List (List ℕ)) : Type 0 where
  pub sized : Sized head.width head.height
  pub there : number < blocks_of head
  pub draws : drawn ≡ pixels block
