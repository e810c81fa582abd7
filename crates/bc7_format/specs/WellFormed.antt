-- What stands at the places of a block that is not reserved.
-- Assumes nothing.
use Rattle.std.specs.Prelude.{◌≡◌, ℕ, ◌^◌, ◌<◌, T}
use Rattle.bc7_format.specs.declared.Place.{Place}
use Rattle.bc7_format.specs.declared.Place.TheVariants.{Lead}
use Rattle.bc7_format.specs.declared.Split.{Split}
use Rattle.bc7_format.specs.Modes.{kind_of_mode}
use Rattle.bc7_format.specs.Places.{inside, width}
use Rattle.bc7_format.specs.Splits.{anchors, of_kind}

-- f is what a block of mode m and split s holds: the marker, the split's own parts, and at each place what fits its width
pub record WellFormed (m : ℕ) (s : Split) (f : Place → ℕ) : Type 0 where
  pub mode : m < 8
  pub marker : f (Lead 0) ≡ 2 ^ m
  pub splits : of_kind (kind_of_mode m) (f (Lead 1)) (f (Lead 2)) (f (Lead 3)) ≡ s
  pub fits : (x : Place) → T (inside x) → f x < 2 ^ width m (anchors s) x
