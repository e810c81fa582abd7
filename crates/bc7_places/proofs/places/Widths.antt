-- The width of a place by three anchors.
-- Assumes nothing.
use mathlib.Core.Path.{◌≡◌, refl, ap}
use mathlib.Core.Bool.{Bool}
use Prim.Native.Nat.{ℕ, ◌-◌, ◌<◌}
use Rattle.bc7_format.specs.declared.Place.{Place}
use Rattle.bc7_format.specs.declared.Place.TheVariants.{Lead, Value, PBit, Index}
use Rattle.bc7_format.specs.declared.Split.{Split}
use Rattle.laws.specs.Tables.{pick}
use Rattle.bc7_format.specs.Modes.{index_bits}
use Rattle.bc7_format.specs.Places.{width}
use Rattle.bc7_format.specs.Splits.{anchors, partition}
use Rattle.bc7_places.specs.Splits.{anchors_of, three_of}
use Rattle.bc7_places.proofs.splits.AnchorPixels.{three_are}

-- three anchors are the split's
pub three_wide : (m : ℕ) (s : Split) → partition s < 64 → (x : Place) → width m (three_of (anchors_of s)) x ≡ width m (anchors s) x
unfolding width
three_wide m s h (Lead k) = refl
three_wide m s h (Value c e) = refl
three_wide m s h (PBit k) = refl
three_wide m s h (Index a q) = ap (λ (t : Bool). pick t (index_bits m a - 1) (index_bits m a)) (three_are s h q)
