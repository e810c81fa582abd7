-- The kind of a split says whether it is a vector and its scalar.
-- Assumes nothing.
use mathlib.Core.Path.{◌≡◌, refl, sym, ap, ◌∙◌}
use Prim.Native.Nat.{ℕ}
use lib.Dec.{eqb}
use Rattle.bc7_format.specs.declared.Place.{Place}
use Rattle.bc7_format.specs.declared.Split.{Split}
use Rattle.bc7_format.specs.declared.Split.TheVariants.{Whole, Two, Three, Vector}
use Rattle.bc7_format.specs.Modes.{kind_of_mode}
use Rattle.bc7_format.specs.Splits.{is_vector, kind_of}
use Rattle.bc7_format.specs.WellFormed.{WellFormed}
use Rattle.bc7_format.proofs.Opening.{good_kind}

pub vector_kind : (s : Split) → eqb (kind_of s) 3 ≡ is_vector s
vector_kind Whole = refl
vector_kind (Two a) = refl
vector_kind (Three a) = refl
vector_kind (Vector r i) = refl

pub vector_mode : {m : ℕ} {s : Split} {f : Place → ℕ} → WellFormed m s f → eqb (kind_of_mode m) 3 ≡ is_vector s
vector_mode {s = s} g = ap (λ (k : ℕ). eqb k 3) (sym (good_kind g)) ∙ vector_kind s
