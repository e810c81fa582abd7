-- The modes 0 to 3 show alpha 255: they have no rotation and draw no alpha.
-- Assumes nothing.
use mathlib.Core.Path.{◌≡◌, ◌∙◌, subst}
use mathlib.Core.Bool.{false}
use mathlib.Core.List.{List}
use Prim.Native.Nat.{ℕ, ◌^◌, ◌<◌}
use native.Mathlib.Omega.{arith}
use borrow.Author.Tests.{eq-eqb, ne_eqb}
use lib.Dec.{T, eqb, eqb→eq}
use Rattle.bc7_format.specs.declared.Place.{Place}
use Rattle.bc7_format.specs.declared.Place.TheVariants.{Lead}
use Rattle.bc7_format.specs.declared.Split.{Split}
use Rattle.laws.specs.Digits.{Fit}
use Rattle.laws.specs.Tables.{both}
use Rattle.laws.proofs.Tests.{at, both_left, both_right}
use Rattle.bcn_format.specs.Block.{eights}
use Rattle.bc7_format.specs.Lines.{is_drawn, pixel, rotated, shown}
use Rattle.bc7_format.specs.Modes.{alpha_bits, mode_of, mode_row, rotation_bits}
use Rattle.bc7_format.specs.Places.{width}
use Rattle.bc7_format.specs.Splits.{rotation}
use Rattle.bc7_format.specs.WellFormed.{WellFormed}
use Rattle.bc7_format.proofs.Modes.{good_parts}
use Rattle.bc7_format.proofs.Opening.{opened_good}

few_bits : (m : ℕ) → m < 4 → T (both (eqb (rotation_bits m) 0) (eqb (alpha_bits m) 0))
unfolding mode_row
few_bits m h = at 4 (λ m. both (eqb (rotation_bits m) 0) (eqb (alpha_bits m) 0)) tt m h

no_rotation : {m : ℕ} {s : Split} {f : Place → ℕ} → WellFormed m s f → m < 4 → rotation s ≡ 0
unfolding width
no_rotation {m} {s} {f} g h =
    let e : rotation_bits m ≡ 0 = eqb→eq _ 0 (both_left (eqb (rotation_bits m) 0) _ (few_bits m h)) in
    let l : f (Lead 2) < 1 = subst (λ (w : ℕ). f (Lead 2) < 2 ^ w) e (g.fits (Lead 2) tt) in
    (good_parts g).1 ∙ (let z : f (Lead 2) ≡ 0 = omega arith in z)

no_alpha : (m : ℕ) → m < 4 → is_drawn m 3 ≡ false
no_alpha m h = rw (eq-eqb (alpha_bits m) 0 (eqb→eq _ 0 (both_right (eqb (rotation_bits m) 0) (eqb (alpha_bits m) 0) (few_bits m h))))

pub full_alpha : (bs : List ℕ) → Fit eights bs → (q : ℕ) → mode_of bs < 4 → pixel bs q 3 ≡ 255
unfolding pixel shown rotated
full_alpha bs h q l =
    let g = opened_good bs h (omega arith) in
    rw (ne_eqb (mode_of bs) 8 (λ z. let y : ⊥ = omega arith in y), no_rotation g l, no_alpha (mode_of bs) l)
