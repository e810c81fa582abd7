-- Colour spaces and their numbers: there and back, and 18 exactly when there is none.
-- Assumes nothing.
use mathlib.Core.Path.{◌≡◌, refl}
use mathlib.Core.Logic.{◌↔◌}
use mathlib.Core.List.{[], ◌∷◌}
use Prim.Native.Nat.{ℕ, zero, suc, ◌≤◌}
use native.Mathlib.Omega.{arith}
use Rattle.head_rules.specs.declared.ColourSpace.{ColourSpace}
use Rattle.head_rules.specs.declared.ColourSpace.TheVariants.{Unspecified, Linear, Srgb}
use Rattle.laws.specs.Refusals.{Given, unless}
use Rattle.laws.proofs.Refusals.{Decided, alone, by_ltb, exactly}
use Rattle.head_rules.specs.Colours.{colour_number, colour_of, colour_refusal}

pub colour_test : (n : ℕ) → Decided (colour_refusal n) 18 (n ≤ 2)
unfolding colour_refusal
colour_test n = by_ltb tt 2 n

pub eighteen_when : (n m : ℕ) → (colour_refusal n ≡ m) ↔ Given (unless 18 (n ≤ 2) ∷ []) m
eighteen_when n = exactly (alone (colour_test n))

pub colour_back : (c : ColourSpace) → (colour_of (colour_number c) ≡ c) × (colour_refusal (colour_number c) ≡ 0)
unfolding colour_of colour_refusal
colour_back Unspecified = (refl, refl)
colour_back Linear = (refl, refl)
colour_back Srgb = (refl, refl)

pub number_back : (n : ℕ) → n ≤ 2 → colour_number (colour_of n) ≡ n
unfolding colour_of
number_back zero l = refl
number_back (suc zero) l = refl
number_back (suc (suc zero)) l = refl
number_back (suc (suc (suc n))) l = absurd (let q : ⊥ = omega (arith, l) in q)
