-- AN ANSWER IS ONE RESULT'S: a refusal has a number of its own, which isn't 0, so that what a call answers says what it returned.
-- Assumes nothing.
use mathlib.Core.Path.{◌≡◌, refl, sym, ap, ◌∙◌}
use mathlib.Core.Logic.{◌≢◌}
use mathlib.Core.List.{[], ◌∷◌}
use Prim.Native.Nat.{ℕ}
use native.Mathlib.Omega.{arith}
use lib.ListN.{get_or}
use Rattle.std.specs.Prelude.{Result, Ok, Err, ⊤}
use Rattle.refusals.specs.declared.Refusal.{Refusal}
use Rattle.refusals.specs.declared.Refusal.TheVariants.{ReservedBlock, NoSuchLine, ValueTooWide, PBitsDiffer, WrongKind, AnchorBitSet, BadNumber, UnknownForm, BadSide, WrongBlockBytes, WrongOutputLength, BeyondSheet, PixelNotInLine, NoExactIndex, NotABc7Texture, ColourSpaceStated, ProfileSides, BadColourSpace, FalseCounts, ProfileBlock, NoSuchPixel, NotAChannel}
use Rattle.refusals.specs.Answers.{answer_of, number, number_of}

-- the refusal of a number; the first where there is none
named : ℕ → Refusal
named n = get_or (ReservedBlock ∷ ReservedBlock ∷ NoSuchLine ∷ ValueTooWide ∷ PBitsDiffer ∷ WrongKind ∷ AnchorBitSet ∷ BadNumber ∷ UnknownForm ∷ BadSide ∷ WrongBlockBytes ∷ WrongOutputLength ∷ BeyondSheet ∷ PixelNotInLine ∷ NoExactIndex ∷ NotABc7Texture ∷ ColourSpaceStated ∷ ProfileSides ∷ BadColourSpace ∷ FalseCounts ∷ ProfileBlock ∷ NoSuchPixel ∷ NoSuchPixel ∷ NotAChannel ∷ []) n ReservedBlock

named_number : (r : Refusal) → named (number r) ≡ r
unfolding named
named_number ReservedBlock = refl
named_number NoSuchLine = refl
named_number ValueTooWide = refl
named_number PBitsDiffer = refl
named_number WrongKind = refl
named_number AnchorBitSet = refl
named_number BadNumber = refl
named_number UnknownForm = refl
named_number BadSide = refl
named_number WrongBlockBytes = refl
named_number WrongOutputLength = refl
named_number BeyondSheet = refl
named_number PixelNotInLine = refl
named_number NoExactIndex = refl
named_number NotABc7Texture = refl
named_number ColourSpaceStated = refl
named_number ProfileSides = refl
named_number BadColourSpace = refl
named_number FalseCounts = refl
named_number ProfileBlock = refl
named_number NoSuchPixel = refl
named_number NotAChannel = refl

pub number_injective : {r q : Refusal} → number r ≡ number q → r ≡ q
number_injective {r} {q} e = sym (named_number r) ∙ ap named e ∙ named_number q

pub number_not_0 : (r : Refusal) → number r ≢ 0
number_not_0 ReservedBlock e = let z : ⊥ = omega (arith, e) in z
number_not_0 NoSuchLine e = let z : ⊥ = omega (arith, e) in z
number_not_0 ValueTooWide e = let z : ⊥ = omega (arith, e) in z
number_not_0 PBitsDiffer e = let z : ⊥ = omega (arith, e) in z
number_not_0 WrongKind e = let z : ⊥ = omega (arith, e) in z
number_not_0 AnchorBitSet e = let z : ⊥ = omega (arith, e) in z
number_not_0 BadNumber e = let z : ⊥ = omega (arith, e) in z
number_not_0 UnknownForm e = let z : ⊥ = omega (arith, e) in z
number_not_0 BadSide e = let z : ⊥ = omega (arith, e) in z
number_not_0 WrongBlockBytes e = let z : ⊥ = omega (arith, e) in z
number_not_0 WrongOutputLength e = let z : ⊥ = omega (arith, e) in z
number_not_0 BeyondSheet e = let z : ⊥ = omega (arith, e) in z
number_not_0 PixelNotInLine e = let z : ⊥ = omega (arith, e) in z
number_not_0 NoExactIndex e = let z : ⊥ = omega (arith, e) in z
number_not_0 NotABc7Texture e = let z : ⊥ = omega (arith, e) in z
number_not_0 ColourSpaceStated e = let z : ⊥ = omega (arith, e) in z
number_not_0 ProfileSides e = let z : ⊥ = omega (arith, e) in z
number_not_0 BadColourSpace e = let z : ⊥ = omega (arith, e) in z
number_not_0 FalseCounts e = let z : ⊥ = omega (arith, e) in z
number_not_0 ProfileBlock e = let z : ⊥ = omega (arith, e) in z
number_not_0 NoSuchPixel e = let z : ⊥ = omega (arith, e) in z
number_not_0 NotAChannel e = let z : ⊥ = omega (arith, e) in z

pub answer_fixes : {A : Type 0} (left : A) (a b : Result A Refusal) → answer_of left a ≡ answer_of left b → a ≡ b
answer_fixes left (Ok v) (Ok w) e = ap Ok (ap (λ x. x.value) e)
answer_fixes left (Ok v) (Err q) e = absurd (number_not_0 q (sym (ap (λ x. x.refusal) e)))
answer_fixes left (Err r) (Ok w) e = absurd (number_not_0 r (ap (λ x. x.refusal) e))
answer_fixes left (Err r) (Err q) e = ap Err (number_injective (ap (λ x. x.refusal) e))

-- of a result that holds nothing, the number is enough
pub number_fixes : (a b : Result ⊤ Refusal) → number_of a ≡ number_of b → a ≡ b
number_fixes (Ok v) (Ok w) e = refl
number_fixes (Ok v) (Err q) e = absurd (number_not_0 q (sym e))
number_fixes (Err r) (Ok w) e = absurd (number_not_0 r e)
number_fixes (Err r) (Err q) e = ap Err (number_injective e)
