-- THE ANSWER OF A CALL that may be refused, as document 01 has it: the number of the first refusal that applies, 0 for none, and a value, which
-- a refused answer has too.
-- Assumes nothing.
use Rattle.std.specs.Prelude.{ℕ, Result, Ok, Err}
use Rattle.refusals.specs.declared.Refusal.{Refusal}
use Rattle.refusals.specs.declared.Refusal.TheVariants.{ReservedBlock, NoSuchLine, ValueTooWide, PBitsDiffer, WrongKind, AnchorBitSet, BadNumber, UnknownForm, BadSide, WrongBlockBytes, WrongOutputLength, BeyondSheet, PixelNotInLine, NoExactIndex, NotABc7Texture, ColourSpaceStated, ProfileSides, BadColourSpace, FalseCounts, ProfileBlock, NoSuchPixel, NotAChannel}

pub record Answer (A : Type 0) : Type 0 where
  pub refusal : ℕ
  pub value : A

-- the numbers of the refusals
abbrev pub number : Refusal → ℕ
number ReservedBlock = 1
number NoSuchLine = 2
number ValueTooWide = 3
number PBitsDiffer = 4
number WrongKind = 5
number AnchorBitSet = 6
number BadNumber = 7
number UnknownForm = 8
number BadSide = 9
number WrongBlockBytes = 10
number WrongOutputLength = 11
number BeyondSheet = 12
number PixelNotInLine = 13
number NoExactIndex = 14
number NotABc7Texture = 15
number ColourSpaceStated = 16
number ProfileSides = 17
number BadColourSpace = 18
number FalseCounts = 19
number ProfileBlock = 20
number NoSuchPixel = 21
number NotAChannel = 23

-- the number of a result: 0 where it is a value
abbrev pub number_of : {A : Type 0} → Result A Refusal → ℕ
number_of (Ok v) = 0
number_of (Err r) = number r

-- what a result answers, where a refusal has this value
abbrev pub answer_of : {A : Type 0} → A → Result A Refusal → Answer A
answer_of left (Ok v) = record { refusal = 0; value = v }
answer_of left (Err r) = record { refusal = number r; value = left }
