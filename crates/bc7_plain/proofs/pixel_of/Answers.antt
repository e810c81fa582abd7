-- `pixel_of` meets its contract.
-- Assumes nothing.
use mathlib.Core.Path.{◌≡◌, sym}
use Prim.Native.Nat.{ℕ}
use mir.Syntax.{w8}
use mir.Val.{Fits}
use lib.ListN.{get_or, length}
use Rattle.laws.specs.Digits.{Fit}
use Rattle.bcn_format.specs.Block.{eights}
use Rattle.bc7_format.proofs.Subsets.{sixteen_bytes}
use borrow.Author.Rules.{rules}
use Rattle.bc7_format.proofs.Reserved.{zero_byte}
use Rattle.pixel_rules.proofs.Theorems.{pixel_refused, reserved_accepted}
use Rattle.bc7_plain.proofs.Answers.{answered}
use Rattle.bc7_plain.proofs.pixel_of.Goals as goal
use Rattle.bc7_plain.proofs.pixel_of.Goals.{Start}

size : (s : Start) → length s.args.block ≡ 16
size s = search rules

byte : (s : Start) (i : ℕ) → Fits w8 (get_or s.args.block i 0)
byte s i = search rules

sixteen : (s : Start) → Fit eights s.args.block
sixteen s = sixteen_bytes _ (size s) (λ i l. (byte s i).fits)

pub returns-then-pixel-ge16 : goal.returns-then-pixel-ge16
returns-then-pixel-ge16 c = sym (pixel_refused _ _ c.if-pixel-ge16.true)

pub returns-in-Some : goal.returns-in-Some
returns-in-Some c =
    answered _ (sixteen (goal.at.returns-in-Some c).Start) c.in-Some.mode.number c.args.pixel c.in-Some.ensures c.in-Some.mode.in_table
    c.if-pixel-ge16.false c.read.ensures

pub returns-in-None : goal.returns-in-None
returns-in-None c =
    sym (reserved_accepted _ _ c.if-pixel-ge16.false
    (zero_byte _ (sixteen (goal.at.returns-in-None c).Start) (sym c.in-None.ensures)))
