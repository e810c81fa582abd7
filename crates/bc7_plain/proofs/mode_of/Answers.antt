-- `mode_of` meets its contract.
-- Assumes nothing.
use borrow.Author.Rules.{rules}
use mathlib.Core.Path.{◌≡◌, sym, ◌∙◌}
use Prim.Native.Nat.{ℕ}
use mir.Syntax.{w8}
use mir.Val.{Fits}
use lib.ListN.{get_or, length}
use Rattle.laws.specs.Digits.{Fit}
use Rattle.bcn_format.specs.Block.{eights, trailing}
use Rattle.bc7_format.proofs.Subsets.{sixteen_bytes}
use native.Mathlib.Omega.{arith}
use Rattle.bc7_format.specs.Modes.{mode_of}
use Rattle.bc7_plain.proofs.BitNumbers.{mode_here, mode_next}
use Rattle.bc7_plain.proofs.mode_of.Goals as goal
use Rattle.bc7_plain.proofs.mode_of.Goals.{Start}

size : (s : Start) → length s.args.block ≡ 16
size s = search rules

byte : (s : Start) (i : ℕ) → Fits w8 (get_or s.args.block i 0)
byte s i = search rules

sixteen : (s : Start) → Fit eights s.args.block
sixteen s = sixteen_bytes _ (size s) (λ i l. (byte s i).fits)

pub returns-then-bit-eq1 : goal.returns-then-bit-eq1
unfolding mode_of
returns-then-bit-eq1 c =
    mode_here _ (sixteen (goal.at.returns-then-bit-eq1 c).Start) c.loop-number.number c.loop-number-test.true c.loop-number.invariant
    (sym c.bit.ensures ∙ c.if-bit-eq1.true)

pub loop-number-preserved : goal.loop-number-preserved
loop-number-preserved c =
    mode_next _ (sixteen (goal.at.loop-number-preserved c).Start) c.loop-number.number c.loop-number-test.true c.loop-number.invariant
    (λ e. c.if-bit-eq1.false (c.bit.ensures ∙ e))

pub returns : goal.returns
unfolding mode_of trailing
returns c =
    let z : c.loop-number.number ≡ 8 = omega (arith, c.loop-number.auto.number-end) in
    sym (rw z at c.loop-number.invariant)
