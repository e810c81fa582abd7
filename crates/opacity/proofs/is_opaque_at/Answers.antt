-- `is_opaque_at` meets its contract.
-- Assumes nothing.
use mathlib.Core.Path.{◌≡◌, ◌∙◌, sym}
use Prim.Native.Nat.{ℕ}
use borrow.Author.Rules.{rules}
use borrow.Author.Tests.{ltb-true}
use lib.ListN.{get_or, length}
use mir.Syntax.{w8}
use mir.Val.{Fits}
use Rattle.laws.specs.Digits.{Fit}
use Rattle.bcn_format.specs.Block.{eights}
use Rattle.bc7_format.proofs.Subsets.{sixteen_bytes}
use Rattle.opacity_rules.specs.Opacity.{opaque_in}
use Rattle.opacity_rules.proofs.Theorems.{from_the_mode}
use Rattle.opacity.proofs.is_opaque_at.Goals as goal
use Rattle.opacity.proofs.is_opaque_at.Goals.{Start}

size : (s : Start) → length s.args.block ≡ 16
size s = search rules

byte : (s : Start) (i : ℕ) → Fits w8 (get_or s.args.block i 0)
byte s i = search rules

sixteen : (s : Start) → Fit eights s.args.block
sixteen s = sixteen_bytes _ (size s) (λ i l. (byte s i).fits)

pub returns-then-stores_no_alpha : goal.returns-then-stores_no_alpha
unfolding opaque_in
returns-then-stores_no_alpha c =
    let mode = c in
    sym (from_the_mode _ _ _ (sixteen c.before.before) (ltb-true _ 4 (sym mode.stores_no_alpha.ensures ∙ c.if-stores_no_alpha.true)))

pub is_opaque_in-requires : goal.is_opaque_in-requires
is_opaque_in-requires c =
    let s = c in record { sized = s.requires.size; there = s.requires.number; draws = c.decode_bc7_block.ensures }

pub returns : goal.returns
returns c = c.is_opaque_in.ensures
