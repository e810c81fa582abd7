-- `is_opaque_in` meets its contract.
-- Assumes nothing.
use mathlib.Core.Path.{◌≡◌, ◌∙◌, sym}
use Prim.Native.Nat.{ℕ}
use borrow.Author.Rules.{rules}
use borrow.Author.Tests.{ltb-true}
use lib.ListN.{get_or, length}
use mir.Syntax.{w8}
use mir.Val.{Fits}
use Rattle.laws.specs.Digits.{Fit}
use Rattle.head_rules.specs.Answers.{known}
use Rattle.bcn_format.specs.Block.{eights}
use Rattle.bc7_format.proofs.Subsets.{sixteen_bytes}
use Rattle.opacity_rules.specs.Opacity.{opaque_in}
use Rattle.opacity_rules.proofs.Theorems.{Stands, from_the_mode, stands}
use Rattle.opacity.proofs.Passing.{drawn_is}
use Rattle.opacity.proofs.is_opaque_in.Goals as goal
use Rattle.opacity.proofs.is_opaque_in.Goals.{Start}

size : (s : Start) → length s.args.block ≡ 16
size s = search rules

byte : (s : Start) (i : ℕ) → Fits w8 (get_or s.args.block i 0)
byte s i = search rules

sixteen : (s : Start) → Fit eights s.args.block
sixteen s = sixteen_bytes _ (size s) (λ i l. (byte s i).fits)

placed : (s : Start) → Stands s.args.head.width s.args.head.height s.args.number
placed s = stands (known s.args.head) s.requires.sized _ s.requires.there

pub returns-then-stores_no_alpha : goal.returns-then-stores_no_alpha
unfolding opaque_in
returns-then-stores_no_alpha c =
    let mode = c in
    sym (from_the_mode _ _ _ (sixteen c.before.before) (ltb-true _ 4 (sym mode.stores_no_alpha.ensures ∙ c.if-stores_no_alpha.true)))

pub shown_in-columns-requires : goal.shown_in-columns-requires
shown_in-columns-requires c = let b = c in rw b.blocks_across-across.ensures (placed c.before.before.before.before).column

pub shown_in-rows-requires : goal.shown_in-rows-requires
shown_in-rows-requires c = let b = c in rw b.blocks_across-across.ensures (placed c.before.before.before.before.before.before).row

pub returns : goal.returns
unfolding opaque_in
returns c =
    let high = c in
    let wide = high in
    let across = wide in
    let s = across in
    c.all_pass.ensures
    ∙ rw (high.shown_in-rows.ensures, wide.shown_in-columns.ensures, across.blocks_across-across.ensures, s.requires.draws) (drawn_is _ _ _)
