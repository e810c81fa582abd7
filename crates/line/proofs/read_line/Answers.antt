-- `read_line` meets its contract.
-- Assumes nothing.
use mathlib.Core.Path.{◌≡◌, sym, ap, ◌∙◌}
use Prim.Native.Nat.{ℕ, ◌<◌}
use native.Mathlib.Omega.{arith}
use borrow.Author.Rules.{rules}
use mir.Syntax.{w8}
use mir.Val.{Fits}
use lib.ListN.{length, get_or}
use Rattle.laws.specs.Digits.{Fit}
use Rattle.bcn_format.specs.Block.{eights}
use Rattle.bc7_format.specs.Modes.{mode_of, lines}
use Rattle.bc7_format.proofs.Subsets.{sixteen_bytes}
use Rattle.bc7_format.proofs.Modes.{mode_le_8}
use Rattle.bc7_modes.specs.Modes.{mode_row_of}
use Rattle.line.proofs.Opening.{read_0, read_1, read_2, ready_part, ready_read}
use Rattle.line.proofs.read_line.Goals as goal
use Rattle.line.proofs.read_line.Goals.{Else-line-row, Else-mode-eq8, Start}

size : (s : Start) → length s.args.block ≡ 16
size s = search rules

byte : (s : Start) (i : ℕ) → Fits w8 (get_or s.args.block i 0)
byte s i = search rules

sixteen : (s : Start) → Fit eights s.args.block
sixteen s = sixteen_bytes _ (size s) (λ i l. (byte s i).fits)

-- where the block was found not to be reserved
abbrev call : Else-mode-eq8 → Start
call c = c.before.before

mode_is : (c : Else-mode-eq8) → c.mode_of-mode.result ≡ mode_of (call c).args.block
mode_is c = c.mode_of-mode.ensures

low : (c : Else-mode-eq8) → mode_of (call c).args.block < 8
low c = let n = rw (mode_is c) at c.if-mode-eq8.false in omega (arith, n, mode_le_8 (call c).args.block)

-- where the line's number was found to be below the mode's count, and the line was opened
abbrev unreserved : Else-line-row → Else-mode-eq8
unreserved c = c.before.before.before

mode_row_is : (c : Else-line-row) → c.mode_row-row.result ≡ mode_row_of (mode_of (call (unreserved c)).args.block)
mode_row_is c = c.mode_row-row.ensures ∙ ap mode_row_of (mode_is (unreserved c))

counted : (c : Else-line-row) → (call (unreserved c)).args.line < lines (mode_of (call (unreserved c)).args.block)
counted c = rw (mode_row_is c) at c.if-line-row.false

pub returns-then-mode-eq8 : goal.returns-then-mode-eq8
returns-then-mode-eq8 c = read_1 _ _ (sym c.mode_of-mode.ensures ∙ c.if-mode-eq8.true)

pub mode_row-row-requires : goal.mode_row-row-requires
mode_row-row-requires c = rw (mode_is c) (low c)

pub returns-then-line-row : goal.returns-then-line-row
returns-then-line-row c =
    let d = c in
    let k = rw (c.mode_row-row.ensures ∙ ap mode_row_of (mode_is c.before.before.before)) at c.if-line-row.true in
    read_2 _ _ (low c.before.before.before) k

pub open_line-opened-requires : goal.open_line-opened-requires
open_line-opened-requires c =
    let e = mode_is (unreserved c) in
    record {
      of_block = record { mode_is = e; low = rw e (low (unreserved c)); mode_row_is = c.mode_row-row.ensures };
      there = rw e (counted c);
    }

pub line_held-requires : goal.line_held-requires
line_held-requires c =
    let o = c in
    let d = unreserved c.before.before.before in
    ready_read _ (sixteen (call d)) (low d) _ (counted c.before.before.before) o.open_line-opened.ensures (mode_row_is c.before.before.before)

pub widths_of-requires : goal.widths_of-requires
widths_of-requires c =
    let o = c in
    let d = unreserved c.before.before.before.before in
    ready_part _ (sixteen (call d)) (low d) _ (counted c.before.before.before.before) o.open_line-opened.ensures

pub returns : goal.returns
returns c =
    let o = c in
    let d = unreserved c.before.before.before.before.before in
    read_0 _ (sixteen (call d)) (low d) _ (counted c.before.before.before.before.before) o.open_line-opened.ensures (mode_row_is c.before.before.before.before.before)
    (rw (mode_is d) at c.line_held.ensures) c.widths_of.ensures
