-- `replace_line` meets its contract.
-- Assumes nothing.
use mathlib.Core.Path.{◌≡◌, sym, ap, ◌∙◌}
use mathlib.Core.Bool.{true, false, not}
use Prim.Native.Nat.{ℕ, ◌^◌, ◌<◌}
use native.Mathlib.Omega.{arith}
use borrow.Author.Rules.{rules}
use mir.Syntax.{w8}
use mir.Val.{Fits}
use lib.Bits.{bit_and}
use lib.Dec.{eqb}
use lib.ListN.{length, get_or}
use Rattle.laws.specs.Digits.{Fit}
use Rattle.laws.specs.Tables.{both}
use Rattle.bcn_format.specs.Block.{eights}
use Rattle.bc7_format.specs.Modes.{mode_of, lines}
use Rattle.bc7_format.specs.Splits.{split_of}
use Rattle.bc7_format.proofs.Subsets.{sixteen_bytes}
use Rattle.bc7_format.proofs.Modes.{mode_le_8}
use Rattle.bc7_modes.specs.Modes.{mode_row_of}
use Rattle.line_rules.specs.Replace.{replaced_as}
use Rattle.line.specs.Parts.{parts_fit}
use Rattle.line.proofs.parts.Parts.{IsPart}
use Rattle.line.proofs.Ways.{below_mask, indexes_fit, is, ready, way_0, way_1, way_2, way_3, way_3_others, way_4}
use Rattle.line.proofs.replace_line.Goals as goal
use Rattle.line.proofs.replace_line.Goals.{After-mask_of-mask, After-open_line-opened, After-put_line-after, Else-line-row, Else-mode-eq8, Else-not-only_own, Else-not-parts_fit, Else-p_bits_differ, Start}

size : (s : Start) → length s.args.block ≡ 16
size s = search rules

byte : (s : Start) (i : ℕ) → Fits w8 (get_or s.args.block i 0)
byte s i = search rules

sixteen : (s : Start) → Fit eights s.args.block
sixteen s = sixteen_bytes _ (size s) (λ i l. (byte s i).fits)

long : (s : Start) → length s.args.new.indexes ≡ 16
long s = search rules

-- where the block was found not to be reserved
abbrev call : Else-mode-eq8 → Start
call c = c.before.before

mode_is : (c : Else-mode-eq8) → c.mode_of-mode.result ≡ mode_of (call c).args.block
mode_is c = c.mode_of-mode.ensures

low : (c : Else-mode-eq8) → mode_of (call c).args.block < 8
low c = let n = rw (mode_is c) at c.if-mode-eq8.false in omega (arith, n, mode_le_8 (call c).args.block)

-- where the line's number was found to be below the mode's count, and the line was opened
abbrev unreserved : Else-line-row → Else-mode-eq8
unreserved c = c.before.before.before

mode_row_is : (c : Else-line-row) → c.mode_row-row.result ≡ mode_row_of (mode_of (call (unreserved c)).args.block)
mode_row_is c = c.mode_row-row.ensures ∙ ap mode_row_of (mode_is (unreserved c))

counted : (c : Else-line-row) → (call (unreserved c)).args.line < lines (mode_of (call (unreserved c)).args.block)
counted c = rw (mode_row_is c) at c.if-line-row.false

line_is : (c : After-open_line-opened)
    → IsPart (mode_of (call (unreserved c.before)).args.block) (split_of (call (unreserved c.before)).args.block)
    (call (unreserved c.before)).args.line c.open_line-opened.result.part
line_is c =
    let d = unreserved c.before in
    is _ (sixteen (call d)) _ (call d).args.new (long (call d)) (low d) (counted c.before) c.open_line-opened.ensures

-- where its parts were found to fit
abbrev opening : Else-not-parts_fit → After-open_line-opened
opening c = c.before.before.before

fitting : (c : Else-not-parts_fit) → parts_fit (opening c).open_line-opened.result.part (call (unreserved (opening c).before)).args.new ≡ true
fitting c = sym c.parts_fit.ensures ∙ c.if-not-parts_fit.false

-- where the indexes of other pixels were found to be zero
abbrev masking : Else-not-only_own → After-mask_of-mask
masking c = c.before.before

abbrev fit : Else-not-only_own → Else-not-parts_fit
fit c = (masking c).before.before.before.before

alone : (c : Else-not-only_own)
    → eqb (bit_and (masking c).before.before.word_of-indexes.result (masking c).mask_of-mask.result) (masking c).before.before.word_of-indexes.result ≡ true
alone c = sym c.only_own.ensures ∙ c.if-not-only_own.false

-- and the p bits to be as the mode wants them
same : (c : Else-p_bits_differ)
    → both (eqb (mode_of (call (unreserved (opening (fit c.before.before)).before)).args.block) 1)
    (not (eqb (get_or (call (unreserved (opening (fit c.before.before)).before)).args.new.p 0 0)
    (get_or (call (unreserved (opening (fit c.before.before)).before)).args.new.p 1 0))) ≡ false
same c = rw (mode_is (unreserved (opening (fit c.before.before)).before)) at (sym c.p_bits_differ.ensures ∙ c.if-p_bits_differ.false)

halves : (c : After-put_line-after) → (c.put_line-after.result.low < 2 ^ 64) × (c.put_line-after.result.high < 2 ^ 64)
halves c = search rules

pub returns-then-mode-eq8 : goal.returns-then-mode-eq8
returns-then-mode-eq8 c =
    let s = c.before.before in
    way_1 _ (sixteen s) _ _ (long s) (sym c.mode_of-mode.ensures ∙ c.if-mode-eq8.true)

pub mode_row-row-requires : goal.mode_row-row-requires
mode_row-row-requires c = rw (mode_is c) (low c)

pub returns-then-line-row : goal.returns-then-line-row
returns-then-line-row c =
    let d = c in
    let k = rw (c.mode_row-row.ensures ∙ ap mode_row_of (mode_is c.before.before.before)) at c.if-line-row.true in
    way_2 _ (sixteen (call c.before.before.before)) _ _ (long (call c.before.before.before)) (low c.before.before.before) k

pub open_line-opened-requires : goal.open_line-opened-requires
open_line-opened-requires c =
    let e = mode_is (unreserved c) in
    record {
      of_block = record { mode_is = e; low = rw e (low (unreserved c)); mode_row_is = c.mode_row-row.ensures };
      there = rw e (counted c);
    }

pub parts_fit-requires : goal.parts_fit-requires
parts_fit-requires c = let i = line_is c.before in
    record { colour = i.colour_small; alpha = i.alpha_small; p = omega (arith, i.p_small); index = omega (arith, i.most) }

pub returns-then-not-parts_fit : goal.returns-then-not-parts_fit
returns-then-not-parts_fit c =
    let o = c in
    let d = unreserved c.before.before.before.before in
    way_3 _ (sixteen (call d)) _ _ (long (call d)) (low d) (counted c.before.before.before.before) o.open_line-opened.ensures
    (sym c.parts_fit.ensures ∙ c.if-not-parts_fit.true)

pub word_of-indexes-requires : goal.word_of-indexes-requires
word_of-indexes-requires c =
    let o = opening c.before in
    let d = unreserved o.before in
    record {
      most = (line_is o).most;
      fits = indexes_fit _ (sixteen (call d)) _ _ (long (call d)) (low d) (counted o.before) o.open_line-opened.ensures (fitting c.before);
    }

pub mask_of-mask-requires : goal.mask_of-mask-requires
mask_of-mask-requires c = let i = line_is (opening c.before.before.before) in record { bits = i.map; width = i.most }

pub returns-then-not-only_own : goal.returns-then-not-only_own
returns-then-not-only_own c =
    let k = c in
    let f = k in
    let o = opening c.before.before.before.before.before.before in
    let d = unreserved o.before in
    way_3_others _ (sixteen (call d)) _ _ (long (call d)) (low d) (counted o.before) o.open_line-opened.ensures (fitting c.before.before.before.before.before.before)
    k.word_of-indexes.ensures k.mask_of-mask.ensures
    (sym c.only_own.ensures ∙ c.if-not-only_own.true)

pub returns-then-p_bits_differ : goal.returns-then-p_bits_differ
returns-then-p_bits_differ c =
    let k = c in
    let o = opening (fit c.before.before) in
    let d = unreserved o.before in
    way_4 _ (sixteen (call d)) _ _ (long (call d)) (low d) (counted o.before) o.open_line-opened.ensures (fitting (fit c.before.before))
    (masking c.before.before).before.before.word_of-indexes.ensures (masking c.before.before).mask_of-mask.ensures (alone c.before.before)
    (rw (mode_is d) at (sym c.p_bits_differ.ensures ∙ c.if-p_bits_differ.true))

pub oriented-stored-requires : goal.oriented-stored-requires
oriented-stored-requires c =
    let k = c in
    let o = opening (fit c.before.before) in
    let d = unreserved o.before in
    let i = line_is o in
    record {
      width = record { least = omega (arith, i.least); most = i.most };
      anchor = i.anchor_small;
      own =
          below_mask _ (sixteen (call d)) _ _ (long (call d)) (low d) (counted o.before) o.open_line-opened.ensures (fitting (fit c.before.before))
          (masking c.before.before).before.before.word_of-indexes.ensures (masking c.before.before).mask_of-mask.ensures (alone c.before.before);
    }

pub put_line-after-requires : goal.put_line-after-requires
put_line-after-requires c =
    let k = c in
    let o = opening (fit c.before.before.before.before) in
    let d = unreserved o.before in
    rw (mode_is d)
    (ready _ (sixteen (call d)) _ _ (long (call d)) (low d) (counted o.before) o.open_line-opened.ensures (fitting (fit c.before.before.before.before))
    (masking c.before.before.before.before).before.before.word_of-indexes.ensures (masking c.before.before.before.before).mask_of-mask.ensures (alone c.before.before.before.before)
    (same c.before.before) c.oriented-stored.ensures (mode_row_is o.before))

pub returns : goal.returns
returns c =
    let k = c in
    let o = opening (fit c.before.before.before.before.before.before) in
    let d = unreserved o.before in
    let r = c.put_line-after.result in
    ap (replaced_as 0) c.bytes_of.ensures
    ∙ way_0 _ (sixteen (call d)) _ _ (long (call d)) (low d) (counted o.before) o.open_line-opened.ensures (fitting (fit c.before.before.before.before.before.before))
    (masking c.before.before.before.before.before.before).before.before.word_of-indexes.ensures (masking c.before.before.before.before.before.before).mask_of-mask.ensures (alone c.before.before.before.before.before.before)
    (same c.before.before.before.before) c.oriented-stored.ensures (mode_row_is o.before) r (halves c.before).0
    (halves c.before).1
    (rw (mode_is d) at c.put_line-after.ensures)
