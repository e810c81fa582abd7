-- A line of a block that is opened: its number, and the parts that the format says; and read.
-- Assumes nothing.
use mathlib.Core.Path.{◌≡◌, refl, sym, ap, ◌∙◌}
use mathlib.Core.Bool.{false}
use mathlib.Core.List.{List}
use Prim.Native.Nat.{ℕ, ◌<◌, ◌≤◌}
use native.Mathlib.Omega.{arith}
use borrow.Author.Tests.{eq-eqb, le-ltb, lt-ltb, ne_eqb}
use lib.Dec.{eqb}
use Rattle.line.specs.declared.Opened.{Opened}
use Rattle.line_rules.specs.declared.Replacement.{Replacement}
use Rattle.laws.specs.Refusals.{first}
use Rattle.bc7_places.specs.declared.splits.ReadSplit.{ReadSplit}
use Rattle.bc7_modes.specs.declared.ModeRow.{ModeRow}
use Rattle.bc7_places.specs.declared.lines.LinePart.{LinePart}
use Rattle.laws.specs.Digits.{Fit}
use Rattle.bcn_format.specs.Block.{eights, number}
use Rattle.bc7_format.specs.Modes.{mode_of, lines}
use Rattle.bc7_format.specs.Places.{opened}
use Rattle.bc7_format.specs.Splits.{split_of}
use Rattle.bc7_format.specs.WellFormed.{WellFormed}
use Rattle.bc7_format.proofs.Opening.{opened_good}
use Rattle.bc7_modes.specs.Modes.{mode_row_of}
use Rattle.bc7_places.specs.Splits.{IsLead}
use Rattle.bc7_places.specs.Lines.{OfLine, part_of}
use Rattle.line.proofs.parts.Parts.{IsPart, is_part}
use Rattle.bc7_places.proofs.lines.Parts.{of_line}
use Rattle.line_rules.specs.Read.{line_read, no_line, read_as, read_refusal}
use Rattle.line_rules.proofs.Reading.{read_is}
use Rattle.line.specs.Opened.{IsOpened, LineOfBlock}
use Rattle.line.specs.Reading.{PartSmall, ReadReady, line_held, widths_in}
use Rattle.line.proofs.Standing.{part_small, read_ready, stands_as_read, widths_are}

module _ (bs : List ℕ) (sixteen : Fit eights bs) (low : mode_of bs < 8) where
  pub good : WellFormed (mode_of bs) (split_of bs) (opened bs)
  good = opened_good bs sixteen low

  -- what is opened is the line
  pub line_is : (l : ℕ) → l < lines (mode_of bs) → {o : Opened} → IsOpened bs l o → IsPart (mode_of bs) (split_of bs) l o.part
  line_is l h i = is_part good l h {row = mode_row_of (mode_of bs)} refl i.part

-- the line behind the lead
module _ (bs : List ℕ) {mode l : ℕ} {row : ModeRow} (of : LineOfBlock bs mode row l) {r : ReadSplit} (lead : IsLead bs r) where
  mode_is : mode ≡ mode_of bs
  mode_is = of.of_block.mode_is

  row_is : row ≡ mode_row_of (mode_of bs)
  row_is = of.of_block.mode_row_is ∙ ap mode_row_of mode_is

  pub asks : Fit eights bs → OfLine row r.split l
  asks sixteen = rw lead.split (of_line (good bs sixteen (rw mode_is at of.of_block.low)) l (rw mode_is at of.there) row_is)

  pub is_opened : {x : LinePart} → x ≡ part_of row r.split l → IsOpened bs l (record { stream = r.stream; part = x })
  is_opened ex = record { holds = lead.stands.of; stands = lead.stands.stands; part = ex ∙ rw (row_is, lead.split) }

-- READING: refused with 1 and 2, and the line as it stands
pub read_1 : (bs : List ℕ) (l : ℕ) → mode_of bs ≡ 8 → read_as 1 no_line no_line ≡ line_read bs l
unfolding line_read read_refusal first
read_1 bs l e = sym (rw (eq-eqb (mode_of bs) 8 e))

module _ (bs : List ℕ) (l : ℕ) (low : mode_of bs < 8) where
  open_mode : eqb (mode_of bs) 8 ≡ false
  open_mode = ne_eqb (mode_of bs) 8 (λ z. omega arith)

  pub read_2 : lines (mode_of bs) ≤ l → read_as 2 no_line no_line ≡ line_read bs l
  unfolding line_read read_refusal first
  read_2 h = sym (rw (open_mode, le-ltb l (lines (mode_of bs)) h))

  no_refusal : l < lines (mode_of bs) → read_refusal bs l ≡ 0
  unfolding read_refusal first
  no_refusal h = rw (open_mode, lt-ltb l (lines (mode_of bs)) h)

module _ (bs : List ℕ) (sixteen : Fit eights bs) (low : mode_of bs < 8) (l : ℕ) (hl : l < lines (mode_of bs)) {o : Opened} (i : IsOpened bs l o) where
  is : IsPart (mode_of bs) (split_of bs) l o.part
  is = line_is bs sixteen low l hl i

  pub ready_part : PartSmall o.part
  ready_part = part_small (good bs sixteen low) l hl is

  module _ {row : ModeRow} (er : row ≡ mode_row_of (mode_of bs)) where
    pub ready_read : ReadReady o.stream row l o.part
    unfolding opened
    ready_read = read_ready (good bs sixteen low) l hl is (number bs) (λ y h. refl) o.stream i.holds i.stands er

    pub read_0 : {r v : Replacement} → r ≡ line_held o.stream (mode_of bs) row l o.part → v ≡ widths_in o.part
        → record { refusal = 0; value = record { line = r; widths = v } } ≡ line_read bs l
    unfolding opened
    read_0 e f =
        rw (
          e,
          f,
          stands_as_read (good bs sixteen low) l hl is (number bs) (λ y h. refl) o.stream i.holds i.stands er,
          widths_are (good bs sixteen low) l hl is,
        )
        (sym (read_is bs l (no_refusal bs l low hl)))
