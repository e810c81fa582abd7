-- A line of a block, opened.
-- Assumes nothing.
use Rattle.std.specs.Prelude.{◌≡◌, List, ℕ, ◌<◌}
use Rattle.line.specs.declared.Opened.{Opened}
use Rattle.bc7_format.specs.Modes.{lines, mode_of}
use Rattle.bcn_format.specs.Block.{number}
use Rattle.bc7_format.specs.Splits.{split_of}
use Rattle.bits.specs.Stream.{held}
use Rattle.bc7_fields.specs.Fields.{lead_end}
use Rattle.bc7_modes.specs.declared.ModeRow.{ModeRow}
use Rattle.bc7_modes.specs.Modes.{OfBlock, mode_row_of}
use Rattle.bc7_places.specs.Lines.{part_of}

-- a line that the mode of a block has
pub record LineOfBlock (bs : List ℕ) (mode : ℕ) (row : ModeRow) (l : ℕ) : Type 0 where
  pub of_block : OfBlock bs mode row
  pub there : l < lines mode

-- the stream holds the block and stands where its values start, and the part is that of line l
pub record IsOpened (bs : List ℕ) (l : ℕ) (o : Opened) : Type 0 where
  pub holds : held o.stream ≡ number bs
  pub stands : o.stream.at ≡ lead_end (mode_of bs)
  pub part : o.part ≡ part_of (mode_row_of (mode_of bs)) (split_of bs) l
