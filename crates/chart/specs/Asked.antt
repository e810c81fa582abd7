-- What the functions of the chart ask.
-- Assumes nothing.
use Rattle.std.specs.Prelude.{ℕ, ◌+◌, ◌^◌, ◌<◌, ◌≤◌, ◌≡◌, List, T, length}
use Rattle.bc7_format.specs.declared.Place.{Place}
use Rattle.bc7_format.specs.declared.Place.TheVariants.{Lead, Value, PBit, Index}
use Rattle.laws.specs.Text.{ascii}
use Rattle.chart_rules.specs.Names.{channel_name, lead_name, set_name}
use Rattle.bc7_format.specs.declared.Split.{Split}
use Rattle.bc7_modes.specs.declared.ModeRow.{ModeRow}
use Rattle.bc7_format.specs.Modes.{kind_of_mode, mode_of, partition_bits}
use Rattle.bc7_format.specs.Places.{inside}
use Rattle.bc7_format.specs.Splits.{kind_of, partition}
use Rattle.bc7_modes.specs.Modes.{IsRow}
use Rattle.chart_rules.specs.Charts.{text_room}

-- the word of a place's name: a short one where a number stands behind it
abbrev pub word_in : Place → List ℕ
word_in (Lead k) = lead_name k
word_in (Value c e) = channel_name c
word_in (PBit k) = ascii "p-"
word_in (Index a q) = set_name a

abbrev pub longest : Place → ℕ
longest (Lead k) = 10
longest (Value c e) = 7
longest (PBit k) = 7
longest (Index a q) = 7

pub record WordOf (place : Place) (word : List ℕ) : Type 0 where
  pub is : word ≡ word_in place
  pub short : length word ≤ longest place

-- of a place's name
pub record NameAsked (place : Place) (at room : ℕ) : Type 0 where
  pub there : T (inside place)
  pub fits : at + 11 ≤ room

-- of a place's text: that numbers of a byte say where the place stands, too
pub record FieldAsked (place : Place) (bit width at room : ℕ) : Type 0 where
  pub there : T (inside place)
  pub starts : bit ≤ 128
  pub ends : width ≤ 128
  pub fits : at + 22 ≤ room

-- a split of a mode that is not reserved
pub record SplitOfMode (mode : ℕ) (split : Split) : Type 0 where
  pub low : mode < 8
  pub kind : kind_of split ≡ kind_of_mode mode
  pub few : partition split < 2 ^ partition_bits mode

-- of the texts of all places
pub record PlacesAsked (mode : ℕ) (row : ModeRow) (split : Split) (room : ℕ) : Type 0 where
  pub of_mode_is : SplitOfMode mode split
  pub mode_row_holds : IsRow mode row
  pub fits : text_room ≤ room

-- the mode of a block that is not reserved
pub record BlockMode (block : List ℕ) (mode : ℕ) : Type 0 where
  pub is : mode ≡ mode_of block
  pub low : mode < 8
