-- What is tested of a record, group by group, by the row of its mode.
-- Assumes nothing.
use Rattle.std.specs.Prelude.{◌≡◌, Bool, ℕ, ◌+◌, ◌/◌, ◌%◌, ◌^◌, ◌<◌, ◌≤◌, List, eqb, ltb, get_or}
use Rattle.bcn_format.specs.Indexes.{IndexWidth}
use Rattle.record_rules.specs.declared.Record.{Record}
use Rattle.bc7_places.specs.declared.splits.Anchors.{Anchors}
use Rattle.bc7_modes.specs.declared.ModeRow.{ModeRow}
use Rattle.bc7_format.specs.declared.Split.{Split}
use Rattle.laws.specs.Tables.{both, pick}
use Rattle.bc7_format.specs.Modes.{kind_of_mode}
use Rattle.bc7_format.specs.Splits.{anchors, index_mode, kind_of, partition, rotation}
use Rattle.record_rules.specs.Answers.{Within}
use Rattle.record_rules.specs.Records.{fits, says}
use Rattle.bc7_modes.specs.Modes.{OfMode, mode_row_of}
use Rattle.bc7_places.specs.Splits.{ArePixels, anchors_of}

-- does what a split has fit the row's widths
abbrev pub split_fits : Split → ModeRow → Bool
split_fits s row =
    both (ltb (partition s) (2 ^ row.partition)) (both (ltb (rotation s) (2 ^ row.rotation)) (ltb (index_mode s) (2 ^ row.index_mode)))

-- the width of value i of a record: of channel i % 4 of endpoint i / 4
abbrev pub value_bits : ModeRow → ℕ → ℕ
value_bits row i = pick (ltb (i / 4) row.endpoints) (pick (eqb (i % 4) 3) row.alpha row.colour) 0

-- do the indexes at these three pixels fit w bits
abbrev pub tops_zero : List ℕ → Anchors → ℕ → Bool
tops_zero vs a w = both (ltb (get_or vs a.a 0) (2 ^ w)) (both (ltb (get_or vs a.b 0) (2 ^ w)) (ltb (get_or vs a.c 0) (2 ^ w)))

-- does everything fit as it is stored, where the anchors' indexes have a bit less
abbrev pub stored_fit : Record → Bool
stored_fit r = fits r.mode (anchors r.split) (says r)

-- a record of its mode's kind in which everything fits its full width, with the row of that mode
pub record Full (r : Record) (row : ModeRow) : Type 0 where
  pub low : r.mode < 8
  pub is : row ≡ mode_row_of r.mode
  pub kind : kind_of r.split ≡ kind_of_mode r.mode
  pub within : Within r

-- and with its anchors
pub record FullWith (r : Record) (row : ModeRow) (a : Anchors) : Type 0 where
  pub full : Full r row
  pub anchors_are : a ≡ anchors_of r.split

-- what is asked for the pair of endpoints whose values start at `at`, and for the indexes of a set at its anchors
pub record PairAt (row : ModeRow) (at : ℕ) : Type 0 where
  pub of_mode_is : OfMode row
  pub inside : at + 8 ≤ 24
  pub even : at % 8 ≡ 0

pub record SetAt (a : Anchors) (w : ℕ) : Type 0 where
  pub width : IndexWidth w
  pub pixels : ArePixels a
