-- What is written of a record, group by group.
-- Assumes nothing.
use Rattle.std.specs.Prelude.{◌≡◌, ℕ, ◌^◌, ◌<◌, ◌+◌, ◌-◌, ◌*◌, ◌≤◌, T, get_or, length, List}
use Rattle.bc7_format.specs.declared.Place.{Place}
use Rattle.record_rules.specs.declared.Record.{Record}
use Rattle.bc7_modes.specs.declared.ModeRow.{ModeRow}
use Rattle.bits.specs.declared.writer.BitWriter.{BitWriter}
use Rattle.laws.specs.Digits.{join, total, Fit}
use Rattle.laws.specs.Tables.{table}
use Rattle.bc7_format.specs.Modes.{kind_of_mode, channel_bits}
use Rattle.bc7_format.specs.Places.{inside, place_at, width, values_from}
use Rattle.bc7_format.specs.Splits.{anchors, kind_of}
use Rattle.bits.specs.Writer.{writer_of, written}
use Rattle.record_rules.specs.Records.{says}
use Rattle.bc7_modes.specs.Modes.{mode_row_of}
use Rattle.bc7_places.specs.declared.splits.Anchors.{Anchors}
use Rattle.bcn_format.specs.Indexes.{IndexWidth, Rising, anchor_count, anchors_with, index_widths}
use Rattle.bc7_places.specs.Splits.{ArePixels, anchors_of}

-- n values of vs, as many steps apart, that fit their width: those of a channel, or p bits
pub record Joinable (vs : List ℕ) (from step n w : ℕ) : Type 0 where
  pub count : n ≤ 6
  pub width : w ≤ 8
  pub inside : (k : ℕ) → k < n → step * k + from < length vs
  pub few : length vs ≤ 24
  pub values : (k : ℕ) → k < n → get_or vs (step * k + from) 0 < 2 ^ w

-- a set of indexes as it is stored: each at its width, and how many bits that makes
abbrev pub stored_set : ℕ → Anchors → ℕ → List ℕ → ℕ
stored_set kind a w indexes = join (index_widths w (anchors_with kind a.b a.c)) indexes

-- a record that packs, with the row of its mode: everything fits as it is stored
pub record Packable (r : Record) (row : ModeRow) : Type 0 where
  pub low : r.mode < 8
  pub is : row ≡ mode_row_of r.mode
  pub kind : kind_of r.split ≡ kind_of_mode r.mode
  pub fits : (x : Place) → T (inside x) → says r x < 2 ^ width r.mode (anchors r.split) x

-- the writer that holds the first i places of a record
abbrev pub wide : Record → ℕ → ℕ
wide r i = width r.mode (anchors r.split) (place_at i)

abbrev pub said_at : Record → ℕ → ℕ
said_at r i = says r (place_at i)

unfoldable pub upto : Record → ℕ → BitWriter
upto r i = writer_of (join (table i (wide r)) (table i (said_at r))) (total (table i (wide r)))

-- and the anchors of its split
pub record PackableWith (r : Record) (row : ModeRow) (a : Anchors) : Type 0 where
  pub packs : Packable r row
  pub anchors_are : a ≡ anchors_of r.split

-- what a channel asks for: its width, and the writer that holds what stands before it
pub record ChannelNext (r : Record) (c w : ℕ) (b : BitWriter) : Type 0 where
  pub channel : c < 4
  pub width_is : w ≡ channel_bits r.mode c
  pub before : b ≡ upto r (values_from + 6 * c)

-- what a set of indexes asks for: that they fit as they are stored, and that there is room
pub record SetNext (b : BitWriter) (kind : ℕ) (a : Anchors) (w : ℕ) (vs : List ℕ) : Type 0 where
  pub width : IndexWidth w
  pub pixels : ArePixels a
  pub rising : Rising kind a.b a.c
  pub fits : Fit (index_widths w (anchors_with kind a.b a.c)) vs
  pub room : b.at + (16 * w - anchor_count kind) ≤ 128
  pub holds : written b < 2 ^ b.at
