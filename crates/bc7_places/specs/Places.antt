-- Where the fields of a line start in the number of a block.
-- Assumes nothing.
use Rattle.std.specs.Prelude.{ℕ, ◌+◌, ◌-◌, ◌*◌, ◌<◌, ◌≤◌, eqb}
use Rattle.bc7_modes.specs.declared.ModeRow.{ModeRow}
use Rattle.bc7_places.specs.declared.places.Fields.{Fields}
use Rattle.laws.specs.Tables.{pick}
use Rattle.bc7_modes.specs.Modes.{OfMode}

-- where the fields of line l start, of a number whose values start at a
unfoldable pub fields_of : ModeRow → ℕ → ℕ → ℕ → Fields
fields_of row a l set =
    let pair = pick (eqb row.kind 3) 0 (2 * l) in
    let channel = row.endpoints * row.colour in
    let p = a + 3 * channel + row.endpoints * row.alpha in
    record {
      red = a + pair * row.colour;
      green = a + pair * row.colour + channel;
      blue = a + pair * row.colour + 2 * channel;
      alpha = a + 3 * channel + pair * row.alpha;
      p = p;
      indexes = pick (eqb set 0) (p + row.p) (p + row.p + (16 * row.first - 1));
    }

-- what is asked: a row of the table, and positions and a line that leave the sums small
pub record SetFrom (row : ModeRow) (first : ℕ) : Type 0 where
  pub of_mode_is : OfMode row
  pub within : first ≤ 200

pub record FieldsFrom (row : ModeRow) (at l : ℕ) : Type 0 where
  pub of_mode_is : OfMode row
  pub within : at ≤ 16
  pub line : l < 3

-- widths of bytes
pub record ByteWidths (c a : ℕ) : Type 0 where
  pub colour : c ≤ 8
  pub alpha : a ≤ 8
