-- A line as code reads it.
-- Assumes nothing.
use Rattle.std.specs.Prelude.{List, [], ◌∷◌, ℕ, ◌+◌, ◌*◌, ◌≤◌, ◌<◌, eqb}
use Rattle.std.specs.Int.Bits.{bit_and}
use Rattle.line.specs.declared.reading.PerEndpoint.{PerEndpoint}
use Rattle.bits.specs.declared.stream.BitStream.{BitStream}
use Rattle.bc7_places.specs.declared.lines.LinePart.{LinePart}
use Rattle.line_rules.specs.declared.Replacement.{Replacement}
use Rattle.bc7_modes.specs.declared.ModeRow.{ModeRow}
use Rattle.laws.specs.Tables.{pick, table}
use Rattle.bcn_format.specs.Block.{field}
use Rattle.bits.specs.Stream.{held}
use Rattle.bcn_format.specs.Indexes.{IndexWidth, Rising, part}
use Rattle.bc7_modes.specs.Modes.{OfMode}
use Rattle.line.specs.Parts.{mask_of}
use Rattle.bc7_places.specs.Lines.{own_pixel}
use Rattle.line.specs.Fields.{fields_at, set_before, size_in}

-- two values of w bits from bit a on
abbrev pub two_at : ℕ → ℕ → ℕ → PerEndpoint
two_at n a w = record { first = field n a w; second = field n (a + w) w }

pub record PairThere (a w : ℕ) : Type 0 where
  pub start : a ≤ 112
  pub width : w ≤ 8

-- the p bits of line l
unfoldable pub ps_at : ℕ → ℕ → ℕ → ℕ → ℕ → PerEndpoint
ps_at n mode a l w = pick (eqb mode 1) (record { first = field n (a + l) 1; second = field n (a + l) 1 }) (two_at n (a + 2 * l) w)

pub record PBitsThere (a l w : ℕ) : Type 0 where
  pub start : a ≤ 100
  pub line : l < 3
  pub width : w ≤ 1

-- the indexes of the line, of its set as it stands
unfoldable pub set_at : ℕ → ℕ → ℕ → LinePart → List ℕ
set_at n k a x = table 16 (part (bit_and (set_before n k a x) (mask_of x.pixels x.index)) x.index)

pub record SetThere (k a : ℕ) (x : LinePart) : Type 0 where
  pub width : IndexWidth x.index
  pub rising : Rising k x.anchors.b x.anchors.c
  pub map : x.pixels.subsets.bits ≤ 2
  pub room : a + size_in k x ≤ 128

-- the line, of a stream that stands where the values start
abbrev pub endpoints_from : PerEndpoint → PerEndpoint → PerEndpoint → PerEndpoint → List ℕ
endpoints_from r g b a = r.first ∷ g.first ∷ b.first ∷ a.first ∷ r.second ∷ g.second ∷ b.second ∷ a.second ∷ []

unfoldable pub line_held : BitStream → ℕ → ModeRow → ℕ → LinePart → Replacement
line_held s mode row l x =
    let n = held s in
    let at = fields_at s row l x in
    let p = ps_at n mode at.p l x.p in
    record {
      endpoints =
          endpoints_from (two_at n at.red x.colour) (two_at n at.green x.colour) (two_at n at.blue x.colour)
          (two_at n at.alpha x.alpha);
      p = p.first ∷ p.second ∷ [];
      indexes = set_at n row.kind at.indexes x;
    }

pub record PartSmall (x : LinePart) : Type 0 where
  pub colour : x.colour ≤ 8
  pub alpha : x.alpha ≤ 8
  pub p : x.p ≤ 1
  pub map : x.pixels.subsets.bits ≤ 2
  pub index : x.index ≤ 4

pub record ReadReady (s : BitStream) (row : ModeRow) (l : ℕ) (x : LinePart) : Type 0 where
  pub mode_row_holds : OfMode row
  pub start : s.at ≤ 16
  pub line : l < 3
  pub red : PairThere (fields_at s row l x).red x.colour
  pub green : PairThere (fields_at s row l x).green x.colour
  pub blue : PairThere (fields_at s row l x).blue x.colour
  pub alpha : PairThere (fields_at s row l x).alpha x.alpha
  pub p : PBitsThere (fields_at s row l x).p l x.p
  pub set : SetThere row.kind (fields_at s row l x).indexes x

-- the widths of its parts
unfoldable pub widths_in : LinePart → Replacement
widths_in x = record {
  endpoints = x.colour ∷ x.colour ∷ x.colour ∷ x.alpha ∷ x.colour ∷ x.colour ∷ x.colour ∷ x.alpha ∷ [];
  p = x.p ∷ x.p ∷ [];
  indexes = table 16 (λ q. pick (own_pixel x.pixels q) x.index 0);
}
