-- The fields of a line in a number, as code replaces them.
-- Assumes nothing.
use Rattle.std.specs.Prelude.{◌≡◌, List, [], ℕ, ◌+◌, ◌-◌, ◌*◌, ◌^◌, ◌≤◌, ◌<◌, eqb, get_or}
use Rattle.std.specs.Int.Bits.{bit_and}
use Rattle.bits.specs.declared.stream.BitStream.{BitStream}
use Rattle.bc7_places.specs.declared.places.Fields.{Fields}
use Rattle.bc7_places.specs.declared.lines.LinePart.{LinePart}
use Rattle.line.specs.declared.parts.StoredLine.{StoredLine}
use Rattle.bc7_modes.specs.declared.ModeRow.{ModeRow}
use Rattle.laws.specs.Digits.{Fit, join, replaced_at, split}
use Rattle.laws.specs.Tables.{pick}
use Rattle.bcn_format.specs.Block.{field}
use Rattle.bits.specs.Stream.{held}
use Rattle.bcn_format.specs.Indexes.{IndexWidth, Rising, anchor_count, anchors_with, expanded, index_widths}
use Rattle.bc7_modes.specs.Modes.{OfMode}
use Rattle.bc7_places.specs.Places.{fields_of}

abbrev pub standing : BitStream → ℕ → BitStream
standing s a = record { low = s.low; high = s.high; at = a }

-- a word less what stood in it, and what is put in its place: both steps stay within a word
pub record Step (word old new : ℕ) : Type 0 where
  pub below : old ≤ word
  pub fits : word - old + new < 2 ^ 64

-- two values of w bits from bit a on
abbrev pub two_put : ℕ → ℕ → ℕ → ℕ → ℕ → ℕ
two_put n a w x y = replaced_at n a (2 * w) (y * 2 ^ w + x)

-- the pairs of the channels, then the p bits: in mode 1 one serves both endpoints
unfoldable pub endpoints_put : ℕ → Fields → LinePart → List ℕ → ℕ
endpoints_put n at x e =
    two_put (two_put (two_put (two_put n
    at.red x.colour (get_or e 0 0) (get_or e 4 0))
    at.green x.colour (get_or e 1 0) (get_or e 5 0))
    at.blue x.colour (get_or e 2 0) (get_or e 6 0))
    at.alpha x.alpha (get_or e 3 0) (get_or e 7 0)

unfoldable pub ps_put : ℕ → ℕ → ℕ → ℕ → ℕ → List ℕ → ℕ
ps_put n mode a l w p = pick (eqb mode 1) (replaced_at n (a + l) 1 (get_or p 0 0)) (two_put n (a + 2 * l) w (get_or p 0 0) (get_or p 1 0))

-- the set of indexes as it stands, with the line's own replaced, and put back as it is stored
abbrev pub anchors_in : ℕ → LinePart → List ℕ
anchors_in k x = anchors_with k x.anchors.b x.anchors.c

abbrev pub size_in : ℕ → LinePart → ℕ
size_in k x = 16 * x.index - anchor_count k

unfoldable pub set_before : ℕ → ℕ → ℕ → LinePart → ℕ
set_before n k a x = expanded x.index (anchors_in k x) (field n a (size_in k x))

abbrev pub set_after : ℕ → ℕ → ℕ → LinePart → ℕ → ℕ → ℕ
set_after n k a x mask new = set_before n k a x - bit_and (set_before n k a x) mask + new

unfoldable pub set_put : ℕ → ℕ → ℕ → LinePart → ℕ → ℕ → ℕ
set_put n k a x mask new =
    replaced_at n a (size_in k x) (join (index_widths x.index (anchors_in k x)) (split (index_widths x.index []) (set_after n k a x mask new)))

-- what that asks for
pub record SetReady (n k a : ℕ) (x : LinePart) (mask new : ℕ) : Type 0 where
  pub width : IndexWidth x.index
  pub rising : Rising k x.anchors.b x.anchors.c
  pub second : x.anchors.b < 16
  pub third : x.anchors.c < 16
  pub below : a < 128
  pub room : a + size_in k x ≤ 128
  pub small : set_after n k a x mask new < 2 ^ (16 * x.index)
  pub fits : Fit (index_widths x.index (anchors_in k x)) (split (index_widths x.index []) (set_after n k a x mask new))

-- the whole line
abbrev pub fields_at : BitStream → ModeRow → ℕ → LinePart → Fields
fields_at s row l x = fields_of row s.at l x.set

abbrev pub values_put : BitStream → ℕ → ModeRow → ℕ → LinePart → StoredLine → ℕ
values_put s mode row l x new = ps_put (endpoints_put (held s) (fields_at s row l x) x new.endpoints) mode (fields_at s row l x).p l x.p new.p

unfoldable pub line_put : BitStream → ℕ → ModeRow → ℕ → LinePart → ℕ → StoredLine → ℕ
line_put s mode row l x mask new = set_put (values_put s mode row l x new) row.kind (fields_at s row l x).indexes x mask new.indexes

-- a field of w bits at a that a number has room for, and a pair of them
pub record FieldReady (a w x : ℕ) : Type 0 where
  pub width : w < 64
  pub below : a < 128
  pub room : a + w ≤ 128
  pub fits : x < 2 ^ w

pub record PairReady (a w x y : ℕ) : Type 0 where
  pub width : w ≤ 8
  pub below : a < 128
  pub room : a + 2 * w ≤ 128
  pub first : x < 2 ^ w
  pub second : y < 2 ^ w

-- p bits of w bits at a, of line l
pub record PBitsReady (mode a l w : ℕ) (p : List ℕ) : Type 0 where
  pub start : a ≤ 100
  pub line : l < 3
  pub width : w ≤ 1
  pub first : get_or p 0 0 < 2 ^ w
  pub second : get_or p 1 0 < 2 ^ w
  pub there : mode ≡ 1 → w ≡ 1

pub record LineReady (s : BitStream) (mode : ℕ) (row : ModeRow) (l : ℕ) (x : LinePart) (mask : ℕ) (new : StoredLine) : Type 0 where
  pub mode_row_holds : OfMode row
  pub start : s.at ≤ 16
  pub line : l < 3
  pub red : PairReady (fields_at s row l x).red x.colour (get_or new.endpoints 0 0) (get_or new.endpoints 4 0)
  pub green : PairReady (fields_at s row l x).green x.colour (get_or new.endpoints 1 0) (get_or new.endpoints 5 0)
  pub blue : PairReady (fields_at s row l x).blue x.colour (get_or new.endpoints 2 0) (get_or new.endpoints 6 0)
  pub alpha : PairReady (fields_at s row l x).alpha x.alpha (get_or new.endpoints 3 0) (get_or new.endpoints 7 0)
  pub p : PBitsReady mode (fields_at s row l x).p l x.p new.p
  pub set : SetReady (values_put s mode row l x new) row.kind (fields_at s row l x).indexes x mask new.indexes
