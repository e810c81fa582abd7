-- What the code holds of a line: its pixels, its anchor, the set of its indexes, the widths of its parts.
-- Assumes nothing.
use Rattle.std.specs.Prelude.{◌≡◌, Bool, ℕ, ◌<◌, eqb}
use Rattle.bc7_places.specs.declared.lines.LinePart.{LinePart}
use Rattle.bc7_places.specs.declared.lines.Pixels.{Pixels}
use Rattle.bc7_modes.specs.declared.ModeRow.{ModeRow}
use Rattle.bc7_places.specs.declared.splits.Anchors.{Anchors}
use Rattle.bc7_format.specs.declared.Split.{Split}
use Rattle.bc7_format.specs.declared.Split.TheVariants.{Whole, Two, Three, Vector}
use Rattle.laws.specs.Tables.{pick}
use Rattle.bc7_format.specs.Splits.{kind_of, partition}
use Rattle.bc7_places.specs.Splits.{anchors_of, subset_in, subsets_of}

-- the pixels of line l: those of its subset, and all of a vector's and its scalar's
abbrev pub line_pixels : Split → ℕ → Pixels
line_pixels s l = record { subsets = subsets_of s; subset = pick (eqb (kind_of s) 3) 0 l }

-- is pixel q among them
unfoldable pub own_pixel : Pixels → ℕ → Bool
own_pixel x q = eqb (subset_in x.subsets q) x.subset

abbrev pub anchor_in : ℕ → ℕ → Pixels → Anchors → ℕ
anchor_in k l x an = pick (eqb l 0) 0 (pick (eqb k 3) 0 (pick (own_pixel x an.b) an.b an.c))

abbrev pub index_set_in : Split → ℕ → ℕ
index_set_in Whole l = 0
index_set_in (Two a) l = 0
index_set_in (Three a) l = 0
index_set_in (Vector r i) l = pick (eqb l i) 0 1

-- the parts of line l, by the row of the mode
abbrev pub part_of : ModeRow → Split → ℕ → LinePart
part_of row s l = record {
  colour = pick (eqb row.kind 3) (pick (eqb l 1) 0 row.colour) row.colour;
  alpha = pick (eqb row.kind 3) (pick (eqb l 0) 0 row.alpha) row.alpha;
  p = pick (eqb row.p 0) 0 1;
  index = pick (eqb (index_set_in s l) 0) row.first row.second;
  set = index_set_in s l;
  anchor = anchor_in row.kind l (line_pixels s l) (anchors_of s);
  pixels = line_pixels s l;
  anchors = anchors_of s;
}

-- a line of a block whose mode has this row
pub record OfLine (row : ModeRow) (s : Split) (l : ℕ) : Type 0 where
  pub kind : row.kind ≡ kind_of s
  pub partition : partition s < 64
