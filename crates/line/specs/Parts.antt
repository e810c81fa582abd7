-- What the code holds of a line.
-- Assumes nothing.
use Rattle.std.specs.Prelude.{Bool, [], ◌∷◌, ℕ, ◌+◌, ◌-◌, ◌*◌, ◌%◌, ◌^◌, ◌<◌, ◌≤◌, eqb, ltb, get_or}
use Rattle.bc7_places.specs.declared.lines.Pixels.{Pixels}
use Rattle.bc7_places.specs.declared.lines.LinePart.{LinePart}
use Rattle.line.specs.declared.parts.StoredLine.{StoredLine}
use Rattle.line_rules.specs.declared.Replacement.{Replacement}
use Rattle.laws.specs.Digits.{join}
use Rattle.laws.specs.Tables.{below, both, pick, table}
use Rattle.bcn_format.specs.Block.{field}
use Rattle.bcn_format.specs.Indexes.{IndexWidth, index_widths}
use Rattle.bc7_places.specs.Lines.{own_pixel}

-- all ones at each of them, zeros at the others, in a word of parts of w bits
abbrev pub mask_of : Pixels → ℕ → ℕ
mask_of x w = join (index_widths w []) (table 16 (λ q. pick (own_pixel x q) (2 ^ w - 1) 0))

-- each part of a replacement is within the width of the part, at whichever pixel
unfoldable pub parts_fit : LinePart → Replacement → Bool
parts_fit x g =
    both (below 16 (λ q. ltb (get_or g.indexes q 0) (2 ^ x.index)))
    (both (below 2 (λ k. ltb (get_or g.p k 0) (2 ^ x.p)))
    (below 8 (λ i. ltb (get_or g.endpoints i 0) (2 ^ pick (eqb (i % 4) 3) x.alpha x.colour))))

-- a given line as it is stored: turned round where the index at the anchor has its top bit set
abbrev pub as_given : Replacement → ℕ → StoredLine
as_given g x = record { endpoints = g.endpoints; p = g.p; indexes = x }

abbrev pub turned_round : Replacement → ℕ → StoredLine
turned_round g x =
    let e : ℕ → ℕ = λ i. get_or g.endpoints i 0 in
    record {
      endpoints = e 4 ∷ e 5 ∷ e 6 ∷ e 7 ∷ e 0 ∷ e 1 ∷ e 2 ∷ e 3 ∷ [];
      p = get_or g.p 1 0 ∷ get_or g.p 0 0 ∷ [];
      indexes = x;
    }

unfoldable pub stored_as : LinePart → Replacement → ℕ → ℕ → StoredLine
stored_as part g x mask = pick (eqb (field x (part.anchor * part.index + (part.index - 1)) 1) 0) (as_given g x) (turned_round g (mask - x))

-- what is asked: of a line's pixels and its index width, of the widths of its parts, of a line that may have to be turned
pub record Masked (x : Pixels) (w : ℕ) : Type 0 where
  pub bits : x.subsets.bits ≤ 2
  pub width : w ≤ 4

pub record PartWidths (x : LinePart) : Type 0 where
  pub colour : x.colour ≤ 8
  pub alpha : x.alpha ≤ 8
  pub p : x.p ≤ 8
  pub index : x.index ≤ 8

pub record Turnable (x : LinePart) (indexes mask : ℕ) : Type 0 where
  pub width : IndexWidth x.index
  pub anchor : x.anchor < 16
  pub own : indexes ≤ mask
