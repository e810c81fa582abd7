-- The parts of a line have the widths that the format says of its places.
-- Assumes nothing.
use mathlib.Core.Path.{◌≡◌, refl, ◌∙◌}
use mathlib.Core.Bool.{Bool, true, false}
use Prim.Native.Nat.{ℕ, ◌≤◌, ◌<◌}
use native.Mathlib.Omega.{arith}
use lib.Dec.{eqb}
use Rattle.bc7_format.specs.declared.Place.{Place}
use Rattle.bc7_format.specs.declared.Split.{Split}
use Rattle.bc7_places.specs.declared.lines.LinePart.{LinePart}
use Rattle.bc7_modes.specs.declared.ModeRow.{ModeRow}
use Rattle.laws.specs.Tables.{pick}
use Rattle.bc7_format.specs.Lines.{anchor_of, index_set_of, index_place, line_bits, p_place, value_place}
use Rattle.bc7_format.specs.Modes.{kind_of_mode, lines, p_count}
use Rattle.bc7_format.specs.WellFormed.{WellFormed}
use Rattle.bc7_format.proofs.Meaning.{line_bits_is}
use Rattle.bc7_format.proofs.Modes.{anchor_lt, good_64, lines_le}
use Rattle.line_rules.specs.Acceptable.{OwnWidths}
use Rattle.line_rules.specs.Replace.{own_width}
use Rattle.line_rules.proofs.OwnWidths.{own_widths}
use Rattle.bc7_places.specs.Splits.{anchors_of}
use Rattle.bc7_modes.specs.Modes.{mode_row_of}
use Rattle.bc7_modes.proofs.Bounds.{small}
use Rattle.bc7_places.specs.Lines.{own_pixel, part_of}
use Rattle.bc7_places.proofs.lines.Parts.{anchored, bits_is, index_widths_is, sets, value_widths}
use Rattle.bc7_places.proofs.splits.SubsetMaps.{map_bits}

pub record IsPart (m : ℕ) (s : Split) (l : ℕ) (x : LinePart) : Type 0 where
  pub value : (k c : ℕ) → k < 2 → c < 4 → own_width m s l (value_place s l k c) ≡ pick (eqb c 3) x.alpha x.colour
  pub p : (k : ℕ) → k < 2 → own_width m s l (p_place m l k) ≡ x.p
  pub index : (q : ℕ) → q < 16 → own_width m s l (index_place s l q) ≡ pick (own_pixel x.pixels q) x.index 0
  pub bits : x.index ≡ line_bits m s l
  pub set : x.set ≡ index_set_of s l
  pub anchor : x.anchor ≡ anchor_of s l
  pub anchors : x.anchors ≡ anchors_of s
  pub map : x.pixels.subsets.bits ≤ 2
  pub colour_small : x.colour ≤ 8
  pub alpha_small : x.alpha ≤ 8
  pub p_small : x.p ≤ 1
  pub least : 2 ≤ x.index
  pub most : x.index ≤ 4
  pub anchor_small : x.anchor < 16

pick_le : (b : Bool) (x y n : ℕ) → x ≤ n → y ≤ n → pick b x y ≤ n
pick_le true x y n hx hy = hx
pick_le false x y n hx hy = hy

module _ {m : ℕ} {s : Split} {f : Place → ℕ} (g : WellFormed m s f) (l : ℕ) (hl : l < lines m) where
  ws : OwnWidths m s l
  ws = own_widths g l hl

  pub is_part : {row : ModeRow} {x : LinePart} → row ≡ mode_row_of m → x ≡ part_of row s l → IsPart m s l x
  is_part {row} {x} er ex =
      let sm = small {row = mode_row_of m} (record { mode = m; low = g.mode; is = refl }) in
      rw (ex, er) (record {
        value = λ k c hk hc. ws.value k c hk hc ∙ value_widths g l hl c;
        p = ws.p;
        index = λ q hq. ws.index q hq ∙ index_widths_is g l hl q hq;
        bits = bits_is g l hl;
        set = sets g l hl;
        anchor = anchored g l hl;
        anchors = refl;
        map = map_bits s;
        colour_small = pick_le (eqb (kind_of_mode m) 3) _ _ 8 (pick_le (eqb l 1) 0 _ 8 (omega arith) sm.colour) sm.colour;
        alpha_small = pick_le (eqb (kind_of_mode m) 3) _ _ 8 (pick_le (eqb l 0) 0 _ 8 (omega arith) sm.alpha) sm.alpha;
        p_small = pick_le (eqb (p_count m) 0) 0 1 1 (omega arith) (omega arith);
        least = rw (bits_is g l hl) (line_bits_is g l).0;
        most = rw (bits_is g l hl) (line_bits_is g l).1;
        anchor_small = rw (anchored g l hl) (anchor_lt s l (good_64 g) (omega (arith, lines_le m g.mode)));
      })
