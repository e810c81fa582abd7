-- THE CHART IS WHERE THE READS STOOD: of the fields of a block, read one after the other, and of whatever is read where a place starts.
-- Assumes nothing.
use mathlib.Core.Path.{◌≡◌, refl, sym, ap}
use mathlib.Core.List.{List}
use Prim.Native.Nat.{ℕ, ◌<◌}
use lib.ListN.{get_or}
use Rattle.bits.specs.declared.stream.BitStream.{BitStream}
use Rattle.bits.specs.declared.stream.Read.{Read}
use Rattle.laws.specs.Digits.{Fit}
use Rattle.bcn_format.specs.Block.{eights, number}
use Rattle.bc7_format.specs.Modes.{mode_of}
use Rattle.bc7_format.specs.Places.{place_at, place_count, start, width, widths}
use Rattle.bc7_format.specs.Splits.{anchors, split_of}
use Rattle.bc7_format.proofs.Opening.{good_kind, good_partition, opened_good}
use Rattle.bits.specs.Stream.{Answer, On, accepted, reads_of, taken}
use Rattle.bits.proofs.On.{stood}
use Rattle.bc7_places.proofs.FieldsStood.{fields_stood}
use Rattle.chart_rules.specs.Charts.{field_text, place_text}

-- the read r is accepted, and the chart has its first bit for place i
pub record ReadAsCharted (bs : List ℕ) (i : ℕ) (r : Answer) : Type 0 where
  pub accepted : r.refusal ≡ 0
  pub charted : place_text (mode_of bs) (split_of bs) i ≡ field_text (place_at i) r.first (width (mode_of bs) (anchors (split_of bs)) (place_at i))

-- a read that started at the place's first bit
as_charted : (bs : List ℕ) (i : ℕ) {r : Answer} → r.refusal ≡ 0 → r.first ≡ start (mode_of bs) (split_of bs) i → ReadAsCharted bs i r
as_charted bs i accepted starts = record {
  accepted = accepted;
  charted = ap (λ (bit : ℕ). field_text (place_at i) bit (width (mode_of bs) (anchors (split_of bs)) (place_at i))) (sym starts);
}

-- the i-th field
pub read_where_charted : (bs : List ℕ) → Fit eights bs → mode_of bs < 8 → {b : BitStream} → On (number bs) 0 b → (none : Answer) (i : ℕ)
    → i < place_count → ReadAsCharted bs i (get_or (reads_of b (widths (mode_of bs) (split_of bs))) i none)
read_where_charted bs sixteen low o none i h =
    let g = opened_good bs sixteen low in
    let field = fields_stood (mode_of bs) (split_of bs) low (good_kind g) (good_partition g) o none i h in
    as_charted bs i field.accepted field.first

-- bits that are taken where place i starts, as many as its field has or those of the fields behind it too
pub taken_where_charted : (bs : List ℕ) (i w : ℕ) {t : BitStream} → On (number bs) (start (mode_of bs) (split_of bs) i) t → {r : Read}
    → r ≡ taken t w → ReadAsCharted bs i (accepted r)
taken_where_charted bs i w o e = as_charted bs i refl (stood o w e)
