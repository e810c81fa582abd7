-- The walk over the places: the texts of those that are passed, and the bit that is reached.
-- Assumes nothing.
use mathlib.Core.Path.{◌≡◌, refl, ap₂, sym, subst, ◌∙◌}
use mathlib.Core.List.{List}
use Prim.Native.Nat.{ℕ, suc, ◌+◌, ◌<◌, ◌≤◌}
use native.Mathlib.Numerals.{add-one}
use native.Mathlib.Omega.{arith}
use Rattle.bc7_format.specs.declared.Place.{Place}
use Rattle.bc7_format.specs.declared.Split.{Split}
use Rattle.laws.specs.Padding.{Written}
use Rattle.laws.proofs.Padding.{written_none, written_then}
use Rattle.bc7_format.specs.Places.{place_at, place_count, start, width}
use Rattle.bc7_format.specs.Splits.{partition}
use Rattle.bc7_format.proofs.Starts.{start_next}
use Rattle.bc7_places.specs.declared.splits.Anchors.{Anchors}
use Rattle.bc7_places.specs.Splits.{anchors_of, three_of}
use Rattle.bc7_modes.proofs.Bounds.{low_partition}
use Rattle.bc7_places.proofs.places.Widths.{three_wide}
use Rattle.text.specs.Puts.{Puts}
use Rattle.chart_rules.specs.Charts.{field_text, places_text, text_most, text_room}
use Rattle.chart_rules.proofs.Lengths.{some_texts}
use Rattle.chart_rules.proofs.Standing.{start_low, wide}
use Rattle.chart.specs.Asked.{SplitOfMode}

module _ (m : ℕ) (s : Split) (asked : SplitOfMode m s) where
  pub few : partition s < 64
  few = low_partition m (partition s) asked.low asked.few

  pub bit_low : (i : ℕ) → i ≤ place_count → start m s i ≤ 128
  bit_low = start_low m s asked.low asked.kind asked.few

module _ (m : ℕ) (s : Split) (out₀ : List ℕ) where
  -- so far, the first i places
  pub record Walked (i : ℕ) (out : List ℕ) (at bit : ℕ) : Type 0 where
    pub within : i ≤ place_count
    pub text : Written out₀ 0 (places_text m s i) out at
    pub stands : bit ≡ start m s i

  pub walked_none : Walked 0 out₀ 0 0
  unfolding places_text start
  walked_none = record { within = omega arith; text = written_none; stands = refl }

  module _ (asked : SplitOfMode m s) {i : ℕ} {out : List ℕ} {at bit : ℕ} (w : Walked i out at bit) where
    pub at_most : at ≤ text_most
    at_most = omega (arith, w.text.ends, some_texts m s asked.low asked.kind asked.few i w.within)

    -- all of them
    pub walked_all : place_count ≤ i → Puts text_room out₀ 0 (places_text m s place_count) out at
    walked_all h =
        let all : i ≡ place_count = omega (arith, w.within) in
        record { text = subst (λ (k : ℕ). Written out₀ 0 (places_text m s k) out at) all w.text; within = omega (arith, at_most) }

  -- the next place: its width by three anchors is its own, and its bits are there
  module _ (asked : SplitOfMode m s) {i : ℕ} (h : i < place_count) {out : List ℕ} {at bit w : ℕ} {an : Anchors} {x : Place}
      (so_far : Walked i out at bit) (ea : an ≡ anchors_of s) (ex : x ≡ place_at i) (ew : w ≡ width m (three_of an) x) where
    pub width_is : w ≡ wide m s i
    width_is = ew ∙ ap₂ (λ (a : Anchors) (y : Place). width m (three_of a) y) ea ex ∙ three_wide m s (few m s asked) (place_at i)

    pub next_is : bit + w ≡ start m s (suc i)
    next_is = let n = start_next m s i h in omega (arith, n, so_far.stands, width_is)

    pub next_low : bit + w ≤ 128
    next_low = omega (arith, next_is, bit_low m s asked (suc i) h)

    pub walked_more : {out' : List ℕ} {at' : ℕ} → Written out at (field_text x bit w) out' at' → Walked (i + 1) out' at' (bit + w)
    unfolding places_text
    walked_more {out'} {at'} wr =
        let e : i + 1 ≡ suc i = add-one i in
        subst (λ (k : ℕ). Walked k out' at' (bit + w)) (sym e) (record {
          within = h;
          text = written_then so_far.text (rw (ex, so_far.stands, width_is) at wr);
          stands = next_is;
        })
