-- WHAT HOLDS THE DEFINITION OF A CHART: charts written out whole. The first bits are those of the public pages (Chart of bc7_format).
-- Assumes nothing.
use mathlib.Core.Path.{◌≡◌, refl, ap}
use mathlib.Core.List.{List, [], ◌∷◌, ◌++◌, map}
use Prim.Native.Nat.{ℕ}
use Prim.Native.String.{String}
use lib.Dec.{leb→le}
use lib.ListN.{length, replicate}
use Rattle.bc7_format.specs.declared.Split.TheVariants.{Whole, Vector}
use Rattle.laws.specs.Refusals.{first}
use Rattle.laws.specs.Tables.{table, table_from}
use Rattle.laws.proofs.Tests.{eqb_of}
use Rattle.bcn_format.specs.Block.{number, trailing}
use Rattle.bcn_format.specs.Partitions.{anchors2, anchors3, marks, strings2, strings3}
use Rattle.bc7_format.specs.Modes.{mode_of, endpoint_count, kind_of_mode, mode_row}
use Rattle.bc7_format.specs.Places.{place_at, start, width, widths}
use Rattle.bc7_format.specs.Splits.{split_at, split_of}
use Rattle.bc7_format.proofs.Examples.{block0, block4}
use Rattle.laws.specs.Text.{ascii, decimal, digits_in, refused_text}
use Rattle.laws.proofs.Attested.{text}
use Rattle.std.specs.Prelude.{Option, Some, None}
use Rattle.refusals.specs.declared.Refusal.{Refusal}
use Rattle.refusals.specs.declared.Refusal.TheVariants.{ReservedBlock, WrongBlockBytes}
use Rattle.laws.specs.Padding.{padded}
use Rattle.chart_rules.specs.declared.Chart.{Chart}
use Rattle.chart_rules.specs.Charts.{Charted, ChartsWithin, chart, chart_refusal, field_text, place_text, places_text, text_most, text_room}
use Rattle.chart_rules.specs.Names.{name_of}

-- places of mode 6: the marker, no partition, red of the endpoints 0 to 2, of which there are two, the first index, which is the
-- anchor's, and the next; and the first of mode 4's second set
pub texts_of_places : map (place_text 6 Whole) (0 ∷ 1 ∷ 4 ∷ 5 ∷ 6 ∷ 34 ∷ 35 ∷ []) ++ map (place_text 4 (Vector 2 1)) (50 ∷ [])
    ≡ map text
    (("mode 0 7" ∷ []) ∷ [] ∷ ("red-0 7 7" ∷ []) ∷ ("red-1 14 7" ∷ []) ∷ [] ∷ ("index-0 65 3" ∷ []) ∷ ("index-1 68 4" ∷ []) ∷
    ("second-0 81 2" ∷ []) ∷ [])
unfolding text field_text name_of ascii decimal digits_in table table_from mode_row endpoint_count place_at width widths start
texts_of_places = refl

-- README's block C, and C corrected: mode 6
abbrev block_c : List ℕ
block_c = 0x40 ∷ 0xC0 ∷ 0x1F ∷ (replicate 5 0x00 ++ (0x0E ∷ replicate 7 0x00))

abbrev corrected : List ℕ
corrected = 0xC0 ∷ 0x3F ∷ (replicate 6 0x00 ++ (0xFE ∷ replicate 7 0xFF))

abbrev chart6 : List String
chart6 =
    "mode 0 7" ∷ "red-0 7 7" ∷ "red-1 14 7" ∷ "green-0 21 7" ∷ "green-1 28 7" ∷ "blue-0 35 7" ∷ "blue-1 42 7" ∷ "alpha-0 49 7" ∷ "alpha-1 56 7" ∷
    "p-0 63 1" ∷ "p-1 64 1" ∷
    "index-0 65 3" ∷ "index-1 68 4" ∷ "index-2 72 4" ∷ "index-3 76 4" ∷ "index-4 80 4" ∷ "index-5 84 4" ∷ "index-6 88 4" ∷ "index-7 92 4" ∷
    "index-8 96 4" ∷ "index-9 100 4" ∷ "index-10 104 4" ∷ "index-11 108 4" ∷ "index-12 112 4" ∷ "index-13 116 4" ∷ "index-14 120 4" ∷
    "index-15 124 4" ∷ []

pub chart_of_C : map chart (block_c ∷ corrected ∷ []) ≡ text chart6 ∷ text chart6 ∷ []
unfolding text chart chart_refusal places_text field_text name_of ascii decimal digits_in refused_text first table table_from trailing number mode_of mode_row
    kind_of_mode endpoint_count split_at split_of place_at width widths start anchors2 anchors3 marks strings2 strings3
chart_of_C = refl

-- mode 0 with partition 0, whose anchors are the pixels 0, 3 and 15
pub chart_of_mode_0 : chart block0
    ≡ text
    ("mode 0 1" ∷ "partition 1 4" ∷
    "red-0 5 4" ∷ "red-1 9 4" ∷ "red-2 13 4" ∷ "red-3 17 4" ∷ "red-4 21 4" ∷ "red-5 25 4" ∷
    "green-0 29 4" ∷ "green-1 33 4" ∷ "green-2 37 4" ∷ "green-3 41 4" ∷ "green-4 45 4" ∷ "green-5 49 4" ∷
    "blue-0 53 4" ∷ "blue-1 57 4" ∷ "blue-2 61 4" ∷ "blue-3 65 4" ∷ "blue-4 69 4" ∷ "blue-5 73 4" ∷
    "p-0 77 1" ∷ "p-1 78 1" ∷ "p-2 79 1" ∷ "p-3 80 1" ∷ "p-4 81 1" ∷ "p-5 82 1" ∷
    "index-0 83 2" ∷ "index-1 85 3" ∷ "index-2 88 3" ∷ "index-3 91 2" ∷ "index-4 93 3" ∷ "index-5 96 3" ∷ "index-6 99 3" ∷ "index-7 102 3" ∷
    "index-8 105 3" ∷ "index-9 108 3" ∷ "index-10 111 3" ∷ "index-11 114 3" ∷ "index-12 117 3" ∷ "index-13 120 3" ∷ "index-14 123 3" ∷
    "index-15 126 2" ∷ [])
unfolding text chart chart_refusal places_text field_text name_of ascii decimal digits_in refused_text first table table_from trailing number mode_of mode_row
    kind_of_mode endpoint_count split_at split_of place_at width widths start anchors2 anchors3 marks strings2 strings3
chart_of_mode_0 = refl

-- mode 4 with index mode 1: the 2-bit set is stored first all the same
abbrev chart4 : List String
chart4 =
    "mode 0 5" ∷ "rotation 5 2" ∷ "index-mode 7 1" ∷ "red-0 8 5" ∷ "red-1 13 5" ∷ "green-0 18 5" ∷ "green-1 23 5" ∷ "blue-0 28 5" ∷
    "blue-1 33 5" ∷ "alpha-0 38 6" ∷ "alpha-1 44 6" ∷
    "index-0 50 1" ∷ "index-1 51 2" ∷ "index-2 53 2" ∷ "index-3 55 2" ∷ "index-4 57 2" ∷ "index-5 59 2" ∷ "index-6 61 2" ∷ "index-7 63 2" ∷
    "index-8 65 2" ∷ "index-9 67 2" ∷ "index-10 69 2" ∷ "index-11 71 2" ∷ "index-12 73 2" ∷ "index-13 75 2" ∷ "index-14 77 2" ∷
    "index-15 79 2" ∷
    "second-0 81 2" ∷ "second-1 83 3" ∷ "second-2 86 3" ∷ "second-3 89 3" ∷ "second-4 92 3" ∷ "second-5 95 3" ∷ "second-6 98 3" ∷
    "second-7 101 3" ∷ "second-8 104 3" ∷ "second-9 107 3" ∷ "second-10 110 3" ∷ "second-11 113 3" ∷ "second-12 116 3" ∷ "second-13 119 3" ∷
    "second-14 122 3" ∷ "second-15 125 3" ∷ []

pub chart_of_mode_4 : chart block4 ≡ text chart4
unfolding text chart chart_refusal places_text field_text name_of ascii decimal digits_in refused_text first table table_from trailing number mode_of mode_row
    kind_of_mode endpoint_count split_at split_of place_at width widths start anchors2 anchors3 marks strings2 strings3
chart_of_mode_4 = refl

-- and no chart is longer
pub longest : length (text chart4) ≡ text_most
unfolding text ascii
longest = refl

-- no bytes, fifteen zeros and seventeen, and C with a byte more: 10 comes first; sixteen zeros: 1
pub charts_refused : map chart ([] ∷ replicate 15 0 ∷ replicate 17 0 ∷ (block_c ++ (0 ∷ [])) ∷ replicate 16 0 ∷ [])
    ≡ map text (("refused 10" ∷ []) ∷ ("refused 10" ∷ []) ∷ ("refused 10" ∷ []) ∷ ("refused 10" ∷ []) ∷ ("refused 1" ∷ []) ∷ [])
unfolding text chart chart_refusal ascii decimal digits_in refused_text first trailing mode_of
charts_refused = refl

-- THE PROMISE: a chart, a refusal, and an answer that it does not admit: the length's number for a reserved block
abbrev printed : Option Refusal → List ℕ → Chart
printed r t = record { refusal = r; length = length t; text = padded text_room t }

pub record Promised : Type 0 where
  pub charts : ChartsWithin block_c (printed None (text chart6))
  pub charts_not : ChartsWithin (replicate 16 0) (printed (Some ReservedBlock) (text ("refused 1" ∷ [])))
  pub no_10_for_1 : ChartsWithin (replicate 16 0) (printed (Some WrongBlockBytes) (text ("refused 10" ∷ []))) → ⊥

pub promises_hold : Promised
unfolding text chart chart_refusal places_text field_text name_of ascii decimal digits_in refused_text first table table_from trailing number mode_of mode_row
    kind_of_mode endpoint_count split_at split_of place_at width widths start anchors2 anchors3 marks strings2 strings3
promises_hold = record {
  charts = record { is = refl; within = leb→le _ _ tt };
  charts_not = record { is = refl; within = leb→le _ _ tt };
  no_10_for_1 = λ e. eqb_of _ _ (ap (λ (c : Charted). c.refusal) e.is);
}
