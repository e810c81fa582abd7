-- The record of a block, and packing.
-- Assumes nothing.
use Rattle.std.specs.Prelude.{ℕ, ◌+◌, ◌*◌, ◌/◌, ◌%◌, ◌^◌, ◌≡◌, Bool, not, List, [], ◌∷◌, eqb, ltb, length, get_or, replicate}
use Rattle.bc7_format.specs.declared.Place.{Place}
use Rattle.bc7_format.specs.declared.Place.TheVariants.{Lead, Value, PBit, Index}
use Rattle.record_rules.specs.declared.Record.{Record}
use Rattle.refusals.specs.Answers.{Answer}
use Rattle.bc7_format.specs.declared.Split.{Split}
use Rattle.bc7_format.specs.declared.Split.TheVariants.{Whole}
use Rattle.laws.specs.Refusals.{first, refuse}
use Rattle.laws.specs.Tables.{below, pick, table}
use Rattle.bc7_format.specs.Modes.{mode_of, kind_of_mode}
use Rattle.bc7_format.specs.Places.{block_of, opened, place_at, width, place_count}
use Rattle.bc7_format.specs.Splits.{anchors, index_mode, kind_of, partition, rotation, split_of}

-- the record of what stands at the places
unfoldable pub made : ℕ → Split → (Place → ℕ) → Record
made m s f = record {
  mode = m;
  split = s;
  endpoints = table 24 (λ i. f (Value (i % 4) (i / 4)));
  p = table 6 (λ k. f (PBit k));
  first = table 16 (λ q. f (Index 0 q));
  second = table 16 (λ q. f (Index 1 q));
}

-- what a record says of a place
unfoldable pub says : Record → Place → ℕ
says r (Lead k) = get_or (2 ^ r.mode ∷ partition r.split ∷ rotation r.split ∷ index_mode r.split ∷ []) k 0
says r (Value c e) = get_or r.endpoints (4 * e + c) 0
says r (PBit k) = get_or r.p k 0
says r (Index a q) = pick (eqb a 0) (get_or r.first q 0) (get_or r.second q 0)

-- what is answered
abbrev pub unpacked_as : ℕ → Record → Answer Record
unpacked_as n r = record { refusal = n; value = r }

abbrev pub packed_as : ℕ → List ℕ → Answer (List ℕ)
packed_as n bs = record { refusal = n; value = bs }

-- what stands beside a refusal of packing
abbrev pub zero_block : List ℕ
zero_block = replicate 16 0

abbrev pub zero_record : Record
zero_record = record {
  mode = 0;
  split = Whole;
  endpoints = replicate 24 0;
  p = replicate 6 0;
  first = replicate 16 0;
  second = replicate 16 0;
}

-- TAKING APART: a reserved block is refused with 1
unfoldable pub record_of : List ℕ → Record
record_of bs = made (mode_of bs) (split_of bs) (opened bs)

unfoldable pub taken_apart : List ℕ → Answer Record
taken_apart bs = pick (eqb (mode_of bs) 8) (unpacked_as 1 zero_record) (unpacked_as 0 (record_of bs))

-- does what stands at each place fit its width, where the pixels of `an` are anchors
unfoldable pub fits : ℕ → List ℕ → (Place → ℕ) → Bool
fits m an f = below place_count (λ i. ltb (f (place_at i)) (2 ^ width m an (place_at i)))

-- PACKING: the first refusal that applies. Where no pixel is an anchor every index has its full width; where the full widths
-- hold and the anchors' do not, an anchor's index has its top bit set
unfoldable pub pack_refusal : Record → ℕ
pack_refusal r =
    first (refuse 5 (ltb 7 r.mode) ∷
    refuse 5 (not (eqb (kind_of r.split) (kind_of_mode r.mode))) ∷
    refuse 3 (not (fits r.mode [] (says r))) ∷
    refuse 6 (not (fits r.mode (anchors r.split) (says r))) ∷
    [])

unfoldable pub packed : Record → Answer (List ℕ)
packed r = packed_as (pack_refusal r) (pick (eqb (pack_refusal r) 0) (block_of r.mode r.split (says r)) (replicate 16 0))

-- a record's arrays have their lengths
pub record Shaped (r : Record) : Type 0 where
  pub endpoints : length r.endpoints ≡ 24
  pub p : length r.p ≡ 6
  pub first : length r.first ≡ 16
  pub second : length r.second ≡ 16
