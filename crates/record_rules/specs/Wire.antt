-- A record as bytes.
-- Assumes nothing.
use Rattle.std.specs.Prelude.{◌≡◌, Bool, not, true, ℕ, ◌+◌, ◌-◌, ◌≤◌, List, [], ◌∷◌, eqb, ltb, get_or, replicate}
use Rattle.record_rules.specs.declared.Record.{Record}
use Rattle.refusals.specs.Answers.{Answer}
use Rattle.bc7_format.specs.declared.Split.{Split}
use Rattle.bc7_format.specs.declared.Split.TheVariants.{Whole, Two, Three, Vector}
use Rattle.laws.specs.Refusals.{Rule, first, refuse, unless}
use Rattle.laws.specs.Tables.{both, pick, table}
use Rattle.bc7_format.specs.Modes.{kind_of_mode}
use Rattle.bc7_format.specs.Splits.{index_mode, kind_of, of_kind}
use Rattle.record_rules.specs.Answers.{TopsZero, Within}
use Rattle.record_rules.specs.Records.{pack_refusal, packed, packed_as}
use Rattle.bc7_format.specs.Places.{values_from, ps_from, first_from, second_from, place_count}

-- the partition or the rotation, whichever the split has
abbrev pub split_byte : Split → ℕ
split_byte Whole = 0
split_byte (Two a) = a
split_byte (Three a) = a
split_byte (Vector r i) = r

-- 66 bytes: four of the lead, 24 endpoint values, 6 p bits, 16 first and 16 second indexes
unfoldable pub record_byte : Record → ℕ → ℕ
record_byte r i =
    pick (ltb i values_from) (get_or (r.mode ∷ kind_of r.split ∷ split_byte r.split ∷ index_mode r.split ∷ []) i 0)
    (pick (ltb i ps_from) (get_or r.endpoints (i - values_from) 0)
    (pick (ltb i first_from) (get_or r.p (i - ps_from) 0)
    (pick (ltb i second_from) (get_or r.first (i - first_from) 0)
    (get_or r.second (i - second_from) 0))))

unfoldable pub record_bytes : Record → List ℕ
record_bytes r = table place_count (record_byte r)

-- n bytes from a place on
abbrev pub bytes_from : List ℕ → ℕ → ℕ → List ℕ
bytes_from bs at n = table n (λ i. get_or bs (at + i) 0)

-- the record that 66 bytes say
unfoldable pub record_of_bytes : List ℕ → Record
record_of_bytes bs = record {
  mode = get_or bs 0 0;
  split = of_kind (get_or bs 1 0) (get_or bs 2 0) (get_or bs 2 0) (get_or bs 3 0);
  endpoints = bytes_from bs values_from 24;
  p = bytes_from bs ps_from 6;
  first = bytes_from bs first_from 16;
  second = bytes_from bs second_from 16;
}

-- are the third and the fourth byte those of the split that they say: what its kind hasn't got is 0
unfoldable pub spelt : List ℕ → Bool
spelt bs = both (eqb (get_or bs 2 0) (split_byte (record_of_bytes bs).split)) (eqb (get_or bs 3 0) (index_mode (record_of_bytes bs).split))

-- packing those bytes: 5 also where a byte names no kind, 3 also where one says what the kind hasn't got, for that has width 0
unfoldable pub bytes_refusal : List ℕ → ℕ
bytes_refusal bs =
    let r = record_of_bytes bs in
    first (refuse 5 (ltb 3 (get_or bs 1 0)) ∷
    refuse 5 (ltb 7 r.mode) ∷
    refuse 5 (not (eqb (kind_of r.split) (kind_of_mode r.mode))) ∷
    refuse 3 (not (spelt bs)) ∷
    pack_refusal r ∷
    [])

unfoldable pub packed_bytes : List ℕ → Answer (List ℕ)
packed_bytes bs = packed_as (bytes_refusal bs) (pick (eqb (bytes_refusal bs) 0) (packed (record_of_bytes bs)).value (replicate 16 0))

-- the rules of packing bytes: they get the number of the first that they break
abbrev pub bytes_rules : List ℕ → List Rule
bytes_rules bs =
    let r = record_of_bytes bs in
    unless 5 (get_or bs 1 0 ≤ 3) ∷
    unless 5 (r.mode ≤ 7) ∷
    unless 5 (kind_of r.split ≡ kind_of_mode r.mode) ∷
    unless 3 (spelt bs ≡ true) ∷
    unless 3 (Within r) ∷
    unless 6 (TopsZero r) ∷
    []
