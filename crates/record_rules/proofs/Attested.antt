-- WHAT HOLDS THE DEFINITIONS OF THE RECORD: whole records and their bytes, written out (format's Examples has what the blocks store, and
-- where).
-- Assumes nothing.
use mathlib.Core.Path.{◌≡◌, refl, ap}
use mathlib.Core.List.{List, [], ◌∷◌, map}
use Prim.Native.Nat.{ℕ, ◌+◌}
use lib.ListN.{drop, get_or, replicate, set}
use Rattle.record_rules.specs.declared.Record.{Record}
use Rattle.std.specs.Prelude.{Ok, Err}
use Rattle.refusals.specs.Answers.{Answer}
use Rattle.refusals.specs.declared.Refusal.TheVariants.{AnchorBitSet, ReservedBlock, ValueTooWide}
use Rattle.bc7_format.specs.declared.Split.{Split}
use Rattle.bc7_format.specs.declared.Split.TheVariants.{Whole, Two, Vector}
use Rattle.laws.specs.Refusals.{first}
use Rattle.laws.specs.Tables.{table, table_from}
use Rattle.laws.proofs.Tests.{eqb_of}
use Rattle.bcn_format.specs.Block.{bytes_of, number, trailing}
use Rattle.bc7_format.specs.Modes.{mode_of, endpoint_count, kind_of_mode, mode_row}
use Rattle.bcn_format.specs.Partitions.{anchors2, anchors3, digits, marks, strings2, strings3}
use Rattle.bc7_format.specs.Places.{at_place, block_of, list_of, opened, place_at, pos, width, widths}
use Rattle.bc7_format.specs.Splits.{split_at, split_of}
use Rattle.bc7_format.proofs.Examples.{block4, block7}
use Rattle.record_rules.specs.Records.{fits, made, pack_refusal, packed, record_of, says, taken_apart}
use Rattle.record_rules.specs.Wire.{bytes_refusal, packed_bytes, record_byte, record_bytes, record_of_bytes, spelt}
use Rattle.record_rules.specs.Promises.{Packs, PacksBytes, Unpacks, WritesRecord}

abbrev sixteen_zeros : List ℕ
sixteen_zeros = 0 ∷ 0 ∷ 0 ∷ 0 ∷ 0 ∷ 0 ∷ 0 ∷ 0 ∷ 0 ∷ 0 ∷ 0 ∷ 0 ∷ 0 ∷ 0 ∷ 0 ∷ 0 ∷ []

-- six endpoints of red, green, blue and alpha, of which a vector and its scalar share two
abbrev pub record4 : Record
record4 = record {
  mode = 4;
  split = Vector 2 1;
  endpoints = 1 ∷ 3 ∷ 5 ∷ 7 ∷ 2 ∷ 4 ∷ 6 ∷ 8 ∷ 0 ∷ 0 ∷ 0 ∷ 0 ∷ 0 ∷ 0 ∷ 0 ∷ 0 ∷ 0 ∷ 0 ∷ 0 ∷ 0 ∷ 0 ∷ 0 ∷ 0 ∷ 0 ∷ [];
  p = 0 ∷ 0 ∷ 0 ∷ 0 ∷ 0 ∷ 0 ∷ [];
  first = 1 ∷ 2 ∷ 3 ∷ 0 ∷ 1 ∷ 2 ∷ 3 ∷ 0 ∷ 1 ∷ 2 ∷ 3 ∷ 0 ∷ 1 ∷ 2 ∷ 3 ∷ 0 ∷ [];
  second = 3 ∷ 4 ∷ 5 ∷ 6 ∷ 7 ∷ 0 ∷ 1 ∷ 2 ∷ 3 ∷ 4 ∷ 5 ∷ 6 ∷ 7 ∷ 0 ∷ 1 ∷ 2 ∷ [];
}

abbrev indexes7 : List ℕ
indexes7 = 1 ∷ 2 ∷ 3 ∷ 0 ∷ 1 ∷ 2 ∷ 3 ∷ 0 ∷ 0 ∷ 3 ∷ 2 ∷ 1 ∷ 0 ∷ 3 ∷ 2 ∷ 1 ∷ []

abbrev last_one : List ℕ
last_one = 0 ∷ 0 ∷ 0 ∷ 0 ∷ 0 ∷ 0 ∷ 0 ∷ 0 ∷ 0 ∷ 0 ∷ 0 ∷ 0 ∷ 0 ∷ 0 ∷ 0 ∷ 1 ∷ []

abbrev top_set : List ℕ
top_set = 1 ∷ 2 ∷ 3 ∷ 0 ∷ 1 ∷ 2 ∷ 3 ∷ 0 ∷ 0 ∷ 3 ∷ 2 ∷ 1 ∷ 0 ∷ 3 ∷ 2 ∷ 2 ∷ []

-- a record of mode 7 whose split, first value and indexes are given
abbrev like7 : Split → ℕ → List ℕ → List ℕ → Record
like7 s red is js = record {
  mode = 7;
  split = s;
  endpoints = red ∷ 2 ∷ 3 ∷ 4 ∷ 5 ∷ 6 ∷ 7 ∷ 8 ∷ 9 ∷ 10 ∷ 11 ∷ 12 ∷ 13 ∷ 14 ∷ 15 ∷ 16 ∷ 0 ∷ 0 ∷ 0 ∷ 0 ∷ 0 ∷ 0 ∷ 0 ∷ 0 ∷ [];
  p = 1 ∷ 0 ∷ 1 ∷ 1 ∷ 0 ∷ 0 ∷ [];
  first = is;
  second = js;
}

abbrev pub record7 : Record
record7 = like7 (Two 13) 1 indexes7 sixteen_zeros

-- a record of zeros in a mode; that of mode 0 is what a refusal answers beside its number
abbrev pub zeros_of : ℕ → Record
zeros_of m = record {
  mode = m;
  split = Whole;
  endpoints = 0 ∷ 0 ∷ 0 ∷ 0 ∷ 0 ∷ 0 ∷ 0 ∷ 0 ∷ 0 ∷ 0 ∷ 0 ∷ 0 ∷ 0 ∷ 0 ∷ 0 ∷ 0 ∷ 0 ∷ 0 ∷ 0 ∷ 0 ∷ 0 ∷ 0 ∷ 0 ∷ 0 ∷ [];
  p = 0 ∷ 0 ∷ 0 ∷ 0 ∷ 0 ∷ 0 ∷ [];
  first = sixteen_zeros;
  second = sixteen_zeros;
}

abbrev unpacked : ℕ → Record → Answer Record
unpacked n r = record { refusal = n; value = r }

abbrev block : ℕ → List ℕ → Answer (List ℕ)
block n bs = record { refusal = n; value = bs }

abbrev refused : ℕ → Answer (List ℕ)
refused n = block n sixteen_zeros

-- the records of two blocks; a reserved block is refused with 1
pub records_of_blocks : map taken_apart (block4 ∷ block7 ∷ sixteen_zeros ∷ []) ≡ unpacked 0 record4 ∷ unpacked 0 record7 ∷ unpacked 1 (zeros_of 0) ∷ []
unfolding taken_apart record_of made table table_from at_place opened place_at pos width widths trailing number mode_of split_at split_of mode_row kind_of_mode
    endpoint_count anchors2 anchors3 digits marks strings2 strings3
records_of_blocks = refl

-- the blocks of these records; refused are a mode above 7, a split of another kind, a red of six bits, a second index where there is
-- none, and the index 2 at the anchor 15, each with what follows it
pub blocks_of_records : map packed (record4 ∷ record7 ∷ zeros_of 8 ∷ like7 Whole 32 top_set last_one ∷ like7 (Two 13) 32 top_set last_one
    ∷ like7 (Two 13) 1 top_set last_one ∷ like7 (Two 13) 1 top_set sixteen_zeros ∷ [])
    ≡ block 0 block4 ∷ block 0 block7 ∷ refused 5 ∷ refused 5 ∷ refused 3 ∷ refused 3 ∷ refused 6 ∷ []
unfolding packed pack_refusal fits first says block_of list_of bytes_of table table_from place_at width widths mode_row kind_of_mode endpoint_count anchors2
    anchors3 digits marks strings2 strings3
blocks_of_records = refl

-- mode, the kind that is given, rotation, index mode; six endpoints; p bits; the first indexes; the second
abbrev pub bytes4 : ℕ → List ℕ
bytes4 kind =
    4 ∷ kind ∷ 2 ∷ 1 ∷
    1 ∷ 3 ∷ 5 ∷ 7 ∷ 2 ∷ 4 ∷ 6 ∷ 8 ∷ 0 ∷ 0 ∷ 0 ∷ 0 ∷ 0 ∷ 0 ∷ 0 ∷ 0 ∷ 0 ∷ 0 ∷ 0 ∷ 0 ∷ 0 ∷ 0 ∷ 0 ∷ 0 ∷
    0 ∷ 0 ∷ 0 ∷ 0 ∷ 0 ∷ 0 ∷
    1 ∷ 2 ∷ 3 ∷ 0 ∷ 1 ∷ 2 ∷ 3 ∷ 0 ∷ 1 ∷ 2 ∷ 3 ∷ 0 ∷ 1 ∷ 2 ∷ 3 ∷ 0 ∷
    3 ∷ 4 ∷ 5 ∷ 6 ∷ 7 ∷ 0 ∷ 1 ∷ 2 ∷ 3 ∷ 4 ∷ 5 ∷ 6 ∷ 7 ∷ 0 ∷ 1 ∷ 2 ∷
    []

-- mode, kind, partition, 0; the rest as above
abbrev pub bytes7 : List ℕ
bytes7 =
    7 ∷ 1 ∷ 13 ∷ 0 ∷
    1 ∷ 2 ∷ 3 ∷ 4 ∷ 5 ∷ 6 ∷ 7 ∷ 8 ∷ 9 ∷ 10 ∷ 11 ∷ 12 ∷ 13 ∷ 14 ∷ 15 ∷ 16 ∷ 0 ∷ 0 ∷ 0 ∷ 0 ∷ 0 ∷ 0 ∷ 0 ∷ 0 ∷
    1 ∷ 0 ∷ 1 ∷ 1 ∷ 0 ∷ 0 ∷
    1 ∷ 2 ∷ 3 ∷ 0 ∷ 1 ∷ 2 ∷ 3 ∷ 0 ∷ 0 ∷ 3 ∷ 2 ∷ 1 ∷ 0 ∷ 3 ∷ 2 ∷ 1 ∷
    0 ∷ 0 ∷ 0 ∷ 0 ∷ 0 ∷ 0 ∷ 0 ∷ 0 ∷ 0 ∷ 0 ∷ 0 ∷ 0 ∷ 0 ∷ 0 ∷ 0 ∷ 0 ∷
    []

-- bytes7 with this fourth byte, which two subsets haven't got, and the index 2 at the anchor 15
abbrev top_set7 : ℕ → List ℕ
top_set7 fourth = set (7 ∷ 1 ∷ 13 ∷ fourth ∷ drop 4 bytes7) 49 2

-- n numbers, each one more than the last
abbrev counting : ℕ → ℕ → List ℕ
counting from n = table n (λ i. from + i)

-- what 66 bytes say that count from 2 on
abbrev counted : Record
counted = record { mode = 2; split = Vector 4 5; endpoints = counting 6 24; p = counting 30 6; first = counting 36 16; second = counting 52 16 }

pub record Bytes : Type 0 where
  pub of_records : map record_bytes (record4 ∷ record7 ∷ zeros_of 0 ∷ counted ∷ []) ≡ bytes4 3 ∷ bytes7 ∷ replicate 66 0 ∷ counting 2 66 ∷ []
  pub to_records : map record_of_bytes (bytes4 3 ∷ bytes7 ∷ replicate 66 0 ∷ counting 2 66 ∷ []) ≡ record4 ∷ record7 ∷ zeros_of 0 ∷ counted ∷ []
  -- no split has a kind above 3, and two subsets have no index mode, which is looked at before the anchors
  pub to_blocks : map packed_bytes (bytes7 ∷ bytes4 3 ∷ bytes4 0 ∷ bytes4 4 ∷ bytes4 255 ∷ (7 ∷ 1 ∷ 13 ∷ 1 ∷ drop 4 bytes7) ∷ top_set7 1
      ∷ top_set7 0 ∷ [])
      ≡ block 0 block7 ∷ block 0 block4 ∷ refused 5 ∷ refused 5 ∷ refused 5 ∷ refused 3 ∷ refused 3 ∷ refused 6 ∷ []

pub bytes_hold : Bytes
unfolding record_byte record_bytes record_of_bytes packed_bytes bytes_refusal spelt packed pack_refusal fits first says block_of list_of bytes_of table
    table_from place_at width widths mode_row kind_of_mode endpoint_count anchors2 digits marks strings2
bytes_hold = record { of_records = refl; to_records = refl; to_blocks = refl }

-- THE PROMISES: of each call an accepted answer, a refused one where it refuses, and one that it does not admit: the record of another block,
-- 6 where a red is too wide, a kind that isn't the record's, 6 where the fourth byte isn't 0
pub record Promised : Type 0 where
  pub unpacks : Unpacks block7 (Ok record7)
  pub unpacks_not : Unpacks sixteen_zeros (Err ReservedBlock)
  pub no_other_record : Unpacks block7 (Ok record4) → ⊥
  pub packs : Packs record7 (Ok block7)
  pub packs_not : Packs (like7 (Two 13) 32 top_set sixteen_zeros) (Err ValueTooWide)
  pub no_6_before_3 : Packs (like7 (Two 13) 32 top_set sixteen_zeros) (Err AnchorBitSet) → ⊥
  pub writes_record : WritesRecord record4 (bytes4 3)
  pub no_other_kind : WritesRecord record4 (bytes4 1) → ⊥
  pub packs_bytes : PacksBytes bytes7 (Ok block7)
  pub packs_bytes_not : PacksBytes (top_set7 1) (Err ValueTooWide)
  pub no_6_before_3_of_bytes : PacksBytes (top_set7 1) (Err AnchorBitSet) → ⊥

pub promises_hold : Promised
unfolding taken_apart record_of made table table_from at_place opened place_at pos width widths trailing number mode_of split_at split_of mode_row kind_of_mode
    endpoint_count anchors2 anchors3 digits marks strings2 strings3 packed pack_refusal fits first says block_of list_of bytes_of
    record_byte record_bytes record_of_bytes packed_bytes bytes_refusal spelt
promises_hold = record {
  unpacks = refl;
  unpacks_not = refl;
  no_other_record = λ e. eqb_of _ _ (ap (λ (a : Answer Record). a.value.mode) e);
  packs = refl;
  packs_not = refl;
  no_6_before_3 = λ e. eqb_of _ _ (ap (λ (a : Answer (List ℕ)). a.refusal) e);
  writes_record = refl;
  no_other_kind = λ e. eqb_of _ _ (ap (λ (l : List ℕ). get_or l 1 0) e);
  packs_bytes = refl;
  packs_bytes_not = refl;
  no_6_before_3_of_bytes = λ e. eqb_of _ _ (ap (λ (a : Answer (List ℕ)). a.refusal) e);
}
