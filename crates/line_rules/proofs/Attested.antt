-- WHAT HOLDS THE DEFINITIONS OF REPLACING AND READING A LINE: calls with the block that each leaves or the line that it answers,
-- written out (format's Examples has what the blocks store, and where); and the bytes of a replacement.
-- Assumes nothing.
use mathlib.Core.Path.{◌≡◌, refl, ap}
use mathlib.Core.List.{List, [], ◌∷◌, ◌++◌, map}
use Prim.Native.Nat.{ℕ, ◌+◌}
use lib.ListN.{get_or, replicate}
use Rattle.line_rules.specs.declared.Replacement.{Replacement}
use Rattle.line_rules.specs.declared.LineRead.{LineRead}
use Rattle.std.specs.Prelude.{Ok, Err}
use Rattle.refusals.specs.Answers.{Answer}
use Rattle.refusals.specs.declared.Refusal.TheVariants.{NoSuchLine}
use Rattle.laws.specs.Refusals.{first}
use Rattle.laws.specs.Tables.{table, table_from}
use Rattle.laws.specs.Calls.{run}
use Rattle.laws.proofs.Tests.{eqb_of}
use Rattle.bcn_format.specs.Block.{bytes_of, number, trailing}
use Rattle.bc7_format.specs.Modes.{mode_of, endpoint_count, kind_of_mode, mode_row}
use Rattle.bc7_format.specs.Lines.{anchor_of, index_set_of, has, index_place, laid, line_bits, line_of, own, p_place, turned, value_place, with_line}
use Rattle.bcn_format.specs.Partitions.{anchors2, anchors3, digits, marks, strings2, strings3, subset2, subset3}
use Rattle.bc7_format.specs.Places.{at_place, block_of, list_of, opened, place_at, pos, width, widths}
use Rattle.bc7_format.specs.Splits.{split_at, split_of}
use Rattle.bc7_format.proofs.Examples.{block4, block5, block7}
use Rattle.line_rules.specs.Calls.{after_all}
use Rattle.line_rules.specs.Read.{given_as, line_read, read_refusal, replacement_bytes, replacement_of, value_at, widths_of}
use Rattle.line_rules.specs.Replace.{after, call_of, index_fits, line_fits, line_given, oriented, own_width, p_fits, put, refusal, refusal_in}
use Rattle.line_rules.specs.Replace.{replaced, value_fits}
use Rattle.line_rules.specs.Promises.{ReadsLine, ReadsReplacement, Replaces, WritesReplacement}

-- two endpoints, of which the first has this red and this p; indexes at the pixels 8 to 15, of which 15 is the anchor, and one at pixel
-- 0, which is another line's
abbrev line7 : ℕ → ℕ → ℕ → ℕ → Replacement
line7 red p outside at_anchor = record {
  endpoints = red ∷ 30 ∷ 29 ∷ 28 ∷ 27 ∷ 26 ∷ 25 ∷ 24 ∷ [];
  p = p ∷ 0 ∷ [];
  indexes = outside ∷ (replicate 7 0 ++ (0 ∷ 1 ∷ 2 ∷ 3 ∷ 0 ∷ 1 ∷ 2 ∷ at_anchor ∷ []));
}

abbrev pub given7 : ℕ → Replacement
given7 at_anchor = line7 31 1 0 at_anchor

-- block7 with 31 30 29 28, p 1 and 27 26 25 24, p 0 as its endpoints 2 and 3, and the indexes 0 1 2 3 0 1 2 1 from pixel 8 on
abbrev pub after7 : List ℕ
after7 = 0x80 ∷ 0x4D ∷ 0x28 ∷ 0x7F ∷ 0x0B ∷ 0xE3 ∷ 0xF5 ∷ 0x38 ∷ 0x3D ∷ 0x13 ∷ 0xC4 ∷ 0x71 ∷ 0x75 ∷ 0x72 ∷ 0xC8 ∷ 0xC9 ∷ []

-- with 2 at the anchor: 27 26 25 24, p 0 and 31 30 29 28, p 1, and the indexes 3 2 1 0 3 2 1 1
abbrev pub turned7 : List ℕ
turned7 = 0x80 ∷ 0x4D ∷ 0x28 ∷ 0xFB ∷ 0x0B ∷ 0xA3 ∷ 0xFD ∷ 0x38 ∷ 0xB9 ∷ 0x13 ∷ 0x84 ∷ 0x79 ∷ 0x76 ∷ 0x72 ∷ 0x36 ∷ 0xB6 ∷ []

-- a vector whose anchor has its top bit set, with this alpha and this p, which are none of a vector's
abbrev line5 : ℕ → ℕ → Replacement
line5 alpha p = record {
  endpoints = 10 ∷ 20 ∷ 30 ∷ alpha ∷ 40 ∷ 50 ∷ 60 ∷ 0 ∷ [];
  p = p ∷ 0 ∷ [];
  indexes = 2 ∷ 3 ∷ 0 ∷ 1 ∷ 2 ∷ 3 ∷ 0 ∷ 1 ∷ 2 ∷ 3 ∷ 0 ∷ 1 ∷ 2 ∷ 3 ∷ 0 ∷ 1 ∷ [];
}

-- block5 with 40 50 60 and 10 20 30 as colours and the first indexes 1 0 3 2 and so on; alpha 4 and 8 and the second indexes stay
abbrev turned5 : List ℕ
turned5 = 0x20 ∷ 0x28 ∷ 0x85 ∷ 0x8C ∷ 0xC2 ∷ 0xF3 ∷ 0x10 ∷ 0x20 ∷ 0x64 ∷ 0x63 ∷ 0x63 ∷ 0x63 ∷ 0xE5 ∷ 0xE4 ∷ 0xE4 ∷ 0xE4 ∷ []

-- a block of mode 2 and partition 2, all else 0, whose line 1 has the pixels 7, 10, 11, 14 and 15, of which 15 is the anchor: with 3 there
-- 4 5 6 and 1 2 3 are stored, and the indexes 3 3 3 3 0
abbrev block2 : List ℕ
block2 = 0x14 ∷ replicate 15 0

abbrev given2 : Replacement
given2 = record { endpoints = 1 ∷ 2 ∷ 3 ∷ 0 ∷ 4 ∷ 5 ∷ 6 ∷ 0 ∷ []; p = 0 ∷ 0 ∷ []; indexes = replicate 15 0 ++ (3 ∷ []) }

abbrev turned2 : List ℕ
turned2 = 0x14 ∷ 0x00 ∷ 0x20 ∷ 0x01 ∷ 0x00 ∷ 0x00 ∷ 0x8A ∷ 0x00 ∷ 0x00 ∷ 0x00 ∷ 0x33 ∷ 0x00 ∷ 0x00 ∷ 0x00 ∷ 0xE3 ∷ 0x61 ∷ []

-- a block of mode 6, all else 0, and a line with equal endpoints whose pixel q has index q: they are stored all the same
abbrev block6 : List ℕ → List ℕ
block6 indexes = 0x40 ∷ (replicate 7 0 ++ indexes)

abbrev given6 : Replacement
given6 = record { endpoints = replicate 8 0; p = 0 ∷ 0 ∷ []; indexes = 0 ∷ 1 ∷ 2 ∷ 3 ∷ 4 ∷ 5 ∷ 6 ∷ 7 ∷ 8 ∷ 9 ∷ 10 ∷ 11 ∷ 12 ∷ 13 ∷ 14 ∷ 15 ∷ [] }

-- a block of mode 1, and a line of p 0 and 1 alone
abbrev block1 : List ℕ
block1 = 0x46 ∷ replicate 15 0

abbrev p01 : Replacement
p01 = record { endpoints = replicate 8 0; p = 0 ∷ 1 ∷ []; indexes = replicate 16 0 }

-- a call, the number that it is answered, and the block that it leaves
pub record Claim : Type 0 where
  pub block : List ℕ
  pub line : ℕ
  pub given : Replacement
  pub number : ℕ
  pub left : List ℕ

abbrev call : List ℕ → ℕ → Replacement → ℕ → List ℕ → Claim
call b l g n a = record { block = b; line = l; given = g; number = n; left = a }

abbrev pub claims : List Claim
claims =
    call block7 1 (given7 1) 0 after7 ∷
    call block7 1 (given7 2) 0 turned7 ∷
    call block5 0 (line5 0 0) 0 turned5 ∷
    call block2 1 given2 0 turned2 ∷
    call (block6 (replicate 8 0)) 0 given6 0 (block6 (0x10 ∷ 0x32 ∷ 0x54 ∷ 0x76 ∷ 0x98 ∷ 0xBA ∷ 0xDC ∷ 0xFE ∷ [])) ∷
    call (replicate 16 0) 2 (line7 32 1 0 1) 1 (replicate 16 0) ∷
    call block7 2 (line7 32 1 0 1) 2 block7 ∷
    call block7 1 (line7 32 1 0 1) 3 block7 ∷
    call block7 1 (line7 31 2 0 1) 3 block7 ∷
    call block7 1 (line7 31 1 1 1) 3 block7 ∷
    call block7 1 (line7 31 1 0 4) 3 block7 ∷
    call block5 0 (line5 1 0) 3 block5 ∷
    call block5 0 (line5 0 1) 3 block5 ∷
    call block1 0 p01 4 block1 ∷
    []

-- what reading a line answers: its number, the line, and how many bits each of its parts has
abbrev lines : Replacement → Replacement → LineRead
lines line widths = record { line = line; widths = widths }

abbrev reads : ℕ → Replacement → Replacement → Answer LineRead
reads n line widths = record { refusal = n; value = lines line widths }

abbrev parts : List ℕ → List ℕ → List ℕ → Replacement
parts ends p indexes = record { endpoints = ends; p = p; indexes = indexes }

abbrev nothing : Replacement
nothing = parts (replicate 8 0) (0 ∷ 0 ∷ []) (replicate 16 0)

-- each is answered so; and of two calls on a line the later decides
pub lines_replaced : (map (λ c. replaced c.block c.line c.given) claims ≡ map (λ c. record { refusal = c.number; value = c.left }) claims)
    × (after_all block7 (call_of 1 (given7 1) ∷ call_of 1 (given7 2) ∷ []) ≡ turned7)
unfolding run table table_from digits marks strings2 strings3 subset2 subset3 anchors2 anchors3 mode_row kind_of_mode endpoint_count place_at pos width
    widths trailing number mode_of split_at split_of at_place opened has value_place p_place index_set_of index_place line_bits line_of replaced after refusal
    refusal_in line_fits value_fits p_fits index_fits own_width line_given put oriented with_line laid turned anchor_of block_of list_of first bytes_of
lines_replaced = (refl, refl)

-- line 1 of block7, the lower half; line 1 of block4, its scalar, whose indexes are the first; no line 2, and none of a reserved block
pub lines_read : line_read block7 1 ∷ line_read block4 1 ∷ line_read block4 2 ∷ line_read (replicate 16 0) 2 ∷ []
    ≡ reads 0 (parts (9 ∷ 10 ∷ 11 ∷ 12 ∷ 13 ∷ 14 ∷ 15 ∷ 16 ∷ []) (1 ∷ 1 ∷ []) (replicate 8 0 ++ (0 ∷ 3 ∷ 2 ∷ 1 ∷ 0 ∷ 3 ∷ 2 ∷ 1 ∷ [])))
    (parts (replicate 8 5) (1 ∷ 1 ∷ []) (replicate 8 0 ++ replicate 8 2)) ∷
    reads 0 (parts (0 ∷ 0 ∷ 0 ∷ 7 ∷ 0 ∷ 0 ∷ 0 ∷ 8 ∷ []) (0 ∷ 0 ∷ []) (1 ∷ 2 ∷ 3 ∷ 0 ∷ 1 ∷ 2 ∷ 3 ∷ 0 ∷ 1 ∷ 2 ∷ 3 ∷ 0 ∷ 1 ∷ 2 ∷ 3 ∷ 0 ∷ []))
    (parts (0 ∷ 0 ∷ 0 ∷ 6 ∷ 0 ∷ 0 ∷ 0 ∷ 6 ∷ []) (0 ∷ 0 ∷ []) (replicate 16 2)) ∷
    reads 2 nothing nothing ∷
    reads 1 nothing nothing ∷
    []
unfolding first table table_from digits marks strings2 strings3 subset2 subset3 anchors2 anchors3 mode_row kind_of_mode endpoint_count place_at pos width
    widths trailing number mode_of split_at split_of at_place opened has value_place p_place index_set_of index_place own line_of own_width line_read read_refusal
    given_as widths_of
lines_read = refl

-- given7 1 as bytes: two endpoints, p bits, indexes
abbrev pub bytes_given : List ℕ
bytes_given = 31 ∷ 30 ∷ 29 ∷ 28 ∷ 27 ∷ 26 ∷ 25 ∷ 24 ∷ 1 ∷ 0 ∷ 0 ∷ 0 ∷ 0 ∷ 0 ∷ 0 ∷ 0 ∷ 0 ∷ 0 ∷ 0 ∷ 1 ∷ 2 ∷ 3 ∷ 0 ∷ 1 ∷ 2 ∷ 1 ∷ []

-- n numbers, each one more than the last
abbrev counting : ℕ → ℕ → List ℕ
counting from n = table n (λ i. from + i)

pub record Bytes : Type 0 where
  pub of_replacement : replacement_bytes (given7 1) ≡ bytes_given
  pub to_replacement : replacement_of bytes_given ≡ given7 1
  pub to_replacement_in_order : replacement_of (counting 0 26) ≡ record { endpoints = counting 0 8; p = 8 ∷ 9 ∷ []; indexes = counting 10 16 }

pub bytes_hold : Bytes
unfolding replacement_of replacement_bytes value_at table table_from
bytes_hold = record { of_replacement = refl; to_replacement = refl; to_replacement_in_order = refl }

-- THE PROMISES: of each call an accepted answer, a refused one where it refuses, and one that it does not admit: the block as it was, the
-- other line's first red, another index at the last pixel
abbrev line7_of : ℕ → Replacement
line7_of red = parts (red ∷ 10 ∷ 11 ∷ 12 ∷ 13 ∷ 14 ∷ 15 ∷ 16 ∷ []) (1 ∷ 1 ∷ []) (replicate 8 0 ++ (0 ∷ 3 ∷ 2 ∷ 1 ∷ 0 ∷ 3 ∷ 2 ∷ 1 ∷ []))

abbrev widths7 : Replacement
widths7 = parts (replicate 8 5) (1 ∷ 1 ∷ []) (replicate 8 0 ++ replicate 8 2)

pub record Promised : Type 0 where
  pub replaces : Replaces block7 1 (given7 1) (Ok after7)
  pub replaces_not : Replaces block7 2 (given7 1) (Err NoSuchLine)
  pub not_as_it_was : Replaces block7 1 (given7 1) (Ok block7) → ⊥
  pub reads_line : ReadsLine block7 1 (Ok (lines (line7_of 9) widths7))
  pub reads_line_not : ReadsLine block7 2 (Err NoSuchLine)
  pub not_the_other_line : ReadsLine block7 1 (Ok (lines (line7_of 1) widths7)) → ⊥
  pub reads_replacement : ReadsReplacement bytes_given (given7 1)
  pub no_other_replacement : ReadsReplacement bytes_given (given7 2) → ⊥
  pub writes_replacement : WritesReplacement (given7 1) bytes_given
  pub no_other_bytes : WritesReplacement (given7 2) bytes_given → ⊥

pub promises_hold : Promised
unfolding first table table_from digits marks strings2 strings3 subset2 subset3 anchors2 anchors3 mode_row kind_of_mode endpoint_count place_at pos width
    widths trailing number mode_of split_at split_of at_place opened has value_place p_place index_set_of index_place line_bits line_of replaced after refusal
    refusal_in line_fits value_fits p_fits index_fits own_width line_given put oriented with_line laid turned anchor_of block_of list_of bytes_of own
    line_read read_refusal given_as widths_of replacement_of replacement_bytes value_at
promises_hold = record {
  replaces = refl;
  replaces_not = refl;
  not_as_it_was = λ e. eqb_of _ _ (ap (λ (r : Answer (List ℕ)). get_or r.value 3 0) e);
  reads_line = refl;
  reads_line_not = refl;
  not_the_other_line = λ e. eqb_of _ _ (ap (λ (r : Answer LineRead). get_or r.value.line.endpoints 0 0) e);
  reads_replacement = refl;
  no_other_replacement = λ e. eqb_of _ _ (ap (λ (g : Replacement). get_or g.indexes 15 0) e);
  writes_replacement = refl;
  no_other_bytes = λ e. eqb_of _ _ (ap (λ (l : List ℕ). get_or l 25 0) e);
}
