-- WHAT HOLDS THE DEFINITIONS OF IMPORT AND EXPORT: a sheet of 5 by 3 pixels and its file, byte by byte from Microsoft's guide and document
-- 02; each field changed; each refusal together with those that come after it.
-- Assumes nothing.
use mathlib.Core.Path.{◌≡◌, refl, ap, sym}
use mathlib.Core.List.{List, [], ◌∷◌, ◌++◌, map}
use Prim.Native.Nat.{ℕ, ◌*◌}
use lib.ListN.{drop, get_or, replicate, set, take}
use lib.Seq.{sets}
use Rattle.head_rules.specs.declared.ColourSpace.{ColourSpace}
use Rattle.head_rules.specs.declared.ColourSpace.TheVariants.{Unspecified, Linear, Srgb}
use Rattle.head_rules.specs.declared.Form.TheVariants.{Rows}
use Rattle.head_rules.specs.Answers.{Head}
use Rattle.head_rules.specs.declared.Head as heads
use Rattle.head_rules.specs.Colours.{colour_number, colour_of, colour_refusal}
use Rattle.head_rules.specs.Geometry.{blocks_of}
use Rattle.head_rules.specs.Heads.{colour_in, form_in, form_of, head_bytes, head_refusal_up_to, height_in, of_form_refusal_up_to, old_head, read_head_up_to}
use Rattle.head_rules.specs.Heads.{of_form_refusal_with, read_of_form_with}
use Rattle.head_rules.specs.Heads.{read_of_form_up_to, size_refusal_up_to, width_in}
use Rattle.head_rules.specs.Numbers.{groups, raised, read_groups, read_number}
use Rattle.laws.specs.Digits.{evenly}
use Rattle.laws.specs.Refusals.{first}
use Rattle.head_rules.specs.Whole.{whole_head, whole_refusal}
use Rattle.laws.specs.Tables.{table, table_from}
use Rattle.laws.proofs.Tests.{eqb_of}
use Rattle.std.specs.Prelude.{Result, Ok, Err}
use Rattle.refusals.specs.declared.Refusal.{Refusal}
use Rattle.refusals.specs.declared.Refusal.TheVariants.{BadNumber, WrongBlockBytes, WrongOutputLength, BadColourSpace}
use Rattle.dds_rules.specs.Lengths.{Length}
use Rattle.dds_rules.specs.Header.{alpha_mask, array_size, bit_count, blue_mask, canonical_header, caps, caps2, caps3, caps4, depth}
use Rattle.dds_rules.specs.Header.{dimension, entries, format, format_code, format_flags, format_of, format_says, format_size, green_mask}
use Rattle.dds_rules.specs.Header.{header_flags, header_number, header_size, height, is_texture, linear_size, magic, mip_count, misc, misc2}
use Rattle.dds_rules.specs.Header.{number_at, offset, red_mask, reserved, reserved2, width}
use Rattle.dds_rules.specs.Files.{export_after, export_length, export_refusal, file_made, sheet_head}
use Rattle.dds_rules.specs.Files.{file_refusal_up_to, head_made, import_after, import_after_up_to}
use Rattle.dds_rules.specs.Files.{import_answer, import_head, import_length, import_refusal, import_refusal_up_to, numbered_after, numbered_refusal}
use Rattle.dds_rules.specs.Files.{said, sheet_made}
use Rattle.dds_rules.specs.Promises.{ExportNeeds, Exports, ExportsNumbered, ImportNeeds, Imported, Imports}

abbrev zeros : ℕ → List ℕ
zeros n = replicate n 0

abbrev nines : ℕ → List ℕ
nines n = replicate n 9

abbrev head : ColourSpace → ℕ → ℕ → ℕ → Head
head c w h start = record { refusal = 0; form = Rows; width = w; height = h; start = start; colour_space = c }

abbrev no_head : ℕ → Head
no_head r = record { refusal = r; form = Rows; width = 0; height = 0; start = 0; colour_space = Unspecified }

-- a height beside a refusal
abbrev refused_beside : ℕ → ℕ → Head
refused_beside r h = record { refusal = r; form = Rows; width = 0; height = h; start = 0; colour_space = Unspecified }

abbrev three : List ColourSpace
three = Unspecified ∷ Linear ∷ Srgb ∷ []

-- a number below 256
abbrev small : ℕ → List ℕ
small n = n ∷ 0 ∷ 0 ∷ 0 ∷ []

-- the header of a sheet of 5 by 3 pixels: two blocks, 32 bytes; the height first
abbrev pub header53 : List ℕ
header53 =
    (0x44 ∷ 0x44 ∷ 0x53 ∷ 0x20 ∷ []) ++ small 124 ++ (0x07 ∷ 0x10 ∷ 0x08 ∷ 0x00 ∷ []) ++ small 3 ++ small 5 ++ small 32 ++ small 0 ++ small 1 ++
    zeros 44 ++
    small 32 ++ small 4 ++ (0x44 ∷ 0x58 ∷ 0x31 ∷ 0x30 ∷ []) ++ zeros 20 ++
    (0x00 ∷ 0x10 ∷ 0x00 ∷ 0x00 ∷ []) ++ zeros 16 ++
    small 98 ++ small 3 ++ small 0 ++ small 1 ++ small 0

-- the two blocks, no two bytes alike
abbrev blocks : List ℕ
blocks =
    1 ∷ 2 ∷ 3 ∷ 4 ∷ 5 ∷ 6 ∷ 7 ∷ 8 ∷ 9 ∷ 10 ∷ 11 ∷ 12 ∷ 13 ∷ 14 ∷ 15 ∷ 16 ∷
    17 ∷ 18 ∷ 19 ∷ 20 ∷ 21 ∷ 22 ∷ 23 ∷ 24 ∷ 25 ∷ 26 ∷ 27 ∷ 28 ∷ 29 ∷ 30 ∷ 31 ∷ 32 ∷
    []

abbrev pub sheet53 : List ℕ
sheet53 = 0x01 ∷ 0x05 ∷ 0x03 ∷ blocks

-- a sheet of 4,097 by 1, which a console of before doesn't take, and the first one in form 2
abbrev larger : List ℕ
larger = 0x01 ∷ 0x81 ∷ 0x20 ∷ 0x01 ∷ replicate 16400 0

abbrev tiled53 : List ℕ
tiled53 = 0x02 ∷ 0x05 ∷ 0x03 ∷ 0x00 ∷ blocks

abbrev pub file53 : List ℕ
file53 = header53 ++ blocks

-- the larger sheet as a file: a height of 1 and a width of 1001 hex
abbrev larger_file : List ℕ
larger_file = sets header53 12 (small 1 ++ (0x01 ∷ 0x10 ∷ 0x00 ∷ 0x00 ∷ [])) ++ replicate 16400 0

-- a byte of the file changed
abbrev but : ℕ → ℕ → List ℕ
but at byte = set file53 at byte

-- width and height of eight bytes, in a file that has a byte too many
abbrev sides : List ℕ → List ℕ
sides bs = sets file53 12 bs ++ (0 ∷ [])

-- a byte all over the fields that aren't looked at, and every bit but the cube flag's in the one of which a bit is
abbrev unnamed : ℕ → List ℕ
unnamed n =
    let a : List ℕ = sets (sets (sets file53 8 (replicate 4 n)) 20 (replicate 8 n)) 32 (replicate 44 n) in
    sets (sets (sets (sets a 80 (replicate 4 n)) 88 (replicate 40 n)) 144 (replicate 4 n)) 136 (0xFB ∷ 0xFF ∷ 0xFF ∷ 0xFF ∷ [])

-- a file or a sheet, the output's length, and the answer
pub record Claim : Type 0 where
  pub given : List ℕ
  pub room : ℕ
  pub answer : ℕ

abbrev call : List ℕ → ℕ → ℕ → Claim
call s room n = record { given = s; room = room; answer = n }

abbrev pub imports : List Claim
imports =
    call file53 35 0 ∷
    -- fewer than 148 bytes; 148, and no blocks
    call [] 35 15 ∷
    call (take 147 file53) 35 15 ∷
    call header53 35 10 ∷
    -- magic, both sizes and the code, each one below and one above, and with a high byte
    call (but 0 0x43) 35 15 ∷
    call (but 0 0x45) 35 15 ∷
    call (but 3 0x00) 35 15 ∷
    call (but 4 123) 35 15 ∷
    call (but 4 125) 35 15 ∷
    call (but 5 1) 35 15 ∷
    call (but 76 31) 35 15 ∷
    call (but 76 33) 35 15 ∷
    call (but 77 1) 35 15 ∷
    call (but 84 0x43) 35 15 ∷
    call (but 84 0x45) 35 15 ∷
    call (but 87 0x35) 35 15 ∷
    -- the format, from 97 to 100
    call (but 128 97) 35 15 ∷
    call (but 128 98) 35 0 ∷
    call (but 128 99) 35 0 ∷
    call (but 128 100) 35 15 ∷
    call (but 129 1) 35 15 ∷
    -- the dimension; the array size 0, 2, and 1 with a high byte
    call (but 132 2) 35 15 ∷
    call (but 132 4) 35 15 ∷
    call (but 133 1) 35 15 ∷
    call (but 140 0) 35 15 ∷
    call (but 140 2) 35 15 ∷
    call (but 143 1) 35 15 ∷
    -- the mip count 0, 2, 257
    call (but 28 0) 35 0 ∷
    call (but 28 2) 35 15 ∷
    call (but 29 1) 35 15 ∷
    -- the cube flag alone and among others, and all the others
    call (but 136 4) 35 15 ∷
    call (but 136 7) 35 15 ∷
    call (sets file53 136 (0xFB ∷ 0xFF ∷ 0xFF ∷ 0xFF ∷ [])) 35 0 ∷
    -- what is not looked at: flags 1007 and linear size 0, as nvcompress writes them; depth, reserved, flags of the pixel format, bit count,
    -- caps, misc 2
    call (set (but 10 0) 20 0) 35 0 ∷
    call (but 24 1) 35 0 ∷
    call (but 75 1) 35 0 ∷
    call (but 80 0) 35 0 ∷
    call (but 88 32) 35 0 ∷
    call (but 109 0) 35 0 ∷
    call (but 127 1) 35 0 ∷
    call (but 144 1) 35 0 ∷
    -- and all of that at once: zeros, nines, and all bits
    call (unnamed 0) 35 0 ∷
    call (unnamed 9) 35 0 ∷
    call (unnamed 0xFF) 35 0 ∷
    -- each is refused for what the next ones are refused for too
    call (set (sides (small 0 ++ small 5)) 140 0) 34 15 ∷
    call (sides (small 0 ++ small 5)) 34 9 ∷
    call (sides (small 3 ++ small 0)) 34 9 ∷
    call (sides (small 3 ++ (0x01 ∷ 0x40 ∷ 0 ∷ 0 ∷ []))) 34 9 ∷
    call (sides ((0x01 ∷ 0x40 ∷ 0 ∷ 0 ∷ []) ++ small 5)) 34 9 ∷
    call (sides (replicate 8 0xFF)) 34 9 ∷
    -- 65,539, which is 3 with a high byte
    call (sides ((0x03 ∷ 0x00 ∷ 0x01 ∷ 0x00 ∷ []) ++ small 5)) 34 9 ∷
    call (sides (0 ∷ 0 ∷ 1 ∷ 0 ∷ 0 ∷ 0 ∷ 1 ∷ 0 ∷ [])) 34 9 ∷
    call (sides ((0x00 ∷ 0x40 ∷ 0 ∷ 0 ∷ []) ++ (0x00 ∷ 0x40 ∷ 0 ∷ 0 ∷ []))) 34 10 ∷
    call (sides (small 3 ++ small 5)) 34 10 ∷
    call (take 179 file53) 34 10 ∷
    call file53 34 11 ∷
    call file53 36 11 ∷
    []

abbrev pub exports : List Claim
exports =
    call sheet53 180 0 ∷
    -- each is refused for what the next ones are refused for too
    call [] 181 7 ∷
    call (0x02 ∷ 0x00 ∷ 0x03 ∷ []) 181 8 ∷
    call (0x01 ∷ 0x00 ∷ 0x03 ∷ []) 181 9 ∷
    call (sheet53 ++ (0 ∷ [])) 181 10 ∷
    call (take 34 sheet53) 181 10 ∷
    call sheet53 181 11 ∷
    call sheet53 179 11 ∷
    []

-- a sheet, the number of its colour space, the output's length, and the answer: each is refused for what the next ones are refused for too,
-- 18 behind every 7 and 8 and before 9
pub record Numbered : Type 0 where
  pub given : List ℕ
  pub colour : ℕ
  pub room : ℕ
  pub answer : ℕ

abbrev asked : List ℕ → ℕ → ℕ → ℕ → Numbered
asked s c room n = record { given = s; colour = c; room = room; answer = n }

abbrev pub numbered : List Numbered
numbered =
    asked sheet53 0 180 0 ∷
    asked sheet53 2 180 0 ∷
    asked [] 3 181 7 ∷
    asked (0x02 ∷ 0x00 ∷ []) 3 181 8 ∷
    asked (0x01 ∷ 0x80 ∷ []) 3 181 7 ∷
    asked (0x01 ∷ 0x00 ∷ []) 3 181 7 ∷
    asked (0x01 ∷ 0x00 ∷ 0x03 ∷ []) 3 181 18 ∷
    asked (0x01 ∷ 0x00 ∷ 0x03 ∷ []) 2 181 9 ∷
    asked (sheet53 ++ (0 ∷ [])) 3 181 18 ∷
    asked (sheet53 ++ (0 ∷ [])) 2 181 10 ∷
    asked sheet53 3 181 18 ∷
    asked sheet53 3 180 18 ∷
    asked sheet53 256 180 18 ∷
    asked sheet53 2 181 11 ∷
    []

pub record Files : Type 0 where
  -- the fields by their numbers, four bytes each: those behind the eleven reserved ones start at 19
  pub in_order : map offset
      (magic ∷ header_size ∷ header_flags ∷ height ∷ width ∷ linear_size ∷ depth ∷ mip_count ∷ reserved ∷
      format_size ∷ format_flags ∷ format_code ∷ bit_count ∷ red_mask ∷ green_mask ∷ blue_mask ∷ alpha_mask ∷
      caps ∷ caps2 ∷ caps3 ∷ caps4 ∷ reserved2 ∷ format ∷ dimension ∷ misc ∷ array_size ∷ misc2 ∷ [])
      ≡ map (λ i. 4 * i)
      (0 ∷ 1 ∷ 2 ∷ 3 ∷ 4 ∷ 5 ∷ 6 ∷ 7 ∷ 8 ∷ 19 ∷ 20 ∷ 21 ∷ 22 ∷ 23 ∷ 24 ∷ 25 ∷ 26 ∷ 27 ∷ 28 ∷ 29 ∷ 30 ∷ 31 ∷ 32 ∷ 33 ∷ 34 ∷ 35 ∷ 36 ∷ [])
  -- 98, but 99 for sRGB; and what a format says
  pub headers : map (λ c. canonical_header (head c 5 3 3)) three ≡ header53 ∷ header53 ∷ set header53 128 99 ∷ []
  pub formats : map format_of three ≡ 98 ∷ 98 ∷ 99 ∷ []
  pub formats_say : map format_says (98 ∷ 99 ∷ []) ≡ Linear ∷ Srgb ∷ []
  pub colours_back : map said three ≡ Linear ∷ Linear ∷ Srgb ∷ []
  -- 300 by 4,096: 75 columns and 1,024 rows, 1,228,800 bytes
  pub header_sides : take 12 (drop 12 (canonical_header (head Linear 300 4096 5)))
      ≡ 0x00 ∷ 0x10 ∷ 0x00 ∷ 0x00 ∷ 0x2C ∷ 0x01 ∷ 0x00 ∷ 0x00 ∷ 0x00 ∷ 0xC0 ∷ 0x12 ∷ 0x00 ∷ []
  pub number_low_byte_first : number_at (9 ∷ 0x04 ∷ 0x03 ∷ 0x02 ∷ 0x81 ∷ 9 ∷ []) 1 ≡ 0x81020304
  pub imported : map (λ out. import_after file53 out) (nines 35 ∷ nines 34 ∷ []) ≡ sheet53 ∷ nines 34 ∷ []
  pub imported_srgb : import_after (but 128 99) (nines 35) ≡ sheet53
  pub exported : map (λ out. export_after (sheet_head sheet53) Unspecified sheet53 out) (nines 180 ∷ nines 181 ∷ []) ≡ file53 ∷ nines 181 ∷ []
  pub exported_under : map (λ c. export_after (sheet_head sheet53) c sheet53 (nines 180)) three ≡ file53 ∷ file53 ∷ but 128 99 ∷ []
  pub exported_numbered : map (λ n. numbered_after sheet53 n (nines 180)) (0 ∷ 1 ∷ 2 ∷ 3 ∷ []) ≡ file53 ∷ file53 ∷ but 128 99 ∷ nines 180 ∷ []
  -- the answer of an import: linear for 98, sRGB for 99, and nothing where it is refused, for the file or for the output's length
  pub answered : import_answer file53 35 ∷ import_answer (but 128 99) 35 ∷ import_answer (but 128 99) 34 ∷ import_answer (but 128 100) 35 ∷ []
      ≡ head Linear 5 3 3 ∷ head Srgb 5 3 3 ∷ no_head 11 ∷ no_head 15 ∷ []
  pub heads : import_head file53 ∷ import_head (but 128 99) ∷ whole_head (sheet_head sheet53) sheet53 ∷ import_head [] ∷ whole_head (sheet_head []) [] ∷ []
      ≡ head Linear 5 3 3 ∷ head Srgb 5 3 3 ∷ head Unspecified 5 3 3 ∷ no_head 15 ∷ no_head 7 ∷ []
  pub import_answers : map (λ c. import_refusal c.given c.room) imports ≡ map (λ c. c.answer) imports
  pub export_answers : map (λ c. export_refusal (sheet_head c.given) c.given c.room) exports ≡ map (λ c. c.answer) exports
  -- the larger map by every call; and by a console of before, which takes neither it nor form 2
  pub larger_taken : import_refusal larger_file 16404 ∷ export_refusal (sheet_head larger) larger 16548 ∷ numbered_refusal larger 2 16548 ∷ []
      ≡ 0 ∷ 0 ∷ 0 ∷ []
  pub larger_answered : import_answer larger_file 16404 ≡ head Linear 4097 1 4
  pub larger_imported : take 5 (import_after larger_file (nines 16404)) ≡ 0x01 ∷ 0x81 ∷ 0x20 ∷ 0x01 ∷ 0 ∷ []
  pub larger_lengths : import_length larger_file ∷ export_length larger ∷ []
      ≡ record { refusal = 0; length = 16404 } ∷ record { refusal = 0; length = 16548 } ∷ []
  pub not_exported_before : map (λ (s : List ℕ). export_refusal (old_head s) s 180) (sheet53 ∷ larger ∷ tiled53 ∷ []) ≡ 0 ∷ 9 ∷ 8 ∷ []
  pub left_before : map (λ (s : List ℕ). export_after (old_head s) Unspecified s (nines 180)) (sheet53 ∷ larger ∷ tiled53 ∷ [])
      ≡ file53 ∷ nines 180 ∷ nines 180 ∷ []
  pub numbered_answers : map (λ c. numbered_refusal c.given c.colour c.room) numbered ≡ map (λ c. c.answer) numbered
  pub lengths : import_length file53 ∷ import_length header53 ∷ export_length sheet53 ∷ export_length [] ∷ []
      ≡ record { refusal = 0; length = 35 } ∷ record { refusal = 10; length = 0 } ∷
      record { refusal = 0; length = 180 } ∷ record { refusal = 7; length = 0 } ∷ []

pub files_hold : Files
unfolding evenly table table_from first number_at entries header_number canonical_header is_texture head_made sheet_made file_refusal_up_to import_refusal_up_to
    import_after_up_to whole_refusal export_refusal file_made export_after import_length export_length import_head whole_head blocks_of
    size_refusal_up_to head_bytes groups read_of_form_up_to of_form_refusal_up_to colour_in form_of read_head_up_to head_refusal_up_to form_in width_in height_in
    read_number read_groups raised format_says import_answer numbered_refusal numbered_after colour_of colour_refusal
    read_of_form_with of_form_refusal_with
files_hold = record {
  in_order = refl;
  headers = refl;
  formats = refl;
  formats_say = refl;
  colours_back = refl;
  header_sides = refl;
  number_low_byte_first = refl;
  imported = refl;
  imported_srgb = refl;
  exported = refl;
  exported_under = refl;
  exported_numbered = refl;
  answered = refl;
  heads = refl;
  import_answers = refl;
  export_answers = refl;
  larger_taken = refl;
  larger_answered = refl;
  larger_imported = refl;
  larger_lengths = refl;
  not_exported_before = refl;
  left_before = refl;
  numbered_answers = refl;
  lengths = refl;
}

-- THE PROMISES: of each call an accepted answer, a refused one, and answers and bytes that it does not admit: the sides exchanged, another
-- colour space, another refusal, a head or a length beside one, another last byte, an output that a refused call touched
abbrev told : ColourSpace → ℕ → ℕ → ℕ → Result heads.Head Refusal
told c w h start = Ok (record { form = Rows; width = w; height = h; start = start; colour_space = c })

abbrev needs : ℕ → ℕ → Length
needs r n = record { refusal = r; length = n }

pub record Promised : Type 0 where
  pub imports_file : Imports file53 (nines 35) (told Linear 5 3 3) sheet53
  pub imports_file_not : Imports file53 (nines 34) (Err WrongOutputLength) (nines 34)
  pub no_other_side : Imports file53 (nines 35) (told Linear 3 5 3) sheet53 → ⊥
  pub no_other_colours : Imports file53 (nines 35) (told Srgb 5 3 3) sheet53 → ⊥
  pub no_other_block : Imports file53 (nines 35) (told Linear 5 3 3) (set sheet53 34 9) → ⊥
  pub no_head_refused : Imports file53 (nines 34) (told Linear 5 3 3) (nines 34) → ⊥
  pub no_sides_refused : Imported file53 (nines 34) (refused_beside 11 3) (nines 34) → ⊥
  pub no_sheet_refused : Imports file53 (nines 34) (Err WrongOutputLength) (set (nines 34) 33 32) → ⊥
  pub exports_sheet : Exports sheet53 Srgb (nines 180) (Ok tt) (but 128 99)
  pub exports_sheet_not : Exports sheet53 Srgb (nines 181) (Err WrongOutputLength) (nines 181)
  pub no_other_format : Exports sheet53 Srgb (nines 180) (Ok tt) file53 → ⊥
  pub no_other_number : Exports sheet53 Srgb (nines 180) (Err WrongOutputLength) (but 128 99) → ⊥
  pub no_file_refused : Exports sheet53 Srgb (nines 181) (Err WrongOutputLength) (set (nines 181) 180 32) → ⊥
  pub exports_numbered : ExportsNumbered sheet53 2 (nines 180) (Ok tt) (but 128 99)
  pub exports_numbered_not : ExportsNumbered sheet53 3 (nines 180) (Err BadColourSpace) (nines 180)
  pub no_format_of_another : ExportsNumbered sheet53 2 (nines 180) (Ok tt) file53 → ⊥
  pub no_number_let_through : ExportsNumbered sheet53 3 (nines 180) (Ok tt) (nines 180) → ⊥
  pub no_file_numbered : ExportsNumbered sheet53 3 (nines 180) (Err BadColourSpace) (set (nines 180) 179 32) → ⊥
  pub import_needs : ImportNeeds file53 (Ok 35)
  pub import_needs_not : ImportNeeds header53 (Err WrongBlockBytes)
  pub no_length_of_the_file : ImportNeeds file53 (Ok 180) → ⊥
  pub no_length_refused : import_length header53 ≡ needs 10 35 → ⊥
  pub no_length_let_through : ImportNeeds header53 (Ok 0) → ⊥
  pub export_needs : ExportNeeds sheet53 (Ok 180)
  pub export_needs_not : ExportNeeds [] (Err BadNumber)
  pub no_length_of_the_sheet : ExportNeeds sheet53 (Ok 35) → ⊥
  pub no_length_of_nothing : export_length [] ≡ needs 7 148 → ⊥
  pub no_nothing_let_through : ExportNeeds [] (Ok 0) → ⊥

pub promises_hold : Promised
unfolding evenly table table_from first number_at entries header_number canonical_header is_texture head_made sheet_made file_refusal_up_to import_refusal_up_to
    import_after_up_to whole_refusal export_refusal file_made export_after import_length export_length blocks_of size_refusal_up_to head_bytes groups
    read_of_form_up_to of_form_refusal_up_to colour_in form_of read_head_up_to head_refusal_up_to form_in width_in height_in read_number read_groups raised format_says
    import_answer numbered_refusal numbered_after colour_of colour_refusal read_of_form_with of_form_refusal_with
promises_hold = record {
  imports_file = (refl, refl);
  imports_file_not = (refl, refl);
  no_other_side = λ e. eqb_of _ _ (ap (λ (h : Head). h.width) e.0);
  no_other_colours = λ e. eqb_of _ _ (ap (λ (h : Head). colour_number h.colour_space) e.0);
  no_other_block = λ e. eqb_of _ _ (ap (λ (l : List ℕ). get_or l 34 0) e.1);
  no_head_refused = λ e. eqb_of _ _ (ap (λ (h : Head). h.refusal) e.0);
  no_sides_refused = λ e. eqb_of _ _ (ap (λ (h : Head). h.height) e.0);
  no_sheet_refused = λ e. eqb_of _ _ (ap (λ (l : List ℕ). get_or l 33 0) e.1);
  exports_sheet = (refl, refl);
  exports_sheet_not = (refl, refl);
  no_other_format = λ e. eqb_of _ _ (ap (λ (l : List ℕ). get_or l 128 0) e.1);
  no_other_number = λ e. eqb_of _ _ e.0;
  no_file_refused = λ e. eqb_of _ _ (ap (λ (l : List ℕ). get_or l 180 0) e.1);
  exports_numbered = (refl, refl);
  exports_numbered_not = (refl, refl);
  no_format_of_another = λ e. eqb_of _ _ (ap (λ (l : List ℕ). get_or l 128 0) e.1);
  no_number_let_through = λ e. eqb_of _ _ e.0;
  no_file_numbered = λ e. eqb_of _ _ (ap (λ (l : List ℕ). get_or l 179 0) e.1);
  import_needs = refl;
  import_needs_not = refl;
  no_length_of_the_file = λ e. eqb_of _ _ (ap (λ (n : Length). n.length) e);
  no_length_refused = λ e. eqb_of _ _ (sym (ap (λ (n : Length). n.length) e));
  no_length_let_through = λ e. eqb_of _ _ (ap (λ (n : Length). n.refusal) e);
  export_needs = refl;
  export_needs_not = refl;
  no_length_of_the_sheet = λ e. eqb_of _ _ (ap (λ (n : Length). n.length) e);
  no_length_of_nothing = λ e. eqb_of _ _ (sym (ap (λ (n : Length). n.length) e));
  no_nothing_let_through = λ e. eqb_of _ _ (ap (λ (n : Length). n.refusal) e);
}
