-- The sheet that a file makes, and the file that a sheet makes: their heads, their lengths and their blocks; and the way back.
-- Assumes nothing.
use mathlib.Core.Path.{◌≡◌, refl, ◌∙◌, ap, ap₂, sym}
use mathlib.Core.List.{List, ◌++◌}
use Prim.Native.Nat.{ℕ, ◌^◌, ◌<◌, ◌≤◌}
use native.Mathlib.Omega.{arith}
use lib.Dec.{lit<}
use lib.ListN.{length, drop, length-append, length-drop}
use lib.Seq.{drop-append_seam, drop_at}
use Rattle.head_rules.specs.declared.ColourSpace.{ColourSpace}
use Rattle.head_rules.specs.declared.ColourSpace.TheVariants.{Unspecified, Linear, Srgb}
use Rattle.head_rules.specs.Answers.{Head}
use Rattle.head_rules.specs.Geometry.{blocks_of, whole_length}
use Rattle.head_rules.specs.declared.Form.{Form}
use Rattle.head_rules.specs.declared.Form.TheVariants.{Rows}
use Rattle.head_rules.specs.Heads.{Sized, head_bytes, head_in, head_of, read_head, under}
use Rattle.head_rules.specs.Numbers.{Bytes}
use Rattle.head_rules.specs.Whole.{Whole}
use Rattle.head_rules.proofs.Theorems.{head_read_back, of_form_is, rows_one_form, rows_read_back, rows_sized}
use Rattle.head_rules.proofs.Writing.{few, one_byte}
use Rattle.dds_rules.specs.Header.{Texture, canonical_header, entries, field_in, format, format_of, format_says, header_length, header_number}
use Rattle.dds_rules.specs.Header.{height, width}
use Rattle.dds_rules.specs.Files.{file_length, file_made, head_made, said, sheet_head, sheet_made}
use Rattle.dds_rules.proofs.Refusing.{Taken}
use Rattle.dds_rules.proofs.Numbers.{header_long, number_back}

-- a head has seven bytes at the most
pub head_short : (w h : ℕ) → length (head_bytes w h) ≤ 7
unfolding head_bytes
head_short w h = simp length-append (omega (arith, one_byte, few 3 w, few 3 h))

-- the format that is written is one of the two, and says what `said` does
format_one : (c : ColourSpace) → (98 ≤ format_of c) × (format_of c ≤ 99)
format_one Unspecified = (omega arith, omega arith)
format_one Linear = (omega arith, omega arith)
format_one Srgb = (omega arith, omega arith)

pub format_small : (c : ColourSpace) → format_of c < 2 ^ 32
format_small c = omega (arith, (format_one c).1)

format_said : (c : ColourSpace) → format_says (format_of c) ≡ said c
unfolding format_says
format_said Unspecified = refl
format_said Linear = refl
format_said Srgb = refl

-- THE SHEET OF A FILE
module _ (dds : List ℕ) where
  abbrev wide : ℕ
  wide = field_in dds width

  abbrev high : ℕ
  high = field_in dds height

  pub sheet_head_is : Sized wide high → sheet_head (sheet_made dds) ≡ under Unspecified (head_made dds)
  unfolding sheet_made head_made
  sheet_head_is z = rows_read_back wide high z (drop header_length dds)

  pub sheet_read : Sized wide high → read_head (sheet_made dds) ≡ under Unspecified (head_made dds)
  unfolding sheet_made head_made
  sheet_read z = head_read_back wide high z (drop header_length dds)

  pub sheet_blocks : drop (head_made dds).start (sheet_made dds) ≡ drop header_length dds
  unfolding sheet_made head_made
  sheet_blocks = drop-append_seam (head_bytes wide high) (drop header_length dds)

  pub sheet_long : length dds ≡ file_length (head_made dds) → length (sheet_made dds) ≡ whole_length (head_made dds)
  unfolding sheet_made head_made
  sheet_long l = length-append (head_bytes wide high) (drop header_length dds) ∙ omega (arith, l, length-drop header_length dds)

  -- so it is a whole sheet
  pub sheet_whole : Taken dds → Whole (sheet_head (sheet_made dds)) (sheet_made dds)
  unfolding head_made blocks_of
  sheet_whole t = record {
    told = ap (λ (x : Head). x.refusal) (sheet_head_is t.size);
    long = sheet_long t.long ∙ ap (λ (x : Head). whole_length x) (sym (sheet_head_is t.size));
  }

  -- and its file has the header of its head, and the blocks of the first file
  pub file_again : Sized wide high → (c : ColourSpace)
      → file_made (sheet_head (sheet_made dds)) c (sheet_made dds) ≡ canonical_header (under c (head_made dds)) ++ drop header_length dds
  unfolding file_made
  file_again z c =
      ap (λ (x : Head). canonical_header (under c x) ++ drop x.start (sheet_made dds)) (sheet_head_is z)
      ∙ ap (λ (l : List ℕ). canonical_header (under c (head_made dds)) ++ l) sheet_blocks

-- THE FILE OF A SHEET
module _ (s : List ℕ) (y : Bytes s) (w : Whole (sheet_head s) s) (c : ColourSpace) where
  abbrev head : Head
  head = sheet_head s

  size : Sized head.width head.height
  size = rows_sized s w.told

  form_is : head.form ≡ Rows
  form_is = let q = of_form_is Rows s w.told in ap (λ (x : Head). x.form) q.0 ∙ q.1

  spelt : s ≡ head_bytes head.width head.height ++ drop head.start s
  spelt = rows_one_form s y w.told

  starts : head.start ≡ length (head_bytes head.width head.height)
  starts =
      let e = ap length spelt ∙ length-append (head_bytes head.width head.height) (drop head.start s) in
      omega (arith, e, length-drop head.start s, w.long)

  pub file_long : length (file_made (sheet_head s) c s) ≡ file_length head
  unfolding file_made
  file_long =
      length-append (canonical_header (under c head)) (drop head.start s)
      ∙ omega (arith, header_long (under c head), length-drop head.start s, w.long)

  -- the file's fields
  width_back : field_in (file_made (sheet_head s) c s) width ≡ head.width
  unfolding file_made header_number entries
  width_back = number_back (under c head) (drop head.start s) 4 (lit< tt) (omega (arith, size.within_wide))

  height_back : field_in (file_made (sheet_head s) c s) height ≡ head.height
  unfolding file_made header_number entries
  height_back = number_back (under c head) (drop head.start s) 3 (lit< tt) (omega (arith, size.within_high))

  format_back : field_in (file_made (sheet_head s) c s) format ≡ format_of c
  unfolding file_made header_number entries
  format_back = number_back (under c head) (drop head.start s) 32 (lit< tt) (format_small c)

  file_texture : Texture (file_made (sheet_head s) c s)
  unfolding file_made header_number entries
  file_texture =
      let back = number_back (under c head) (drop head.start s) in
      record {
        long = omega (arith, file_long);
        magic_is = back 0 (lit< tt) (lit< tt);
        header_size_is = back 1 (lit< tt) (lit< tt);
        format_size_is = back 19 (lit< tt) (lit< tt);
        code_is = back 21 (lit< tt) (lit< tt);
        format_from = rw format_back (format_one c).0;
        format_to = rw format_back (format_one c).1;
        dimension_is = back 33 (lit< tt) (lit< tt);
        array_size_is = back 35 (lit< tt) (lit< tt);
        few_levels = omega (arith, back 7 (lit< tt) (lit< tt));
        no_cube = rw (back 34 (lit< tt) (lit< tt));
      }

  -- its head is the first sheet's under what the format says, and its sheet is that sheet
  pub head_again : head_made (file_made (sheet_head s) c s) ≡ under (said c) head
  unfolding head_made
  head_again =
      ap₂ (λ (a b : ℕ). under (format_says (field_in (file_made (sheet_head s) c s) format)) (head_of 0 a b (length (head_bytes a b)))) width_back
      height_back
      ∙ ap (λ (k : ColourSpace). under k (head_of 0 head.width head.height (length (head_bytes head.width head.height))))
      (ap format_says format_back ∙ format_said c)
      ∙ ap₂ (λ (r n : ℕ). under (said c) (head_of r head.width head.height n)) (sym w.told) (sym starts)
      ∙ ap (λ (f : Form). head_in f (said c) head.refusal head.width head.height head.start) (sym form_is)

  pub file_taken : Taken (file_made (sheet_head s) c s)
  unfolding blocks_of
  file_taken = record {
    texture = file_texture;
    size = rw (width_back, height_back) size;
    long = file_long ∙ ap file_length (sym head_again);
  }

  pub sheet_again : sheet_made (file_made (sheet_head s) c s) ≡ s
  unfolding sheet_made file_made
  sheet_again =
      ap₂ (λ (b l : List ℕ). b ++ l) (ap₂ head_bytes width_back height_back)
      (drop_at (canonical_header (under c head)) (drop head.start s) header_length (header_long (under c head)))
      ∙ sym spelt
