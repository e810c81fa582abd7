-- Each promise to C admits one answer and one state of the bytes that were lent; and a refused call leaves them as they were.
-- Assumes nothing.
use Prim.Native.Nat.{ℕ, ◌<◌}
use mathlib.Core.Path.{◌≡◌, ◌∙◌, ap, sym}
use mathlib.Core.Logic.{◌≢◌}
use mathlib.Core.List.{List, []}
use borrow.Author.Tests.{eq-eqb, ne_eqb}
use lib.ListN.{get_or}
use Rattle.line_rules.specs.Replace.{call_of, replaced}
use Rattle.line_rules.proofs.Theorems.{refused_same}
use Rattle.line_rules.specs.Read.{replacement_of}
use Rattle.sheet_rules.proofs.Theorems.{refused_row_leaves, refused_sheet_leaves}
use Rattle.refusals.specs.Answers.{Answer}
use Rattle.pixel_rules.specs.Pixels.{pixel_read}
use Rattle.pixel_rules.proofs.Theorems.{pixel_accepted, pixel_of_the_sixteen}
use Rattle.head_rules.specs.declared.ColourSpace.TheVariants.{Unspecified}
use Rattle.dds_rules.specs.Files.{export_after, import_after_up_to, numbered_after, numbered_refusal}
use Rattle.move_rules.specs.Moving.{move_after}
use Rattle.move_rules.specs.Stating.{state_after}
use Rattle.sheet_rules.specs.SheetRows.{sheet_row_out}
use Rattle.rinchovek_rules.specs.Promises.{DecodesBc6h}
use Rattle.rinchovek_rules.specs.Promises.{Decodes, Determined, Gives, Packs, ReadsLine, Replaces, Unpacks, Versions, Writes, DecodesRow}
use Rattle.rinchovek_rules.specs.Promises.{ReadsHead, ReadsPixel, FindsExact, FindsNearest, ReplacesIn, TellsOpaque, WritesHead}
use Rattle.rinchovek_rules.specs.Promises.{CountsSheet, ReplacesBlockCounted, ReplacesLineCounted}
use Rattle.rinchovek_rules.specs.Promises.{MovesToRows, MovesToTiles, OpensSheet, ReadsBlock, ShowsRow, StatesColour}
use lib.Ieee.{Float}
use Rattle.float_rules.specs.Floats.{floats_after}
use Rattle.rinchovek_rules.specs.Promises.{FindsChannel, FloatsPixel, FloatsRow}
use Rattle.rinchovek_rules.specs.Promises.{ExportNeeds, ExportsColour, ExportsDds, ImportNeeds, ImportsColour, ImportsDds, ReadsColourHead}

one_given : {A : Type 0} (refusal : ℕ) (left : A) → Determined (Gives refusal left)
one_given refusal left a b x y p q = (p.answers ∙ sym q.answers, p.leaves ∙ sym q.leaves)

pub determined_version : (a b : ℕ) → Versions a → Versions b → a ≡ b
determined_version a b p q = p ∙ sym q

pub determined_bc7_decode_block : (block : List ℕ) (x y : List (List ℕ)) → Decodes block x → Decodes block y → x ≡ y
determined_bc7_decode_block block x y p q = p ∙ sym q

pub determined_bc6h_decode_block : (block : List ℕ) (sign : ℕ) (x y : List (List ℕ)) → DecodesBc6h block sign x → DecodesBc6h block sign y → x ≡ y
determined_bc6h_decode_block block sign x y p q = p ∙ sym q

-- every number but 0 is the same sign
pub any_sign_but_0 : (block : List ℕ) (s t : ℕ) (x : List (List ℕ)) → s ≢ 0 → t ≢ 0 → DecodesBc6h block s x → DecodesBc6h block t x
any_sign_but_0 block s t x hs ht p = rw (ne_eqb t 0 ht) (rw (ne_eqb s 0 hs) at p)

pub determined_bc7_unpack : (block before : List ℕ) → Determined (Unpacks block before)
determined_bc7_unpack block before = one_given _ _

pub determined_bc7_pack : (bytes before : List ℕ) → Determined (Packs bytes before)
determined_bc7_pack bytes before = one_given _ _

pub determined_bc7_read_line : (block : List ℕ) (line : ℕ) (before : List ℕ × List ℕ) → Determined (ReadsLine block line before)
determined_bc7_read_line block line before = one_given _ _

pub determined_bc7_replace_line : (block : List ℕ) (line : ℕ) (bytes : List ℕ) → Determined (Replaces block line bytes)
determined_bc7_replace_line block line bytes = one_given _ _

pub determined_bc7_nearest_index : (block : List ℕ) (line pixel : ℕ) (wanted : List ℕ) (before : ℕ)
    → Determined (FindsNearest block line pixel wanted before)
determined_bc7_nearest_index block line pixel wanted before = one_given _ _

pub determined_bc7_exact_index : (block : List ℕ) (line pixel : ℕ) (wanted : List ℕ) (before : ℕ)
    → Determined (FindsExact block line pixel wanted before)
determined_bc7_exact_index block line pixel wanted before = one_given _ _

pub determined_bc7_is_opaque : (block : List ℕ) (columns rows a b : ℕ) → TellsOpaque block columns rows a → TellsOpaque block columns rows b → a ≡ b
determined_bc7_is_opaque block columns rows a b p q = p ∙ sym q

pub determined_bc7_pixel : (block : List ℕ) (pixel : ℕ) (before : List ℕ) → Determined (ReadsPixel block pixel before)
determined_bc7_pixel block pixel before = one_given _ _

pub determined_sheet_open : (sheet before : List ℕ) → Determined (OpensSheet sheet before)
determined_sheet_open sheet before = one_given _ _

pub determined_sheet_read_head : (sheet before : List ℕ) → Determined (ReadsHead sheet before)
determined_sheet_read_head sheet before = one_given _ _

pub determined_sheet_read_colour_head : (sheet before : List ℕ) → Determined (ReadsColourHead sheet before)
determined_sheet_read_colour_head sheet before = one_given _ _

pub determined_sheet_write_head : (width height : ℕ) (before : List ℕ × ℕ) → Determined (WritesHead width height before)
determined_sheet_write_head width height before = one_given _ _

pub determined_sheet_decode_row : (width height row : ℕ) (blocks before : List ℕ) → Determined (DecodesRow width height row blocks before)
determined_sheet_decode_row width height row blocks before = one_given _ _

pub determined_sheet_show_row : (sheet : List ℕ) (row : ℕ) (before : List ℕ) → Determined (ShowsRow sheet row before)
determined_sheet_show_row sheet row before = one_given _ _

pub determined_sheet_block : (sheet : List ℕ) (block : ℕ) (before : List ℕ) → Determined (ReadsBlock sheet block before)
determined_sheet_block sheet block before = one_given _ _

pub determined_sheet_to_tiles : (sheet before : List ℕ) → Determined (MovesToTiles sheet before)
determined_sheet_to_tiles sheet before = one_given _ _

pub determined_sheet_to_rows : (sheet before : List ℕ) → Determined (MovesToRows sheet before)
determined_sheet_to_rows sheet before = one_given _ _

pub determined_sheet_state_colour : (sheet : List ℕ) (number : ℕ) → Determined (StatesColour sheet number)
determined_sheet_state_colour sheet number = one_given _ _

pub determined_sheet_replace_line : (sheet : List ℕ) (block line : ℕ) (bytes : List ℕ) → Determined (ReplacesIn sheet block line bytes)
determined_sheet_replace_line sheet block line bytes = one_given _ _

pub determined_sheet_count : (sheet before : List ℕ) → Determined (CountsSheet sheet before)
determined_sheet_count sheet before = one_given _ _

pub determined_sheet_replace_line_counted : (lent : List ℕ × List ℕ) (block line : ℕ) (bytes : List ℕ)
    → Determined (ReplacesLineCounted lent block line bytes)
determined_sheet_replace_line_counted lent block line bytes = one_given _ _

pub determined_sheet_replace_block_counted : (lent : List ℕ × List ℕ) (block : ℕ) (bytes : List ℕ)
    → Determined (ReplacesBlockCounted lent block bytes)
determined_sheet_replace_block_counted lent block bytes = one_given _ _

pub determined_dds_import : (dds before : List ℕ) → Determined (ImportsDds dds before)
determined_dds_import dds before = one_given _ _

pub determined_dds_export : (sheet before : List ℕ) → Determined (ExportsDds sheet before)
determined_dds_export sheet before = one_given _ _

pub determined_dds_import_colour : (dds : List ℕ) (before : List ℕ × List ℕ) → Determined (ImportsColour dds before)
determined_dds_import_colour dds before = one_given _ _

pub determined_dds_export_colour : (sheet : List ℕ) (number : ℕ) (before : List ℕ) → Determined (ExportsColour sheet number before)
determined_dds_export_colour sheet number before = one_given _ _

pub determined_dds_import_length : (dds : List ℕ) (before : ℕ) → Determined (ImportNeeds dds before)
determined_dds_import_length dds before = one_given _ _

pub determined_dds_export_length : (sheet : List ℕ) (before : ℕ) → Determined (ExportNeeds sheet before)
determined_dds_export_length sheet before = one_given _ _

pub determined_pixel_floats : (pixel : List ℕ) (x y : List Float) → FloatsPixel pixel x → FloatsPixel pixel y → x ≡ y
determined_pixel_floats pixel x y p q = p ∙ sym q

pub determined_float_channel : (bits before : ℕ) → Determined (FindsChannel bits before)
determined_float_channel bits before = one_given _ _

pub determined_row_floats : (pixels : List ℕ) (before : List Float) → Determined (FloatsRow pixels before)
determined_row_floats pixels before = one_given _ _

-- where the answer is not 0, what is left is what was
abbrev pub Leaves : {A : Type 0} → A → (ℕ → A → Type 0) → Type 0
Leaves {A} before promise = (answer : ℕ) (after : A) → promise answer after → answer ≢ 0 → after ≡ before

refused_leaves : {A : Type 0} (refusal : ℕ) (value before : A) → Leaves before (Writes refusal value before)
refused_leaves refusal value before answer after p ne = p.leaves ∙ rw (ne_eqb refusal 0 (λ e. ne (p.answers ∙ e)))

pub refused_bc7_unpack_leaves : (block before : List ℕ) → Leaves before (Unpacks block before)
refused_bc7_unpack_leaves block before = refused_leaves _ _ before

pub refused_bc7_pack_leaves : (bytes before : List ℕ) → Leaves before (Packs bytes before)
refused_bc7_pack_leaves bytes before = refused_leaves _ _ before

pub refused_bc7_read_line_leaves : (block : List ℕ) (line : ℕ) (before : List ℕ × List ℕ) → Leaves before (ReadsLine block line before)
refused_bc7_read_line_leaves block line before = refused_leaves _ _ before

pub refused_bc7_replace_line_leaves : (block : List ℕ) (line : ℕ) (bytes : List ℕ) → Leaves block (Replaces block line bytes)
unfolding replaced
refused_bc7_replace_line_leaves block line bytes answer after p ne =
    p.leaves ∙ refused_same block (call_of line (replacement_of bytes)) (λ e. ne (p.answers ∙ e))

pub refused_bc7_nearest_index_leaves : (block : List ℕ) (line pixel : ℕ) (wanted : List ℕ) (before : ℕ)
    → Leaves before (FindsNearest block line pixel wanted before)
refused_bc7_nearest_index_leaves block line pixel wanted before = refused_leaves _ _ before

pub refused_bc7_exact_index_leaves : (block : List ℕ) (line pixel : ℕ) (wanted : List ℕ) (before : ℕ)
    → Leaves before (FindsExact block line pixel wanted before)
refused_bc7_exact_index_leaves block line pixel wanted before = refused_leaves _ _ before

pub refused_bc7_pixel_leaves : (block : List ℕ) (pixel : ℕ) (before : List ℕ) → Leaves before (ReadsPixel block pixel before)
refused_bc7_pixel_leaves block pixel before = refused_leaves _ _ before

pub refused_sheet_open_leaves : (sheet before : List ℕ) → Leaves before (OpensSheet sheet before)
refused_sheet_open_leaves sheet before = refused_leaves _ _ before

pub refused_sheet_read_head_leaves : (sheet before : List ℕ) → Leaves before (ReadsHead sheet before)
refused_sheet_read_head_leaves sheet before = refused_leaves _ _ before

pub refused_sheet_read_colour_head_leaves : (sheet before : List ℕ) → Leaves before (ReadsColourHead sheet before)
refused_sheet_read_colour_head_leaves sheet before = refused_leaves _ _ before

pub refused_sheet_write_head_leaves : (width height : ℕ) (before : List ℕ × ℕ) → Leaves before (WritesHead width height before)
refused_sheet_write_head_leaves width height before = refused_leaves _ _ before

pub refused_sheet_decode_row_leaves : (width height row : ℕ) (blocks before : List ℕ) → Leaves before (DecodesRow width height row blocks before)
refused_sheet_decode_row_leaves width height row blocks before answer after p ne =
    refused_row_leaves width height row blocks before answer after (p.answers, p.leaves) ne

pub refused_sheet_show_row_leaves : (sheet : List ℕ) (row : ℕ) (before : List ℕ) → Leaves before (ShowsRow sheet row before)
unfolding sheet_row_out
refused_sheet_show_row_leaves sheet row before = refused_leaves _ _ before

pub refused_sheet_block_leaves : (sheet : List ℕ) (block : ℕ) (before : List ℕ) → Leaves before (ReadsBlock sheet block before)
refused_sheet_block_leaves sheet block before = refused_leaves _ _ before

pub refused_sheet_to_tiles_leaves : (sheet before : List ℕ) → Leaves before (MovesToTiles sheet before)
unfolding move_after
refused_sheet_to_tiles_leaves sheet before = refused_leaves _ _ before

pub refused_sheet_to_rows_leaves : (sheet before : List ℕ) → Leaves before (MovesToRows sheet before)
unfolding move_after
refused_sheet_to_rows_leaves sheet before = refused_leaves _ _ before

pub refused_sheet_state_colour_leaves : (sheet : List ℕ) (number : ℕ) → Leaves sheet (StatesColour sheet number)
unfolding state_after
refused_sheet_state_colour_leaves sheet number = refused_leaves _ _ sheet

pub refused_sheet_replace_line_leaves : (sheet : List ℕ) (block line : ℕ) (bytes : List ℕ) → Leaves sheet (ReplacesIn sheet block line bytes)
refused_sheet_replace_line_leaves sheet block line bytes answer after p ne =
    refused_sheet_leaves sheet (record { block = block; line = line; given = replacement_of bytes }) answer after (p.answers, p.leaves) ne

pub refused_sheet_count_leaves : (sheet before : List ℕ) → Leaves before (CountsSheet sheet before)
refused_sheet_count_leaves sheet before = refused_leaves _ _ before

pub refused_sheet_replace_line_counted_leaves : (lent : List ℕ × List ℕ) (block line : ℕ) (bytes : List ℕ)
    → Leaves lent (ReplacesLineCounted lent block line bytes)
refused_sheet_replace_line_counted_leaves lent block line bytes = refused_leaves _ _ lent

pub refused_sheet_replace_block_counted_leaves : (lent : List ℕ × List ℕ) (block : ℕ) (bytes : List ℕ)
    → Leaves lent (ReplacesBlockCounted lent block bytes)
refused_sheet_replace_block_counted_leaves lent block bytes = refused_leaves _ _ lent

pub refused_dds_import_leaves : (dds before : List ℕ) → Leaves before (ImportsDds dds before)
unfolding import_after_up_to
refused_dds_import_leaves dds before = refused_leaves _ _ before

pub refused_dds_export_leaves : (sheet before : List ℕ) → Leaves before (ExportsDds sheet before)
unfolding export_after
refused_dds_export_leaves sheet before = refused_leaves _ _ before

pub refused_dds_import_colour_leaves : (dds : List ℕ) (before : List ℕ × List ℕ) → Leaves before (ImportsColour dds before)
refused_dds_import_colour_leaves dds before = refused_leaves _ _ before

pub refused_dds_export_colour_leaves : (sheet : List ℕ) (number : ℕ) (before : List ℕ) → Leaves before (ExportsColour sheet number before)
unfolding numbered_refusal numbered_after export_after
refused_dds_export_colour_leaves sheet number before = refused_leaves _ _ before

pub refused_dds_import_length_leaves : (dds : List ℕ) (before : ℕ) → Leaves before (ImportNeeds dds before)
refused_dds_import_length_leaves dds before = refused_leaves _ _ before

pub refused_dds_export_length_leaves : (sheet : List ℕ) (before : ℕ) → Leaves before (ExportNeeds sheet before)
refused_dds_export_length_leaves sheet before = refused_leaves _ _ before

pub refused_float_channel_leaves : (bits before : ℕ) → Leaves before (FindsChannel bits before)
refused_float_channel_leaves bits before = refused_leaves _ _ before

pub refused_row_floats_leaves : (pixels : List ℕ) (before : List Float) → Leaves before (FloatsRow pixels before)
unfolding floats_after
refused_row_floats_leaves pixels before = refused_leaves _ _ before

-- what one pixel's call leaves is what decoding the block leaves there, whatever stood before
pub pixel_is_the_decoded : (block : List ℕ) (pixel : ℕ) (before after : List ℕ) (answer : ℕ) (sixteen : List (List ℕ))
    → Decodes block sixteen → ReadsPixel block pixel before answer after → pixel < 16 → (answer ≡ 0) × (after ≡ get_or sixteen pixel [])
pixel_is_the_decoded block pixel before after answer sixteen d r h =
    let zero : (pixel_read block pixel).refusal ≡ 0 = ap (λ (a : Answer (List ℕ)). a.refusal) (pixel_accepted block pixel h) in (
      r.answers ∙ zero,
      r.leaves ∙ rw (eq-eqb (pixel_read block pixel).refusal 0 zero) (sym (pixel_of_the_sixteen block pixel h))
          ∙ sym (ap (λ (l : List (List ℕ)). get_or l pixel []) d),
    )
