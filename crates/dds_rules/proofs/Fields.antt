-- WHAT EXPORT WRITES, number by number; and that import looks at no field but those that the request names.
-- Assumes nothing.
use mathlib.Core.Path.{◌≡◌, ◌∙◌, ap}
use mathlib.Core.Bool.{Bool, true, false}
use mathlib.Core.List.{List, [], ◌∷◌}
use Prim.Native.Nat.{ℕ, ◌*◌, ◌^◌, ◌<◌}
use native.Mathlib.Omega.{arith}
use lib.Dec.{eqb, lit<}
use lib.ListN.{length, drop}
use Rattle.laws.specs.Tables.{pick, table, table_from}
use Rattle.laws.proofs.Joining.{table_same}
use Rattle.laws.proofs.Refusals.{answer_0}
use Rattle.head_rules.specs.declared.ColourSpace.{ColourSpace}
use Rattle.head_rules.specs.Answers.{Head}
use Rattle.head_rules.specs.Geometry.{blocks_of}
use Rattle.head_rules.specs.Heads.{Sized, under}
use Rattle.head_rules.proofs.Blocks.{few_blocks}
use Rattle.head_rules.proofs.Whole.{whole_when}
use Rattle.head_rules.proofs.Theorems.{rows_sized}
use Rattle.dds_rules.specs.Header.{Entry, array_size, cube_bit, dimension, dds_magic, dx10_code, entries, entry_at, field_in, format}
use Rattle.dds_rules.specs.Header.{format_code, format_of, format_size, header_length, header_number, header_size, height, is_texture, magic}
use Rattle.dds_rules.specs.Header.{mip_count, misc, number_at, offset, width}
use Rattle.dds_rules.specs.Files.{export_after, export_refusal, file_made, file_refusal_up_to, head_made, import_after}
use Rattle.dds_rules.specs.Files.{import_after_up_to, import_answer, import_length, import_refusal_up_to, sheet_head, sheet_made}
use Rattle.dds_rules.proofs.Making.{format_small}
use Rattle.dds_rules.proofs.Numbers.{number_back}
use Rattle.dds_rules.proofs.Refusing.{exported_when}

-- entries that four bytes hold
abbrev AllSmall : List Entry → Type 0
AllSmall [] = Unit {0}
AllSmall (e ∷ es) = (e.value < 2 ^ 32) × AllSmall es

small_pick : (b : Bool) {x y : ℕ} → x < 2 ^ 32 → y < 2 ^ 32 → pick b x y < 2 ^ 32
small_pick true p q = p
small_pick false p q = q

entry_small : (es : List Entry) → AllSmall es → (at : ℕ) → entry_at es at < 2 ^ 32
entry_small [] u at = lit< tt
entry_small (e ∷ es) (s, ss) at = small_pick (eqb at (offset e.field)) s (entry_small es ss at)

module _ (s : List ℕ) (c : ColourSpace) (out : List ℕ) (e : export_refusal (sheet_head s) s (length out) ≡ 0) where
  abbrev head : Head
  head = under c (sheet_head s)

  size : Sized head.width head.height
  size = rows_sized s ((whole_when (sheet_head s) s).0 ((exported_when s (length out)).0 e).0).told

  few : blocks_of head < 2 ^ 25
  unfolding blocks_of
  few = omega (arith, few_blocks size)

  number_small : (i : ℕ) → header_number head i < 2 ^ 32
  unfolding header_number entries
  number_small i =
      let z = size in
      entry_small (entries head) (
        lit< tt,
        (
          lit< tt,
          (
            lit< tt,
            (
              omega arith,
              (
                omega arith,
                (
                  omega (arith, few),
                  (
                    lit< tt,
                    (
                      lit< tt,
                      (
                        lit< tt,
                        (
                          lit< tt,
                          (
                            lit< tt,
                            (
                              format_small c,
                              (
                                lit< tt,
                                (lit< tt, tt),
                              ),
                            ),
                          ),
                        ),
                      ),
                    ),
                  ),
                ),
              ),
            ),
          ),
        ),
      ) (4 * i)

  -- EXPORT WRITES: each of the 37 numbers of an exported file, in their order
  pub export_writes : table 37 (λ i. number_at (export_after (sheet_head s) c s out) (4 * i)) ≡
      dds_magic ∷ 124 ∷ 0x81007 ∷ (sheet_head s).height ∷ (sheet_head s).width ∷ 16 * blocks_of (sheet_head s) ∷ 0 ∷ 1 ∷
      0 ∷ 0 ∷ 0 ∷ 0 ∷ 0 ∷ 0 ∷ 0 ∷ 0 ∷ 0 ∷ 0 ∷ 0 ∷
      32 ∷ 4 ∷ dx10_code ∷ 0 ∷ 0 ∷ 0 ∷ 0 ∷ 0 ∷ 0x1000 ∷ 0 ∷ 0 ∷ 0 ∷ 0 ∷ format_of c ∷ 3 ∷ 0 ∷ 1 ∷ 0 ∷ []
  unfolding export_after file_made header_number entries table table_from blocks_of
  export_writes =
      ap (λ (l : List ℕ). table 37 (λ i. number_at l (4 * i))) (answer_0 (file_made (sheet_head s) c s) out e)
      ∙ table_same 0 37 (λ i. number_at (file_made (sheet_head s) c s) (4 * i)) (header_number head)
      (λ i l. number_back head (drop (sheet_head s).start s) i l (number_small i))

-- FURTHER FIELDS ARE IGNORED: two files alike in what the request names, whatever else their headers hold
pub record Alike (a b : List ℕ) : Type 0 where
  pub long : length a ≡ length b
  pub magic_same : field_in a magic ≡ field_in b magic
  pub header_size_same : field_in a header_size ≡ field_in b header_size
  pub height_same : field_in a height ≡ field_in b height
  pub width_same : field_in a width ≡ field_in b width
  pub mip_count_same : field_in a mip_count ≡ field_in b mip_count
  pub format_size_same : field_in a format_size ≡ field_in b format_size
  pub code_same : field_in a format_code ≡ field_in b format_code
  pub format_same : field_in a format ≡ field_in b format
  pub dimension_same : field_in a dimension ≡ field_in b dimension
  pub cube_same : cube_bit (field_in a misc) ≡ cube_bit (field_in b misc)
  pub array_size_same : field_in a array_size ≡ field_in b array_size
  pub blocks_same : drop header_length a ≡ drop header_length b

module _ (a b : List ℕ) (k : Alike a b) where
  texture_same : is_texture a ≡ is_texture b
  unfolding is_texture
  texture_same = rw (
    k.long,
    k.magic_same,
    k.header_size_same,
    k.format_size_same,
    k.code_same,
    k.format_same,
    k.dimension_same,
    k.array_size_same,
    k.mip_count_same,
    k.cube_same,
  )

  head_same : head_made a ≡ head_made b
  unfolding head_made
  head_same = rw (k.width_same, k.height_same, k.format_same)

  refusal_same : (top : ℕ) → file_refusal_up_to top a ≡ file_refusal_up_to top b
  unfolding file_refusal_up_to
  refusal_same top = rw (texture_same, k.width_same, k.height_same, k.long, head_same)

  import_refusal_same : (top room : ℕ) → import_refusal_up_to top a room ≡ import_refusal_up_to top b room
  unfolding import_refusal_up_to
  import_refusal_same top room = rw (refusal_same top, head_same)

  sheet_same : sheet_made a ≡ sheet_made b
  unfolding sheet_made
  sheet_same = rw (k.width_same, k.height_same, k.blocks_same)

  -- they are answered alike, and leave the same output
  pub ignored_answer : (room : ℕ) → import_answer a room ≡ import_answer b room
  unfolding import_answer
  ignored_answer room = rw (import_refusal_same _ room, head_same)

  pub ignored_output : (out : List ℕ) → import_after a out ≡ import_after b out
  unfolding import_after_up_to
  ignored_output out = rw (import_refusal_same _ (length out), sheet_same)

  pub ignored_length : import_length a ≡ import_length b
  unfolding import_length
  ignored_length = rw (refusal_same _, head_same)
