-- The steps of reading a file: the texture, its sides, its length.
-- Assumes nothing.
use mathlib.Core.Path.{◌≡◌, refl, ◌∙◌, ap, ap₂, sym}
use mathlib.Core.Logic.{◌≢◌}
use mathlib.Core.Bool.{false}
use mathlib.Core.List.{List, [], ◌∷◌, ◌++◌}
use Prim.Native.Nat.{ℕ, ◌+◌, ◌-◌, ◌*◌}
use native.Mathlib.Omega.{arith}
use borrow.Author.Tests.{eq-eqb}
use lib.ListN.{length, drop, length-append, replicate, take}
use lib.Seq.{take_all, take-append_seam}
use Rattle.head_rules.specs.declared.ColourSpace.{ColourSpace}
use Rattle.head_rules.specs.Answers.{Head}
use Rattle.head_rules.specs.Answers.{HeadBytes}
use Rattle.head_rules.specs.Geometry.{blocks_of, whole_length}
use Rattle.head_rules.specs.Heads.{Sized, head_bytes, head_of, limit, seven_of, size_refusal, under, write_head, write_head_up_to}
use Rattle.head_rules.specs.Whole.{whole_head}
use Rattle.head_rules.proofs.Heading.{size_0}
use Rattle.head_rules.proofs.Whole.{whole_told}
use Rattle.head_rules.proofs.Theorems.{head_not_written_when}
use Rattle.laws.specs.Padding.{padded}
use Rattle.laws.specs.Refusals.{Given, Rule, accepted, here, then, unless}
use Rattle.laws.specs.Tables.{table}
use Rattle.laws.proofs.Tests.{no_both}
use Rattle.dds_rules.specs.Header.{Texture, bytes_in, canonical_header, field_in, format, format_says, header_length, header_number, height, is_texture}
use Rattle.dds_rules.specs.Header.{width}
use Rattle.dds_rules.specs.Files.{file_length, file_made, head_made, import_head, sheet_head, sheet_made}
use Rattle.dds_rules.specs.Promises.{Imported}
use Rattle.dds_rules.proofs.Refusing.{Taken}
use Rattle.dds_rules.proofs.Numbers.{header_long}
use Rattle.dds_rules.proofs.Textures.{a_texture}
use Rattle.dds.specs.Filling.{Fills}
use Rattle.dds.proofs.Answers.{Exported, a_file, export_done, import_done, import_taken, no_file}

-- 15
pub another : (dds : List ℕ) → is_texture dds ≡ false → head_of 15 0 0 0 ≡ import_head dds
another dds e = no_file dds 15 (here (λ t. no_both (sym (a_texture dds t)) e)) (λ z. omega arith)

-- a head of so many pixels was written, or not
module _ (w h : ℕ) {b : HeadBytes} (e : b ≡ write_head w h) where
  sides_given : Given (unless 9 (Sized w h) ∷ []) b.refusal
  sides_given = (head_not_written_when w h b.refusal).0 (sym (ap (λ (x : HeadBytes). x.refusal) e))

  pub sides : b.refusal ≡ 0 → Sized w h
  sides z = go sides_given z
    where
      go : {n : ℕ} → Given (unless 9 (Sized w h) ∷ []) n → n ≡ 0 → Sized w h
      go (here x) z = absurd (let q : ⊥ = omega arith in q)
      go (then s g) z = s

  no_sides : {rs : List Rule} → b.refusal ≢ 0 → Given (unless 9 (Sized w h) ∷ rs) b.refusal
  no_sides {rs} ne = go sides_given ne
    where
      go : {n : ℕ} → Given (unless 9 (Sized w h) ∷ []) n → n ≢ 0 → Given (unless 9 (Sized w h) ∷ rs) n
      go (here x) ne = here x
      go (then s accepted) ne = absurd (ne refl)

  seven : Sized w h → b ≡ seven_of (head_bytes w h)
  unfolding write_head_up_to
  seven z = e ∙ rw (eq-eqb (size_refusal w h) 0 (size_0 limit w h z))

  pub counted : b.refusal ≡ 0 → b.count ≡ length (head_bytes w h)
  counted z = ap (λ (x : HeadBytes). x.count) (seven (sides z))

-- and the bytes of one that has a size
pub laid : (w h : ℕ) {b : HeadBytes} → b ≡ seven_of (head_bytes w h) → take (length (head_bytes w h)) b.bytes ≡ head_bytes w h
unfolding padded
laid w h e = ap (λ (x : HeadBytes). take (length (head_bytes w h)) x.bytes) e ∙ take-append_seam (head_bytes w h) _

-- 9, 10, or the head
module _ (dds : List ℕ) {w h : ℕ} {b : HeadBytes} (t : Texture dds) (ew : w ≡ field_in dds width) (eh : h ≡ field_in dds height)
    (e : b ≡ write_head w h) where
  abbrev said : b ≡ write_head (field_in dds width) (field_in dds height)
  said = e ∙ ap₂ write_head ew eh

  pub no_size : b.refusal ≢ 0 → head_of b.refusal 0 0 0 ≡ import_head dds
  no_size ne = no_file dds b.refusal (then t (no_sides _ _ said ne)) ne

  module _ (z : b.refusal ≡ 0) {n : ℕ} (en : n ≡ b.count) {c : ColourSpace} (ec : c ≡ format_says (field_in dds format)) where
    is_made : under c (head_of 0 w h n) ≡ head_made dds
    unfolding head_made
    is_made =
        ap₂ (λ (k : ColourSpace) (m : ℕ). under k (head_of 0 w h m)) ec (en ∙ counted w h e z)
        ∙ ap₂ (λ (x y : ℕ). under (format_says (field_in dds format)) (head_of 0 x y (length (head_bytes x y)))) ew eh

    pub no_length : length dds ≢ file_length (under c (head_of 0 w h n)) → head_of 10 0 0 0 ≡ import_head dds
    no_length ne =
        no_file dds 10 (then t (then (sides _ _ said z) (here (λ l. ne (l ∙ ap file_length (sym is_made)))))) (λ q. omega arith)

    pub a_head : length dds ≡ file_length (under c (head_of 0 w h n)) → under c (head_of 0 w h n) ≡ import_head dds
    a_head l = is_made ∙ a_file dds (record { texture = t; size = sides _ _ said z; long = l ∙ ap file_length is_made })

-- the sheet: the head's bytes, and the blocks
pub sheet_laid : (dds : List ℕ) {x : Head} {b : HeadBytes} → Taken dds → x ≡ head_made dds → b ≡ seven_of (head_bytes x.width x.height)
    → take x.start b.bytes ++ drop header_length dds ≡ sheet_made dds
unfolding head_made sheet_made
sheet_laid dds {x} {b} t e eb =
    let w = field_in dds width in
    let h = field_in dds height in
    let wide : x.width ≡ w = ap (λ (y : Head). y.width) e in
    let high : x.height ≡ h = ap (λ (y : Head). y.height) e in
    let starts : x.start ≡ length (head_bytes w h) = ap (λ (y : Head). y.start) e in
    ap (λ (l : List ℕ). l ++ drop header_length dds)
    (ap (λ (n : ℕ). take n b.bytes) starts ∙ laid w h (eb ∙ ap₂ (λ (m n : ℕ). seven_of (head_bytes m n)) wide high))

module _ (dds out : List ℕ) {x : Head} (e : x ≡ import_head dds) (z : x.refusal ≡ 0) {b : HeadBytes} (eb : b ≡ seven_of (head_bytes x.width x.height))
    (l : length out ≡ whole_length x) where
  abbrev take_dds : Taken dds
  take_dds = (import_taken dds out e z).0

  abbrev made : x ≡ head_made dds
  made = (import_taken dds out e z).1

  starts : x.start ≡ length (head_bytes x.width x.height)
  unfolding head_made
  starts = rw made

  pub import_fits : Fills (length b.bytes) x.start (length dds) header_length (length out)
  unfolding padded
  import_fits =
      let bytes = head_bytes x.width x.height in
      let s = ap (λ (y : HeadBytes). length y.bytes) eb in
      record {
        count_there = omega (arith, s, starts, length-append bytes (replicate (7 - length bytes) 0));
        start_there = take_dds.texture.long;
        whole = omega (arith, l, take_dds.long, ap file_length made);
      }

  pub import_filled : {after : List ℕ} → after ≡ take x.start b.bytes ++ drop header_length dds → Imported dds out x after
  import_filled f = import_done dds out e z l (f ∙ sheet_laid dds take_dds made eb)

-- the file: the header, and the blocks; x is the head of the sheet, if it is whole
module _ (s : List ℕ) (c : ColourSpace) (out : List ℕ) {x : Head} (e : x ≡ whole_head (sheet_head s) s) (z : x.refusal ≡ 0) {u : Head}
    (eu : u ≡ under c x) {numbers header : List ℕ} (en : numbers ≡ table 37 (header_number u)) (eh : header ≡ table header_length (bytes_in numbers))
    (l : length out ≡ file_length x) where
  abbrev known : x ≡ sheet_head s
  known = (whole_told (sheet_head s) s e z).1

  is_header : header ≡ canonical_header (under c x)
  unfolding canonical_header
  is_header = eh ∙ ap (λ (ns : List ℕ). table header_length (bytes_in ns)) (en ∙ ap (λ (h : Head). table 37 (header_number h)) eu)

  pub export_fits : Fills (length header) header_length (length s) x.start (length out)
  export_fits =
      let w = (whole_told (sheet_head s) s e z).0.long ∙ ap (λ (h : Head). h.start + 16 * blocks_of h) (sym known) in
      record {
        count_there = omega (arith, ap length is_header, header_long (under c x));
        start_there = omega (arith, w);
        whole = omega (arith, w, l);
      }

  pub export_filled : {after : List ℕ} → after ≡ take header_length header ++ drop x.start s → Exported s c out 0 after
  unfolding file_made
  export_filled f =
      export_done s c out e z l
      (f ∙ ap (λ (t : List ℕ). t ++ drop x.start s)
      (take_all header_length header (omega (arith, ap length is_header, header_long (under c x))) ∙ is_header)
      ∙ ap (λ (h : Head). canonical_header (under c h) ++ drop h.start s) known)
