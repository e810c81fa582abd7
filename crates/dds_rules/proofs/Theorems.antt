-- IMPORT AND EXPORT, in one place: there and back, block by block, and each refusal exactly when. `Bytes s` says that s is a list of bytes,
-- which each slice of the code is.
-- Assumes nothing.
use mathlib.Core.Path.{◌≡◌, refl, ◌∙◌, ap, sym}
use mathlib.Core.Logic.{◌↔◌, ◌≢◌}
use mathlib.Core.List.{List, ◌++◌}
use Prim.Native.Nat.{ℕ, ◌+◌, ◌*◌}
use borrow.Author.Tests.{ne_eqb}
use lib.ListN.{length, drop, take, take-append-drop}
use lib.Seq.{drop-drop}
use Rattle.refusals.specs.Answers.{number_of}
use Rattle.refusals.proofs.Answers.{number_fixes}
use Rattle.head_rules.specs.declared.Head as heads
use Rattle.head_rules.proofs.Answers.{head_fixes}
use Rattle.std.specs.Prelude.{Result, ⊤}
use Rattle.refusals.specs.declared.Refusal.{Refusal}
use Rattle.dds_rules.proofs.Lengths.{length_fixes}
use Rattle.head_rules.specs.declared.ColourSpace.{ColourSpace}
use Rattle.head_rules.specs.declared.ColourSpace.TheVariants.{Unspecified, Linear, Srgb}
use Rattle.head_rules.specs.Answers.{Head}
use Rattle.head_rules.specs.Geometry.{blocks_of, place_of, stored_at}
use Rattle.head_rules.specs.Heads.{head_of, read_head, under}
use Rattle.head_rules.specs.Numbers.{Bytes}
use Rattle.head_rules.proofs.Heading.{head_told_is}
use Rattle.head_rules.proofs.Whole.{whole_when}
use Rattle.laws.specs.Refusals.{Given}
use Rattle.laws.proofs.Refusals.{answer_0, exactly}
use Rattle.dds_rules.specs.Header.{Another, canonical_header, header_length}
use Rattle.dds_rules.specs.Files.{export_after, export_length, export_refusal, export_rules, file_length, file_made, file_rules}
use Rattle.dds_rules.specs.Files.{head_made}
use Rattle.dds_rules.specs.Files.{import_after, import_after_up_to, import_answer, import_length, import_refusal, import_rules, numbered_after}
use Rattle.dds_rules.specs.Files.{numbered_head, numbered_refusal, numbered_rules, said, sheet_head, sheet_made, whole_rules}
use Rattle.dds_rules.specs.Promises.{ExportNeeds, Exports, ExportsNumbered, ImportNeeds, Imported, Imports}
use Rattle.dds_rules.proofs.Numbered.{numbered_rules_is}
use Rattle.dds_rules.proofs.Refusing.{export_rules_is, exported_when, fifteen, file_rules_is, import_rules_is, imported_when, sheet_rules_is}
use Rattle.dds_rules.proofs.Refusing.{taken, taken_so}
use Rattle.dds_rules.proofs.Making.{file_again, file_taken, head_again, sheet_again, sheet_blocks, sheet_head_is, sheet_read}
use Rattle.dds_rules.proofs.Making.{sheet_whole}

-- an accepted call leaves what the file or the sheet makes
imported_is : (dds out : List ℕ) → import_refusal dds (length out) ≡ 0 → import_after dds out ≡ sheet_made dds
unfolding import_after_up_to
imported_is dds out e = answer_0 (sheet_made dds) out e

exported_is : (s : List ℕ) (c : ColourSpace) (out : List ℕ) → export_refusal (sheet_head s) s (length out) ≡ 0
    → export_after (sheet_head s) c s out ≡ file_made (sheet_head s) c s
unfolding export_after
exported_is s c out e = answer_0 (file_made (sheet_head s) c s) out e

-- what import answers: its refusal, and the head that the file makes; or the refusal and nothing else
pub import_answers : (dds : List ℕ) (room : ℕ) → (import_answer dds room).refusal ≡ import_refusal dds room
unfolding import_answer head_made
import_answers dds room = (head_told_is (import_refusal dds room) (head_made dds) (λ z. refl) refl).0

pub import_answers_head : (dds : List ℕ) (room : ℕ) → import_refusal dds room ≡ 0 → import_answer dds room ≡ head_made dds
unfolding import_answer
import_answers_head dds room e = answer_0 (head_made dds) _ e

pub refused_import_answers_none : (dds : List ℕ) (room : ℕ) → import_refusal dds room ≢ 0
    → import_answer dds room ≡ head_of (import_refusal dds room) 0 0 0
unfolding import_answer
refused_import_answers_none dds room ne = rw (ne_eqb (import_refusal dds room) 0 ne)

-- THERE AND BACK: a sheet that was exported, under whichever colour space, is imported again, and restored byte for byte, whatever stood in
-- the outputs
module _ (s : List ℕ) (y : Bytes s) (c : ColourSpace) (out back : List ℕ) (e : export_refusal (sheet_head s) s (length out) ≡ 0)
    (l : length back ≡ length s) where
  again : import_refusal (file_made (sheet_head s) c s) (length back) ≡ 0
  unfolding blocks_of
  again =
      let w = (whole_when (sheet_head s) s).0 ((exported_when s (length out)).0 e).0 in
      (imported_when (file_made (sheet_head s) c s) (length back)).1 (
        taken_so (file_made (sheet_head s) c s) (file_taken s y w c),
        l ∙ w.long ∙ ap (λ (h : Head). h.start + 16 * blocks_of h)
            (sym (head_again s y w c)),
      )

  pub import_exported : (import_refusal (export_after (sheet_head s) c s out) (length back) ≡ 0)
      × (import_after (export_after (sheet_head s) c s out) back ≡ s)
  import_exported =
      let w = (whole_when (sheet_head s) s).0 ((exported_when s (length out)).0 e).0 in
      rw (exported_is s c out e) (again, imported_is (file_made (sheet_head s) c s) back again ∙ sheet_again s y w c)

  -- and import answers its head, with the colour space that was given; but unspecified comes back as linear
  pub head_exported : import_answer (export_after (sheet_head s) c s out) (length back) ≡ under (said c) (sheet_head s)
  head_exported =
      let w = (whole_when (sheet_head s) s).0 ((exported_when s (length out)).0 e).0 in
      rw (exported_is s c out e) (import_answers_head (file_made (sheet_head s) c s) (length back) again ∙ head_again s y w c)

pub colour_comes_back : (c : ColourSpace) → c ≢ Unspecified → said c ≡ c
colour_comes_back Unspecified n = absurd (n refl)
colour_comes_back Linear n = refl
colour_comes_back Srgb n = refl

pub unspecified_comes_back_linear : said Unspecified ≡ Linear
unspecified_comes_back_linear = refl

-- AND BACK AGAIN: a file that was imported is exported again, with the header that export writes and the same blocks
pub export_imported : (dds out : List ℕ) (c : ColourSpace) (back : List ℕ) → import_refusal dds (length out) ≡ 0 → length back ≡ length dds
    → let s = import_after dds out in
    (export_refusal (sheet_head s) s (length back) ≡ 0)
    × (export_after (sheet_head s) c s back ≡ canonical_header (under c (head_made dds)) ++ drop header_length dds)
unfolding blocks_of
export_imported dds out c back e l =
    let t = taken dds ((imported_when dds (length out)).0 e).0 in
    let again : export_refusal (sheet_head (sheet_made dds)) (sheet_made dds) (length back) ≡ 0 = (exported_when (sheet_made dds) (length back)).1
    ((whole_when (sheet_head (sheet_made dds)) (sheet_made dds)).1 (sheet_whole dds t), l ∙ t.long ∙ ap file_length (sym (sheet_head_is dds t.size))) in
    rw (imported_is dds out e) (again, exported_is (sheet_made dds) c back again ∙ file_again dds t.size c)

-- so byte for byte the file itself, where its header was as export writes it and the colour space is the one that import answered
pub canonical_restored : (dds out back : List ℕ) → import_refusal dds (length out) ≡ 0 → length back ≡ length dds
    → take header_length dds ≡ canonical_header (head_made dds)
    → let s = import_after dds out in export_after (sheet_head s) (head_made dds).colour_space s back ≡ dds
canonical_restored dds out back e l c =
    (export_imported dds out (head_made dds).colour_space back e l).1 ∙ ap (λ (h : List ℕ). h ++ drop header_length dds) (sym c)
    ∙ take-append-drop header_length dds

-- the head of the imported sheet is the one that import answers, but for the colour space, and its block b is the sixteen bytes at 148 + 16 b
head_made_is : (dds out : List ℕ) → import_refusal dds (length out) ≡ 0 → read_head (import_after dds out) ≡ under Unspecified (head_made dds)
head_made_is dds out e = rw (imported_is dds out e) (sheet_read dds (taken dds ((imported_when dds (length out)).0 e).0).size)

pub head_imported : (dds out : List ℕ) → import_refusal dds (length out) ≡ 0
    → read_head (import_after dds out) ≡ under Unspecified (import_answer dds (length out))
head_imported dds out e = head_made_is dds out e ∙ ap (under Unspecified) (sym (import_answers_head dds (length out) e))

pub block_imported : (dds out : List ℕ) (b : ℕ) → import_refusal dds (length out) ≡ 0
    → take 16 (drop (place_of (read_head (import_after dds out)) b) (import_after dds out)) ≡ take 16 (drop (header_length + 16 * b) dds)
unfolding place_of stored_at head_made
block_imported dds out b e =
    rw (head_made_is dds out e, imported_is dds out e)
    (ap (take 16)
    (sym (drop-drop (16 * b) (head_made dds).start (sheet_made dds)) ∙ ap (drop (16 * b)) (sheet_blocks dds) ∙ drop-drop (16 * b) header_length dds))

-- EXACTLY WHEN: each refusal number of either call is given as document 02 says (`import_rules`, `export_rules` have the words)
pub import_refused_when : (dds : List ℕ) (room n : ℕ) → (import_refusal dds room ≡ n) ↔ Given (import_rules dds room) n
import_refused_when dds room = exactly (import_rules_is dds room)

pub export_refused_when : (s : List ℕ) (room n : ℕ) → (export_refusal (sheet_head s) s room ≡ n) ↔ Given (export_rules s room) n
export_refused_when s room = exactly (export_rules_is s room)

-- 18 stands behind 7 and 8 and before 9 (`numbered_rules`)
pub numbered_refused_when : (s : List ℕ) (n room m : ℕ) → (numbered_refusal s n room ≡ m) ↔ Given (numbered_rules s n room) m
numbered_refused_when s n room = exactly (numbered_rules_is s n room)

-- 15 field by field: exactly when there are fewer than 148 bytes, or one of the fields that the request names is another
pub fifteen_when : (dds : List ℕ) (room : ℕ) → (import_refusal dds room ≡ 15) ↔ Another dds
fifteen_when = fifteen

-- the calls for the length are refused for the same but 11
pub import_length_refused_when : (dds : List ℕ) (n : ℕ) → ((import_length dds).refusal ≡ n) ↔ Given (file_rules dds) n
unfolding import_length
import_length_refused_when dds = exactly (file_rules_is dds)

pub export_length_refused_when : (s : List ℕ) (n : ℕ) → ((export_length s).refusal ≡ n) ↔ Given (whole_rules s) n
unfolding export_length
export_length_refused_when s = exactly (sheet_rules_is s)

-- and an output is taken exactly when it has the length that they answer
pub import_length_serves : (dds : List ℕ) (room : ℕ)
    → (import_refusal dds room ≡ 0) ↔ ((import_length dds).refusal ≡ 0) × (room ≡ (import_length dds).length)
unfolding import_length
import_length_serves dds room =
    let a = imported_when dds room in (
      λ e. ((a.0 e).0, (a.0 e).1 ∙ sym (answer_0 _ 0 (a.0 e).0)),
      λ m. a.1 (m.0, m.1 ∙ answer_0 _ 0 m.0),
    )

pub export_length_serves : (s : List ℕ) (room : ℕ)
    → (export_refusal (sheet_head s) s room ≡ 0) ↔ ((export_length s).refusal ≡ 0) × (room ≡ (export_length s).length)
unfolding export_length
export_length_serves s room =
    let a = exported_when s room in (
      λ e. ((a.0 e).0, (a.0 e).1 ∙ sym (answer_0 _ 0 (a.0 e).0)),
      λ m. a.1 (m.0, m.1 ∙ answer_0 _ 0 m.0),
    )

-- a refused call leaves the output as it was
pub refused_import_leaves : (dds before : List ℕ) (answer : Head) (after : List ℕ) → Imported dds before answer after → answer.refusal ≢ 0
    → after ≡ before
unfolding import_after_up_to
refused_import_leaves dds before answer after p ne =
    p.1 ∙ rw (ne_eqb (import_refusal dds (length before)) 0
    (λ e. ne (ap (λ (h : Head). h.refusal) p.0 ∙ import_answers dds (length before) ∙ e)))

pub refused_export_leaves : (s : List ℕ) (c : ColourSpace) (before : List ℕ) (answer : Result ⊤ Refusal) (after : List ℕ) → Exports s c before answer after
    → number_of answer ≢ 0 → after ≡ before
unfolding export_after
refused_export_leaves s c before answer after p ne = p.1 ∙ rw (ne_eqb (export_refusal (sheet_head s) s (length before)) 0 (λ e. ne (p.0 ∙ e)))

pub refused_numbered_leaves : (s : List ℕ) (n : ℕ) (before : List ℕ) (answer : Result ⊤ Refusal) (after : List ℕ) → ExportsNumbered s n before answer after
    → number_of answer ≢ 0 → after ≡ before
unfolding numbered_refusal numbered_after export_after
refused_numbered_leaves s n before answer after p ne =
    p.1 ∙ rw (ne_eqb (export_refusal (numbered_head n s) s (length before)) 0 (λ e. ne (p.0 ∙ e)))

-- any two results that a promise admits coincide
pub determined_import : (dds before : List ℕ) (a b : Result heads.Head Refusal) (x y : List ℕ) → Imports dds before a x → Imports dds before b y → (a ≡ b) × (x ≡ y)
determined_import dds before a b x y p q = (head_fixes a b (p.0 ∙ sym q.0), p.1 ∙ sym q.1)

pub determined_export : (s : List ℕ) (c : ColourSpace) (before : List ℕ) (a b : Result ⊤ Refusal) (x y : List ℕ) → Exports s c before a x → Exports s c before b y
    → (a ≡ b) × (x ≡ y)
determined_export s c before a b x y p q = (number_fixes a b (p.0 ∙ sym q.0), p.1 ∙ sym q.1)

pub determined_export_numbered : (s : List ℕ) (n : ℕ) (before : List ℕ) (a b : Result ⊤ Refusal) (x y : List ℕ) → ExportsNumbered s n before a x
    → ExportsNumbered s n before b y → (a ≡ b) × (x ≡ y)
determined_export_numbered s n before a b x y p q = (number_fixes a b (p.0 ∙ sym q.0), p.1 ∙ sym q.1)

pub determined_import_length : (dds : List ℕ) (a b : Result ℕ Refusal) → ImportNeeds dds a → ImportNeeds dds b → a ≡ b
determined_import_length dds a b p q = length_fixes a b (p ∙ sym q)

pub determined_export_length : (s : List ℕ) (a b : Result ℕ Refusal) → ExportNeeds s a → ExportNeeds s b → a ≡ b
determined_export_length s a b p q = length_fixes a b (p ∙ sym q)
