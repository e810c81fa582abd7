-- What is answered of a head that was read, and of the output's length: for both ways the same.
-- Assumes nothing.
use mathlib.Core.Path.{◌≡◌, refl, ◌∙◌, ap, ap₂, sym}
use mathlib.Core.Logic.{◌≢◌}
use mathlib.Core.Bool.{not}
use mathlib.Core.List.{List, [], ◌∷◌}
use Prim.Native.Nat.{ℕ, ◌+◌, ◌*◌, ◌^◌, ◌<◌, ◌≤◌}
use native.Mathlib.Omega.{arith}
use borrow.Author.Tests.{eq-eqb, ne_eqb}
use lib.Dec.{eqb}
use lib.ListN.{length}
use Rattle.head_rules.specs.declared.ColourSpace.{ColourSpace}
use Rattle.head_rules.specs.Answers.{Head}
use Rattle.head_rules.specs.Colours.{colour_of, colour_refusal}
use Rattle.head_rules.specs.declared.Form.TheVariants.{Rows}
use Rattle.head_rules.specs.Geometry.{blocks_of, whole_length}
use Rattle.head_rules.specs.Heads.{Sized, head_as, head_of, read_of_form_with}
use Rattle.head_rules.proofs.Blocks.{few_blocks}
use Rattle.head_rules.specs.Whole.{whole_head, whole_refusal}
use Rattle.head_rules.proofs.Heading.{head_told_is}
use Rattle.head_rules.proofs.Between.{with_refused}
use Rattle.head_rules.proofs.Colours.{colour_test}
use Rattle.head_rules.proofs.Whole.{of_form_sized, whole_handed, whole_number, whole_told}
use Rattle.laws.specs.Refusals.{Given, accepted, first, here, refuse, then}
use Rattle.laws.specs.Tables.{pick}
use Rattle.laws.proofs.Refusals.{decided_is, exactly}
use Rattle.dds_rules.specs.Files.{export_after, export_length, export_refusal, file_length, file_made, file_refusal, file_rules}
use Rattle.dds_rules.specs.Files.{head_made, import_after_up_to, import_answer, import_head, import_length, import_refusal, import_refusal_up_to}
use Rattle.dds_rules.specs.Files.{length_as, numbered_after, numbered_head, numbered_refusal, sheet_head, sheet_made}
use Rattle.dds_rules.specs.Promises.{Imported}
use Rattle.dds_rules.proofs.Refusing.{Taken, file_rules_is, room_rules, taken, taken_so}
use Rattle.dds_rules.proofs.Making.{head_short}
use Rattle.dds_rules.proofs.Numbered.{numbered_as}

-- WHAT THE READERS ANSWER
pub no_file : (dds : List ℕ) (n : ℕ) → Given (file_rules dds) n → n ≢ 0 → head_of n 0 0 0 ≡ import_head dds
unfolding import_head
no_file dds n g ne = rw ((exactly (file_rules_is dds) n).1 g, ne_eqb n 0 ne)

pub a_file : (dds : List ℕ) → Taken dds → head_made dds ≡ import_head dds
unfolding import_head
a_file dds t = rw (eq-eqb (file_refusal dds) 0 (taken_so dds t))

-- WHAT A HEAD SAYS THAT WAS READ: the number, and where it is 0 the head
module _ (dds : List ℕ) {x : Head} (e : x ≡ import_head dds) where
  pub file_told : (x.refusal ≡ file_refusal dds) × (file_refusal dds ≡ 0 → x ≡ head_made dds)
  unfolding import_head head_made
  file_told = head_told_is (file_refusal dds) (head_made dds) (λ z. refl) e

-- WHAT A CALL ANSWERS: what was told before, or 11, or 0 with what is made
module _ (r needed : ℕ) (made out : List ℕ) where
  abbrev answer : ℕ
  answer = first (r ∷ refuse 11 (not (eqb (length out) needed)) ∷ [])

  abbrev Answered : ℕ → List ℕ → Type 0
  Answered a after = (a ≡ answer) × (after ≡ pick (eqb answer 0) made out)

  before_11 : {a : ℕ} → a ≡ r → a ≢ 0 → Answered a out
  before_11 e ne =
      let n : r ≢ 0 = λ z. ne (e ∙ z) in
      let g : answer ≡ r = (exactly (room_rules r needed (length out)) r).1 (here n) in
      (e ∙ sym g, sym (rw (g, ne_eqb r 0 n)))

  eleven : r ≡ 0 → length out ≢ needed → Answered 11 out
  eleven z ne = let g : answer ≡ 11 = (exactly (room_rules r needed (length out)) 11).1 (then z (here ne)) in (sym g, sym (rw g))

  done : r ≡ 0 → length out ≡ needed → {after : List ℕ} → after ≡ made → Answered 0 after
  done z l e = let g : answer ≡ 0 = (exactly (room_rules r needed (length out)) 0).1 (then z (then l accepted)) in (sym g, e ∙ sym (rw g))

module _ (dds out : List ℕ) {x : Head} (e : x ≡ import_head dds) where
  -- the head that was read is the answer, where 11 is not
  answered : import_refusal dds (length out) ≡ file_refusal dds → x ≡ import_answer dds (length out)
  unfolding import_head import_answer
  answered q = e ∙ ap (λ (r : ℕ). head_as r (head_made dds)) (sym q)

  pub import_refused : x.refusal ≢ 0 → Imported dds out x out
  unfolding import_refusal_up_to import_after_up_to
  import_refused ne =
      let told = (file_told dds e).0 in
      let p = before_11 (file_refusal dds) (whole_length (head_made dds)) (sheet_made dds) out told ne in
      (answered (sym p.0 ∙ told), p.1)

  pub import_taken : x.refusal ≡ 0 → Taken dds × (x ≡ head_made dds)
  import_taken z = let q = sym (file_told dds e).0 ∙ z in (taken dds q, (file_told dds e).1 q)

  answered_11 : import_refusal dds (length out) ≡ 11 → head_of 11 0 0 0 ≡ import_answer dds (length out)
  unfolding import_answer
  answered_11 q = rw q

  pub import_11 : x.refusal ≡ 0 → length out ≢ whole_length x → {y : Head} → y ≡ head_of 11 0 0 0 → Imported dds out y out
  unfolding import_refusal_up_to import_after_up_to
  import_11 z ne k =
      let p = eleven (file_refusal dds) (whole_length (head_made dds)) (sheet_made dds) out (sym (file_told dds e).0 ∙ z)
      (λ l. ne (l ∙ ap (λ (h : Head). h.start + 16 * blocks_of h) (sym (import_taken z).1))) in
      (k ∙ answered_11 (sym p.0), p.1)

  pub import_done : x.refusal ≡ 0 → length out ≡ whole_length x → {after : List ℕ} → after ≡ sheet_made dds → Imported dds out x after
  unfolding import_refusal_up_to import_after_up_to
  import_done z l f =
      let told = sym (file_told dds e).0 ∙ z in
      let p = done (file_refusal dds) (whole_length (head_made dds)) (sheet_made dds) out told
      (l ∙ ap (λ (h : Head). h.start + 16 * blocks_of h) (import_taken z).1) f in
      (answered (sym p.0 ∙ sym told), p.1)

-- an export that answers this number, and leaves this
abbrev pub Exported : List ℕ → ColourSpace → List ℕ → ℕ → List ℕ → Type 0
Exported s c out n after = let h = sheet_head s in (n ≡ export_refusal h s (length out)) × (after ≡ export_after h c s out)

abbrev pub Numbered : List ℕ → ℕ → List ℕ → ℕ → List ℕ → Type 0
Numbered s n out r after = (r ≡ numbered_refusal s n (length out)) × (after ≡ numbered_after s n out)

-- x is the head of the sheet, if it is whole
module _ (s : List ℕ) {x : Head} (e : x ≡ whole_head (sheet_head s) s) where
  pub export_sized : x.refusal ≡ 0 → Sized x.width x.height
  export_sized z = of_form_sized Rows s (whole_told (sheet_head s) s e z).1 z

module _ (s : List ℕ) (c : ColourSpace) (out : List ℕ) {x : Head} (e : x ≡ whole_head (sheet_head s) s) where
  abbrev k : Head
  k = sheet_head s

  pub export_refused : x.refusal ≢ 0 → Exported s c out x.refusal out
  unfolding export_refusal export_after
  export_refused ne = before_11 (whole_refusal k s) (file_length k) (file_made k c s) out (whole_number k s e) ne

  pub export_11 : x.refusal ≡ 0 → length out ≢ file_length x → Exported s c out 11 out
  unfolding export_refusal export_after
  export_11 z ne =
      eleven (whole_refusal k s) (file_length k) (file_made k c s) out (sym (whole_number k s e) ∙ z)
      (λ l. ne (l ∙ ap file_length (sym (whole_told k s e z).1)))

  pub export_done : x.refusal ≡ 0 → length out ≡ file_length x → {after : List ℕ} → after ≡ file_made k c s → Exported s c out 0 after
  unfolding export_refusal export_after
  export_done z l =
      done (whole_refusal k s) (file_length k) (file_made k c s) out (sym (whole_number k s e) ∙ z) (l ∙ ap file_length (whole_told k s e z).1)

-- under a number: as export where it is a colour space's, else the head's refusals before 9, or 18
module _ (s : List ℕ) (n : ℕ) (out : List ℕ) {r : ℕ} (er : r ≡ colour_refusal n) where
  pub numbered_exported : r ≡ 0 → {c : ColourSpace} → c ≡ colour_of n → {answer : ℕ} {after : List ℕ} → Exported s c out answer after
      → Numbered s n out answer after
  unfolding numbered_refusal numbered_after
  numbered_exported z ec p =
      let e = sym (numbered_as s n (decided_is (colour_test n) (sym er ∙ z))) in (
        p.0 ∙ ap (λ (h : Head). export_refusal h s (length out)) e,
        p.1 ∙ ap₂ (λ (h : Head) (c : ColourSpace). export_after h c s out) e ec,
      )

  pub numbered_refused : r ≢ 0 → {h : Head} → h ≡ read_of_form_with r Rows s → Numbered s n out h.refusal out
  unfolding numbered_refusal numbered_after export_refusal export_after
  numbered_refused ne {h} eh =
      let g = numbered_head n s in
      let told = ap (λ (x : Head). x.refusal) (eh ∙ ap (λ (m : ℕ). read_of_form_with m Rows s) er) in
      let no : g.refusal ≢ 0 = with_refused (colour_refusal n) Rows s (λ z. ne (er ∙ z)) in
      before_11 (whole_refusal g s) (file_length g) (file_made g (colour_of n) s) out
      (told ∙ sym ((exactly (whole_handed g s) g.refusal).1 (here no))) (λ z. no (sym told ∙ z))

-- WHAT A CALL FOR THE LENGTH ANSWERS
module _ (r needed : ℕ) where
  length_refused : {a : ℕ} → a ≡ r → a ≢ 0 → record { refusal = a; length = 0 } ≡ length_as r needed
  length_refused e ne = rw (← e, ne_eqb _ 0 ne)

  length_is : r ≡ 0 → {n : ℕ} → n ≡ needed → record { refusal = 0; length = n } ≡ length_as r needed
  length_is z e = rw (z, e)

module _ (dds : List ℕ) {x : Head} (e : x ≡ import_head dds) where
  pub import_length_refused : x.refusal ≢ 0 → record { refusal = x.refusal; length = 0 } ≡ import_length dds
  unfolding import_length
  import_length_refused ne = length_refused (file_refusal dds) (whole_length (head_made dds)) (file_told dds e).0 ne

  module _ (z : x.refusal ≡ 0) where
    pub import_sized : Sized x.width x.height
    unfolding head_made
    import_sized = rw (import_taken dds [] e z).1 (import_taken dds [] e z).0.size

    pub import_start : x.start ≤ 7
    unfolding head_made
    import_start = rw (import_taken dds [] e z).1 (head_short _ _)

    pub import_length_is : {n : ℕ} → n ≡ whole_length x → record { refusal = 0; length = n } ≡ import_length dds
    unfolding import_length
    import_length_is l =
        length_is (file_refusal dds) (whole_length (head_made dds)) (sym (file_told dds e).0 ∙ z)
        (l ∙ ap (λ (h : Head). h.start + 16 * blocks_of h) (import_taken dds [] e z).1)

module _ (s : List ℕ) {x : Head} (e : x ≡ whole_head (sheet_head s) s) where
  abbrev h : Head
  h = sheet_head s

  pub export_length_refused : x.refusal ≢ 0 → record { refusal = x.refusal; length = 0 } ≡ export_length s
  unfolding export_length
  export_length_refused ne = length_refused (whole_refusal h s) (file_length h) (whole_number h s e) ne

  pub export_length_is : x.refusal ≡ 0 → {n : ℕ} → n ≡ file_length x → record { refusal = 0; length = n } ≡ export_length s
  unfolding export_length
  export_length_is z l =
      length_is (whole_refusal h s) (file_length h) (sym (whole_number h s e) ∙ z) (l ∙ ap file_length (whole_told h s e z).1)

-- a length fits 32 bits
pub blocks_fit : (x : Head) → Sized x.width x.height → 16 * blocks_of x < 2 ^ 31
unfolding blocks_of
blocks_fit x z = omega (arith, few_blocks z)
