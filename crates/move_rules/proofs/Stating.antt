-- A COLOUR SPACE STATED: when it is refused; it changes the byte before the first block and no other; the head that is read then is the
-- same under that colour space; and every block, so the picture, stays.
-- Assumes nothing.
use mathlib.Core.Path.{◌≡◌, refl, ◌∙◌, ap, ap₂, sym, subst}
use mathlib.Core.Logic.{◌↔◌, ◌≢◌}
use mathlib.Core.List.{List, [], ◌∷◌, ◌++◌, append_assoc}
use Prim.Native.Nat.{ℕ, ◌+◌, ◌-◌, ◌*◌, ◌≤◌}
use native.Mathlib.Omega.{arith}
use borrow.Author.Tests.{ne_eqb}
use lib.ListN.{length, set, take, drop, length-append}
use lib.Seq.{drop-append_seam, drop-drop, set_at}
use Rattle.std.specs.Prelude.{Result, ⊤}
use Rattle.refusals.specs.Answers.{number_of}
use Rattle.refusals.specs.declared.Refusal.{Refusal}
use Rattle.refusals.proofs.Answers.{number_fixes}
use Rattle.laws.specs.Refusals.{Given, handed, unless}
use Rattle.laws.proofs.Refusals.{Answers, answers, by_answer, exactly, none, rule, rules}
use Rattle.head_rules.specs.declared.ColourSpace.{ColourSpace}
use Rattle.head_rules.specs.declared.ColourSpace.TheVariants.{Unspecified, Linear, Srgb}
use Rattle.head_rules.specs.declared.Form.{Form}
use Rattle.head_rules.specs.declared.Form.TheVariants.{Rows, Tiles}
use Rattle.head_rules.specs.Answers.{Head}
use Rattle.head_rules.specs.Colours.{colour_number, colour_of}
use Rattle.head_rules.specs.Geometry.{place_of, stored_at, whole_length}
use Rattle.head_rules.specs.Heads.{bytes_of_head, form_number, head_in, head_spelt, read_head, read_of_form, tiled_bytes, under}
use Rattle.head_rules.specs.Numbers.{Bytes, groups, number_bytes}
use Rattle.head_rules.specs.Whole.{whole_refusal}
use Rattle.head_rules.proofs.Colours.{colour_test, number_back}
use Rattle.head_rules.proofs.Theorems.{head_long, head_one_form, head_sized, of_form_answers, of_form_is, spelt_read_back}
use Rattle.head_rules.proofs.Whole.{whole_rules_is, whole_when}
use Rattle.sheet_rules.specs.Pictures.{all_blocks, picture}
use Rattle.bcn_format.specs.Block.{block_at}
use Rattle.sheet_rules.specs.Sheets.{block_by, block_in}
use Rattle.sheet_rules.proofs.Pictures.{all_same}
use Rattle.move_rules.specs.Stating.{StatesColour, state_after, state_refusal, state_rules, stated_as}

module _ (s : List ℕ) (n : ℕ) where
  -- each refusal number is given exactly when `state_rules` says
  pub state_refused_when : (k : ℕ) → (state_refusal s n ≡ k) ↔ Given (state_rules s n) k
  unfolding state_refusal
  state_refused_when =
      exactly (answers (rules (whole_rules_is (read_of_form Tiles s) s (of_form_answers Tiles s)) λ w. rule (colour_test n) λ c. none))

  pub handing : Answers (state_refusal s n) (handed (whole_refusal (read_of_form Tiles s) s) ∷ unless 18 (n ≤ 2) ∷ [])
  unfolding state_refusal
  handing = answers (rule by_answer λ w. rule (colour_test n) λ c. none)

  -- what an accepted call has
  pub record Statable : Type 0 where
    pub told : (read_head s).refusal ≡ 0
    pub same : read_of_form Tiles s ≡ read_head s
    pub form_is : (read_head s).form ≡ Tiles
    pub long : length s ≡ whole_length (read_head s)
    pub small : n ≤ 2

  pub statable : state_refusal s n ≡ 0 → Statable
  statable e =
      let (w, (k, u)) = handing.met e in
      let z = (whole_when (read_of_form Tiles s) s).0 w in
      let (q, f) = of_form_is Tiles s z.told in
      record {
        told = ap (λ (h : Head). h.refusal) (sym q) ∙ z.told;
        same = q;
        form_is = f;
        long = subst (λ (h : Head). length s ≡ whole_length h) q z.long;
        small = k;
      }

  -- the sheet after an accepted call, and after a refused one
  pub stated_is : state_refusal s n ≡ 0 → state_after s n ≡ stated_as (read_head s) s n
  unfolding state_after
  stated_is e = rw e (ap (λ (h : Head). stated_as h s n) (statable e).same)

  pub refused_state_stays : state_refusal s n ≢ 0 → state_after s n ≡ s
  unfolding state_after
  refused_state_stays ne = rw (ne_eqb _ 0 ne)

-- the last byte of a head of form 2 is the number of its colour space; what stands before it goes by the sides alone
abbrev sides : ℕ → ℕ → List ℕ
sides w h = number_bytes 2 ++ (number_bytes w ++ number_bytes h)

one_byte : (c : ColourSpace) → number_bytes (colour_number c) ≡ colour_number c ∷ []
unfolding groups
one_byte Unspecified = refl
one_byte Linear = refl
one_byte Srgb = refl

last_byte : (c : ColourSpace) (w h : ℕ) (rest : List ℕ) → tiled_bytes c w h ++ rest ≡ sides w h ++ colour_number c ∷ rest
unfolding tiled_bytes
last_byte c w h rest = rw (one_byte c) (simp append_assoc)

long_as : (c : ColourSpace) (w h : ℕ) → length (tiled_bytes c w h) ≡ length (sides w h) + 1
unfolding tiled_bytes
long_as c w h = rw (one_byte c) (simp length-append (omega arith))

not_rows : ◌≡◌ {A = Form} Tiles Rows → ⊥
not_rows q = let z : ◌≡◌ {A = ℕ} 2 1 = ap form_number q in omega arith

-- WHAT A STATED COLOUR SPACE CHANGES, in a sheet of bytes whose call was accepted
module _ (s : List ℕ) (y : Bytes s) (n : ℕ) (e : state_refusal s n ≡ 0) where
  abbrev h : Head
  h = read_head s

  abbrev t : List ℕ
  t = state_after s n

  a : Statable s n
  a = statable s n e

  abbrev front : List ℕ
  front = sides h.width h.height

  tiled : bytes_of_head h ≡ tiled_bytes h.colour_space h.width h.height
  tiled = ap (λ (f : Form). head_spelt f h.colour_space h.width h.height) a.form_is

  starts : h.start ≡ length front + 1
  starts = head_long s y a.told ∙ ap length tiled ∙ long_as h.colour_space h.width h.height

  -- there is a byte before the first block
  pub some_head : 1 ≤ h.start
  some_head = omega (arith, starts)

  parts_before : s ≡ front ++ colour_number h.colour_space ∷ drop h.start s
  parts_before =
      (head_one_form s y a.told).1 ∙ ap (λ (bs : List ℕ). bs ++ drop h.start s) tiled
      ∙ last_byte h.colour_space h.width h.height (drop h.start s)

  parts_after : t ≡ tiled_bytes (colour_of n) h.width h.height ++ drop h.start s
  unfolding stated_as
  parts_after =
      stated_is s n e
      ∙ ap (λ (f : Form). head_spelt f (colour_of n) h.width h.height ++ drop h.start s) a.form_is

  -- the byte before the first block is the number now, and no other byte is another
  pub only_that_byte : t ≡ set s (h.start - 1) n
  only_that_byte =
      parts_after ∙ last_byte (colour_of n) h.width h.height (drop h.start s)
      ∙ ap (λ (k : ℕ). front ++ k ∷ drop h.start s) (number_back n a.small)
      ∙ sym (ap (λ (l : List ℕ). set l (h.start - 1) n) parts_before
      ∙ set_at front (colour_number h.colour_space) (drop h.start s) n (h.start - 1) (omega (arith, starts)))

  -- the head that is read then is the same under the colour space
  pub head_stated : read_head t ≡ under (colour_of n) h
  head_stated =
      let long = long_as (colour_of n) h.width h.height ∙ sym starts in
      ap read_head parts_after
      ∙ spelt_read_back Tiles (colour_of n) h.width h.height (head_sized s a.told) (λ q. absurd (not_rows q)) (drop h.start s)
      ∙ ap₂ (λ (f : Form) (k : ℕ). head_in f (colour_of n) 0 h.width h.height k) (sym a.form_is) long
      ∙ ap (λ (r : ℕ). head_in h.form (colour_of n) r h.width h.height h.start) (sym a.told)

  behind : drop h.start t ≡ drop h.start s
  behind =
      let b = tiled_bytes (colour_of n) h.width h.height in
      ap₂ (λ (k : ℕ) (l : List ℕ). drop k l) (starts ∙ sym (long_as (colour_of n) h.width h.height)) parts_after
      ∙ drop-append_seam b (drop h.start s)

  -- every block stays
  pub same_block : (b : ℕ) → block_in t b ≡ block_in s b
  unfolding block_by block_at place_of stored_at
  same_block b =
      let at = 16 * stored_at h b in
      ap (λ (x : Head). block_by x t b) head_stated
      ∙ ap (take 16) (sym (drop-drop at h.start t) ∙ ap (drop at) behind ∙ drop-drop at h.start s)

  pub same_blocks : all_blocks t ≡ all_blocks s
  same_blocks =
      all_same Rows h s (read_head t) t (ap (λ (x : Head). x.width) head_stated) (ap (λ (x : Head). x.height) head_stated) (λ b l. same_block b)

  -- so the picture does
  pub same_picture : (w k : ℕ) → picture w k (all_blocks t) ≡ picture w k (all_blocks s)
  same_picture w k = ap (picture w k) same_blocks

-- DEMAND 1: any two answers that the promise admits coincide; and where the answer is not 0, the sheet is as it was
pub determined_state : (sheet : List ℕ) (n : ℕ) (a b : Result ⊤ Refusal) (x y : List ℕ) → StatesColour sheet n a x → StatesColour sheet n b y → (a ≡ b) × (x ≡ y)
determined_state sheet n a b x y p q = (number_fixes a b (p.0 ∙ sym q.0), p.1 ∙ sym q.1)

pub refused_state_leaves : (sheet : List ℕ) (n : ℕ) (r : Result ⊤ Refusal) (x : List ℕ) → StatesColour sheet n r x → number_of r ≢ 0 → x ≡ sheet
refused_state_leaves sheet n r x p ne = p.1 ∙ refused_state_stays sheet n (λ z. ne (p.0 ∙ z))
