-- MOVES, in one place: when each refusal is given, that there and back restores the bytes, what alone is lost, and that a moved sheet shows
-- the same picture and answers every call by block number as before. Everything speaks of `move_refusal` and `move_after`, which the
-- contracts promise. `Bytes s` says that s is a list of bytes, which each slice of the code is.
-- Assumes nothing.
use mathlib.Core.Path.{◌≡◌, refl, ◌∙◌, ap, ap₂, sym, subst}
use mathlib.Core.Logic.{◌⊎◌, ◌↔◌, ◌≢◌, inl, inr, ⊎_elim}
use mathlib.Core.List.{List, [], ◌∷◌}
use Prim.Native.Nat.{ℕ, zero, suc, ◌+◌, ◌<◌, ◌≤◌}
use native.Mathlib.Omega.{arith}
use lib.ListN.{length}
use Rattle.std.specs.Prelude.{Result, ⊤}
use Rattle.refusals.specs.Answers.{number_of}
use Rattle.refusals.specs.declared.Refusal.{Refusal}
use Rattle.refusals.proofs.Answers.{number_fixes}
use Rattle.line_rules.specs.declared.Replacement.{Replacement}
use Rattle.laws.specs.Calls as calls
use Rattle.laws.specs.Refusals.{Given, here, then}
use Rattle.laws.proofs.Cases.{lt_or}
use Rattle.laws.proofs.Refusals.{accepted_when, exactly}
use Rattle.head_rules.specs.declared.ColourSpace.TheVariants.{Unspecified}
use Rattle.head_rules.specs.declared.Form.{Form}
use Rattle.head_rules.specs.declared.Form.TheVariants.{Rows, Tiles}
use Rattle.head_rules.specs.Answers.{Head}
use Rattle.head_rules.specs.Geometry.{blocks_of, whole_length}
use Rattle.head_rules.specs.Heads.{colour_in, head_spelt, read_head, read_of_form}
use Rattle.head_rules.specs.Numbers.{Bytes}
use Rattle.head_rules.proofs.Theorems.{head_long}
use Rattle.head_rules.proofs.Writing.{one_longer}
use Rattle.line_rules.specs.Calls.{after_all}
use Rattle.line_rules.specs.Replace.{refusal}
use Rattle.sheet_rules.specs.Calls.{SheetCall, WholeSheet, calls_on, on_block, refusal_on, sheet_with_all}
use Rattle.sheet_rules.specs.Pictures.{all_blocks, picture, row_of}
use Rattle.sheet_rules.specs.Rows.{row_out, row_refusal}
use Rattle.sheet_rules.specs.SheetRows.{row_blocks, sheet_row_out, sheet_row_refusal}
use Rattle.sheet_rules.specs.Sheets.{block_by, block_in, find_refusal, sheet_after, sheet_refusal}
use Rattle.sheet_rules.proofs.Calling.{acting}
use Rattle.sheet_rules.proofs.Finding.{finding}
use Rattle.sheet_rules.proofs.OnBlocks.{all_block, answered_as_block, beyond}
use Rattle.sheet_rules.proofs.Pictures.{all_same}
use Rattle.sheet_rules.proofs.SheetRows.{equals_the_first}
use Rattle.move_rules.specs.Moving.{MovesTo, head_in_form, move_after, move_refusal, move_rules, moved_to, other}
use Rattle.move_rules.proofs.Moving.{Movable, accepts, back_is, back_movable, block_moved, head_moved, movable, moved_is, unmoved}
use Rattle.move_rules.proofs.Whole.{whole_moved}
use Rattle.move_rules.proofs.Words.{moving_in_words, tiles_answers}

-- each refusal number of a move is given exactly when the request says (`move_rules` has the words of each direction)
pub move_refused_when : (f : Form) (s : List ℕ) (room n : ℕ) → (move_refusal f s room ≡ n) ↔ Given (move_rules f s room) n
move_refused_when f s room = exactly (moving_in_words f s room)

-- any two answers that a move's promise admits coincide; and where the answer is not 0, the output is as it was
pub determined_move : (f : Form) (sheet before : List ℕ) (a b : Result ⊤ Refusal) (x y : List ℕ) → MovesTo f sheet before a x → MovesTo f sheet before b y
    → (a ≡ b) × (x ≡ y)
determined_move f sheet before a b x y p q = (number_fixes a b (p.0 ∙ sym q.0), p.1 ∙ sym q.1)

pub refused_move_leaves : (f : Form) (sheet before : List ℕ) (a : Result ⊤ Refusal) (x : List ℕ) → MovesTo f sheet before a x → number_of a ≢ 0 → x ≡ before
refused_move_leaves f sheet before a x p ne = p.1 ∙ unmoved f sheet before (λ e. ne (p.0 ∙ e))

-- a sheet is one byte longer in form 2 than in form 1
module _ (f : Form) (s out : List ℕ) (y : Bytes s) (e : move_refusal f s (length out) ≡ 0) where
  start_is : (read_head s).start ≡ length (head_spelt (other f) Unspecified (read_head s).width (read_head s).height)
  start_is = let m = movable f s (length out) e in head_long s y m.told ∙ rw (m.form_is, m.unstated_head)

  lengths : length out + (read_head s).start ≡ length s + (head_in_form f (read_head s)).start
  unfolding blocks_of
  lengths = let m = movable f s (length out) e in omega (arith, m.long, m.space)

pub one_byte_more : (s out : List ℕ) → Bytes s → move_refusal Tiles s (length out) ≡ 0 → length out ≡ length s + 1
one_byte_more s out y e = omega (arith, start_is Tiles s out y e, lengths Tiles s out y e, one_longer (read_head s).width (read_head s).height)

pub one_byte_less : (s out : List ℕ) → Bytes s → move_refusal Rows s (length out) ≡ 0 → length out + 1 ≡ length s
one_byte_less s out y e = omega (arith, start_is Rows s out y e, lengths Rows s out y e, one_longer (read_head s).width (read_head s).height)

-- THERE AND BACK, from either form, for every sheet that is accepted
pub there_and_back_restores : (f : Form) (s out back : List ℕ) → Bytes s → move_refusal f s (length out) ≡ 0 → length back ≡ length s
    → (move_refusal (other f) (move_after f s out) (length back) ≡ 0) × (move_after (other f) (move_after f s out) back ≡ s)
there_and_back_restores f s out back y e eb =
    let m = movable f s (length out) e in
    let t = moved_to f (read_head s) s in
    let b : Movable (other f) t (length s) = back_movable f s y m.told m.long m.form_is m.unstated_head in
    let a : move_refusal (other f) t (length back) ≡ 0 = accepts (other f) t (length back) (subst (Movable (other f) t) (sym eb) b) in
    rw (moved_is f s out e) (a, moved_is (other f) t back a ∙ back_is f s y m.told m.long m.form_is m.unstated_head)

-- NOTHING IS LOST exactly where the colour space is not stated: of a whole sheet of form 2, with room for it in form 1, the way back is
-- refused with 16 exactly where the number of the colour space is 1 or 2, and accepted exactly where it is 0
stated : (n : ℕ) → n ≤ 2 → n ≢ 0 → (n ≡ 1) ⊎ (n ≡ 2)
stated zero l ne = absurd (ne refl)
stated (suc zero) l ne = inl refl
stated (suc (suc zero)) l ne = inr refl
stated (suc (suc (suc n))) l ne = absurd (let q : ⊥ = omega (arith, l) in q)

module _ (s : List ℕ) (room : ℕ) (k : (read_of_form Tiles s).refusal ≡ 0) (l : length s ≡ whole_length (read_head s))
    (r : room ≡ whole_length (head_in_form Rows (read_head s))) where
  stated_refused : (colour_in s).value ≢ 0 → move_refusal Rows s room ≡ 16
  stated_refused ne =
      let (a, (b, (w, (h, (c, (v, (z, u))))))) = (tiles_answers s).met k in
      (move_refused_when Rows s room 16).1 (then a (then b (then w (then h (then c (then v (then z (then l (then r (here ne))))))))))

  pub unstated_accepted : (move_refusal Rows s room ≡ 0) ↔ ((colour_in s).value ≡ 0)
  unstated_accepted = (
    λ e. let (a, (b, (w, (h, (c, (v, (z, (i, (o, (n, u)))))))))) = (moving_in_words Rows s room).met e in n,
    λ e.
        let (a, (b, (w, (h, (c, (v, (z, u))))))) = (tiles_answers s).met k in
        (accepted_when (moving_in_words Rows s room)).1 (a, (b, (w, (h, (c, (v, (z, (l, (r, (e, tt)))))))))),
  )

  pub stated_is_lost : (move_refusal Rows s room ≡ 16) ↔ (((colour_in s).value ≡ 1) ⊎ ((colour_in s).value ≡ 2))
  stated_is_lost = (
    λ e.
        let (a, (b, (w, (h, (c, (v, (z, u))))))) = (tiles_answers s).met k in
        stated (colour_in s).value v (λ n. let q : ⊥ = omega (arith, e, unstated_accepted.1 n) in q),
    λ o. stated_refused (λ n. ⊎_elim (λ x. omega (arith, n, x)) (λ x. omega (arith, n, x)) o),
  )

-- and of any whole sheet of form 2, the bytes in form 1 lead to the same sheet again exactly where its head says no colour space
pub kept_where_unstated : (s : List ℕ) → WholeSheet s → (read_head s).form ≡ Tiles
    → let t = moved_to Rows (read_head s) s in (moved_to Tiles (read_head t) t ≡ s) ↔ ((read_head s).colour_space ≡ Unspecified)
kept_where_unstated s z k = (
  λ e.
      let t = moved_to Rows (read_head s) s in
      ap (λ (x : List ℕ). (read_head x).colour_space) (sym e)
      ∙ ap (λ (h : Head). h.colour_space) (head_moved Tiles t (ap (λ (h : Head). h.refusal) (head_moved Rows s z.told))),
  λ u. back_is Rows s z.bytes z.told z.long k u,
)

-- A MOVED SHEET: t, from s
module _ (f : Form) (s out : List ℕ) (y : Bytes s) (e : move_refusal f s (length out) ≡ 0) where
  abbrev t : List ℕ
  t = move_after f s out

  abbrev m : Movable f s (length out)
  m = movable f s (length out) e

  whole : WholeSheet s
  whole = record { bytes = y; told = m.told; long = m.long }

  -- it is whole, of the same width and height, and says no colour space
  pub whole_there : WholeSheet t
  whole_there = rw (moved_is f s out e) (whole_moved f s whole)

  pub head_there : read_head t ≡ head_in_form f (read_head s)
  head_there = ap read_head (moved_is f s out e) ∙ head_moved f s m.told

  as_many : blocks_of (read_head t) ≡ blocks_of (read_head s)
  unfolding blocks_of
  as_many = rw head_there

  -- each block keeps its number
  pub same_block : (b : ℕ) → b < blocks_of (read_head s) → block_in t b ≡ block_in s b
  same_block b l =
      ap (λ (h : Head). block_by h t b) head_there
      ∙ ap (λ (x : List ℕ). block_by (head_in_form f (read_head s)) x b) (moved_is f s out e) ∙ block_moved f (read_head s) s m.long b l

  same_width : (read_head t).width ≡ (read_head s).width
  same_width = ap (λ (h : Head). h.width) head_there

  same_height : (read_head t).height ≡ (read_head s).height
  same_height = ap (λ (h : Head). h.height) head_there

  same_blocks : all_blocks t ≡ all_blocks s
  same_blocks = all_same Rows (read_head s) s (read_head t) t same_width same_height same_block

  -- it shows the same picture, and each row of blocks is decoded alike
  pub same_picture : picture (read_head t).width (read_head t).height (all_blocks t) ≡ picture (read_head s).width (read_head s).height (all_blocks s)
  same_picture =
      ap₂ (λ (a b : ℕ). picture a b (all_blocks t)) same_width same_height ∙ ap (picture (read_head s).width (read_head s).height) same_blocks

  row_blocks_is : (row : ℕ) → row_blocks t row ≡ row_blocks s row
  unfolding row_blocks
  row_blocks_is row = ap₂ (λ (a : ℕ) (x : List ℕ). row_of a x row) same_width same_blocks

  pub same_row : (row : ℕ) (o : List ℕ) → (sheet_row_refusal t row (length o) ≡ sheet_row_refusal s row (length o))
      × (sheet_row_out t row o ≡ sheet_row_out s row o)
  same_row row o =
      let w = (read_head s).width in
      let g = (read_head s).height in
      let a = equals_the_first t whole_there.told whole_there.long row o in
      let b = equals_the_first s m.told m.long row o in (
        a.0 ∙ ap₂ (λ (i j : ℕ). row_refusal i j row (length (row_blocks t row)) (length o)) same_width same_height
            ∙ ap (λ (x : List ℕ). row_refusal w g row (length x) (length o)) (row_blocks_is row) ∙ sym b.0,
        a.1 ∙ ap₂ (λ (i j : ℕ). row_out i j row (row_blocks t row) o) same_width same_height
            ∙ ap (λ (x : List ℕ). row_out w g row x o) (row_blocks_is row) ∙ sym b.1,
      )

  -- and every call by block number is answered as before: a block is found, or not; a line of it is replaced, or not; and whatever list of
  -- calls is made on both sheets, each block is the same in both afterwards
  pub same_found : (b : ℕ) → find_refusal (read_head t) t b ≡ find_refusal (read_head s) s b
  same_found b = ⊎_elim
      (λ l. (accepted_when (finding t b)).1 (whole_there.told, (whole_there.long, (rw as_many l, tt)))
      ∙ sym ((accepted_when (finding s b)).1 (m.told, (m.long, (l, tt)))))
      (λ l. (exactly (finding t b) 12).1 (then whole_there.told (then whole_there.long (here (λ n. omega (arith, as_many, n, l)))))
      ∙ sym ((exactly (finding s b) 12).1 (then m.told (then m.long (here (λ n. omega (arith, n, l)))))))
      (lt_or b (blocks_of (read_head s)))

  same_call : (c : SheetCall) → refusal_on t c ≡ refusal_on s c
  same_call c = ⊎_elim
      (λ l. answered_as_block acting t whole_there c (rw as_many l) ∙ ap (λ (x : List ℕ). refusal x (on_block c)) (same_block c.block l)
      ∙ sym (answered_as_block acting s whole c l))
      (λ l. beyond acting t whole_there c (rw as_many l) ∙ sym (beyond acting s whole c l))
      (lt_or c.block (blocks_of (read_head s)))

  pub same_answer : (b l : ℕ) (new : Replacement) → sheet_refusal (read_head t) t b l new ≡ sheet_refusal (read_head s) s b l new
  same_answer b l new = same_call (record { block = b; line = l; given = new })

  pub same_after_all : (cs : List SheetCall) (b : ℕ) → b < blocks_of (read_head s) → block_in (sheet_with_all t cs) b ≡ block_in (sheet_with_all s cs) b
  same_after_all cs b l =
      all_block acting cs t whole_there b (rw as_many l) ∙ ap (λ (x : List ℕ). after_all x (calls_on b cs)) (same_block b l)
      ∙ sym (all_block acting cs s whole b l)

  pub same_after : (a l : ℕ) (new : Replacement) (b : ℕ) → b < blocks_of (read_head s)
      → block_in (sheet_after (read_head t) t a l new) b ≡ block_in (sheet_after (read_head s) s a l new) b
  unfolding calls.run
  same_after a l new b lb = same_after_all (record { block = a; line = l; given = new } ∷ []) b lb
