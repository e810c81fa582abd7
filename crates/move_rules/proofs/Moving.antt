-- What an accepted move has, and what it leaves: the head, the blocks by their numbers, and the way back.
-- Assumes nothing.
use mathlib.Core.Path.{◌≡◌, refl, ◌∙◌, ap, ap₂, sym, subst}
use mathlib.Core.Logic.{◌≢◌}
use mathlib.Core.Bool.{not}
use mathlib.Core.List.{List, [], ◌∷◌, ◌++◌}
use Prim.Native.Nat.{ℕ, ◌+◌, ◌*◌, ◌<◌}
use native.Mathlib.Omega.{arith}
use borrow.Author.Tests.{eqb-true, ne_eqb}
use lib.Dec.{eqb}
use lib.ListN.{length, take, drop, length-append}
use lib.Seq.{drop-append_seam, drop-drop}
use Rattle.laws.specs.Refusals.{Rule, handed, refuse, unless}
use Rattle.laws.proofs.Refusals.{Answers, Decided, accepted_when, answers, by_answer, by_not, by_not_eqb, none, rule}
use Rattle.head_rules.specs.declared.ColourSpace.{ColourSpace}
use Rattle.head_rules.specs.declared.ColourSpace.TheVariants.{Unspecified, Linear, Srgb}
use Rattle.head_rules.specs.declared.Form.{Form}
use Rattle.head_rules.specs.declared.Form.TheVariants.{Rows, Tiles}
use Rattle.head_rules.specs.Answers.{Head}
use Rattle.head_rules.specs.Colours.{colour_number}
use Rattle.head_rules.specs.Geometry.{across, blocks_of, place_of, stored_at, stored_by, whole_length}
use Rattle.head_rules.specs.Heads.{bytes_of_head, head_spelt, read_head, read_of_form}
use Rattle.head_rules.specs.Numbers.{Bytes}
use Rattle.head_rules.specs.Whole.{whole_refusal}
use Rattle.head_rules.proofs.Theorems.{head_long, head_one_form, head_sized, of_form_is, of_form_when, spelt_read_back}
use Rattle.head_rules.proofs.Whole.{whole_when}
use Rattle.sheet_rules.specs.Pictures.{blocks_as}
use Rattle.bcn_format.specs.Block.{block_at}
use Rattle.sheet_rules.specs.Sheets.{block_by}
use Rattle.sheet_rules.proofs.Pictures.{all_as_stored, all_long, all_same, block_in_all}
use Rattle.move_rules.specs.Moving.{head_in_form, move_after, move_refusal, moved_to, other}

other_other : (f : Form) → other (other f) ≡ f
other_other Rows = refl
other_other Tiles = refl

-- 16: a stated colour space is one with a number above 0
pub unstated : (c : ColourSpace) → colour_number c ≡ 0 → c ≡ Unspecified
unstated Unspecified e = refl
unstated Linear e = absurd (let q : ⊥ = omega (arith, e) in q)
unstated Srgb e = absurd (let q : ⊥ = omega (arith, e) in q)

stated_test : (c : ColourSpace) → Decided (refuse 16 (not (eqb (colour_number c) 0))) 16 (c ≡ Unspecified)
stated_test c = by_not tt (eqb (colour_number c) 0) (λ e. unstated c (eqb-true _ 0 e)) (λ e. rw e)

-- the rules of a whole sheet whose head is h, as the code looks at them
abbrev pub behind_whole : Form → Head → ℕ → List Rule
behind_whole f h room = unless 11 (room ≡ whole_length (head_in_form f h)) ∷ unless 16 (h.colour_space ≡ Unspecified) ∷ []

module _ (f : Form) (s : List ℕ) (room : ℕ) where
  pub handing : Answers (move_refusal f s room) (handed (whole_refusal (read_of_form (other f) s) s) ∷ behind_whole f (read_of_form (other f) s) room)
  unfolding move_refusal
  handing =
      let h = read_of_form (other f) s in
      answers (rule by_answer λ w. rule (by_not_eqb tt room (whole_length (head_in_form f h))) λ r. rule (stated_test h.colour_space) λ c. none)

  -- what an accepted move has
  pub record Movable : Type 0 where
    pub same : read_of_form (other f) s ≡ read_head s
    pub told : (read_head s).refusal ≡ 0
    pub form_is : (read_head s).form ≡ other f
    pub long : length s ≡ whole_length (read_head s)
    pub space : room ≡ whole_length (head_in_form f (read_head s))
    pub unstated_head : (read_head s).colour_space ≡ Unspecified

  pub movable : move_refusal f s room ≡ 0 → Movable
  movable e =
      let (w, (r, (c, u))) = handing.met e in
      let z = (whole_when (read_of_form (other f) s) s).0 w in
      let (q, k) = of_form_is (other f) s z.told in
      record {
        same = q;
        told = ap (λ (h : Head). h.refusal) (sym q) ∙ z.told;
        form_is = k;
        long = subst (λ (h : Head). length s ≡ whole_length h) q z.long;
        space = subst (λ (h : Head). room ≡ whole_length (head_in_form f h)) q r;
        unstated_head = subst (λ (h : Head). h.colour_space ≡ Unspecified) q c;
      }

  pub accepts : Movable → move_refusal f s room ≡ 0
  accepts m = (accepted_when handing).1 (
    rw m.same ((whole_when (read_head s) s).1 (record { told = m.told; long = m.long })),
    (
      rw m.same m.space,
      (
        rw m.same
            m.unstated_head,
        tt,
      ),
    ),
  )

-- the output of an accepted move, and of a refused one
module _ (f : Form) (s out : List ℕ) where
  pub moved_is : move_refusal f s (length out) ≡ 0 → move_after f s out ≡ moved_to f (read_head s) s
  unfolding move_after
  moved_is e = rw e (ap (λ (h : Head). moved_to f h s) (movable f s (length out) e).same)

  pub unmoved : move_refusal f s (length out) ≢ 0 → move_after f s out ≡ out
  unfolding move_after
  unmoved ne = rw (ne_eqb _ 0 ne)

-- a whole sheet in form f: how long it is, and its blocks
module _ (f : Form) (h : Head) (s : List ℕ) (l : length s ≡ whole_length h) where
  blocks_moved : drop (head_in_form f h).start (moved_to f h s) ≡ blocks_as f h s
  unfolding moved_to
  blocks_moved = drop-append_seam (bytes_of_head (head_in_form f h)) (blocks_as f h s)

  pub long_moved : length (moved_to f h s) ≡ whole_length (head_in_form f h)
  unfolding moved_to blocks_of
  long_moved =
      length-append (bytes_of_head (head_in_form f h)) (blocks_as f h s)
      ∙ ap (λ (n : ℕ). (head_in_form f h).start + n) (all_long f h s)

  pub block_moved : (b : ℕ) → b < blocks_of h → block_by (head_in_form f h) (moved_to f h s) b ≡ block_by h s b
  unfolding block_by block_at place_of stored_at
  block_moved b lb =
      let q = 16 * stored_by f (across h.width) (across h.height) b in
      ap (take 16) (sym (drop-drop q (head_in_form f h).start (moved_to f h s)) ∙ ap (drop q) blocks_moved) ∙ block_in_all f h s l b lb

-- its head
pub head_moved : (f : Form) (s : List ℕ) → (read_head s).refusal ≡ 0 → read_head (moved_to f (read_head s) s) ≡ head_in_form f (read_head s)
unfolding moved_to
head_moved f s z =
    let h = read_head s in
    spelt_read_back f Unspecified h.width h.height (head_sized s z) (λ q. refl) (blocks_as f h s)

-- and the way back, of a sheet that says no colour space
module _ (f : Form) (s : List ℕ) (y : Bytes s) (z : (read_head s).refusal ≡ 0) (l : length s ≡ whole_length (read_head s))
    (k : (read_head s).form ≡ other f) (u : (read_head s).colour_space ≡ Unspecified) where
  abbrev h : Head
  h = read_head s

  abbrev t : List ℕ
  t = moved_to f h s

  head_is : read_head t ≡ head_in_form f h
  head_is = head_moved f s z

  spelt : head_spelt (other f) Unspecified h.width h.height ≡ bytes_of_head h
  spelt = rw (k, u)

  start_back : (head_in_form (other f) (head_in_form f h)).start ≡ h.start
  start_back = ap length spelt ∙ sym (head_long s y z)

  pub back_movable : Movable (other f) t (length s)
  unfolding blocks_of
  back_movable =
      let told : (read_head t).refusal ≡ 0 = ap (λ (x : Head). x.refusal) head_is in
      let form : (read_head t).form ≡ f = ap (λ (x : Head). x.form) head_is in
      record {
        same = ap (λ (g : Form). read_of_form g t) (other_other f) ∙ of_form_when f t told form;
        told = told;
        form_is = form ∙ sym (other_other f);
        long = long_moved f h s l ∙ ap (λ (x : Head). whole_length x) (sym head_is);
        space = l ∙ ap (λ (n : ℕ). n + 16 * blocks_of h) (sym start_back) ∙ ap (λ (x : Head). whole_length (head_in_form (other f) x)) (sym head_is);
        unstated_head = ap (λ (x : Head). x.colour_space) head_is;
      }

  pub back_is : moved_to (other f) (read_head t) t ≡ s
  unfolding moved_to
  back_is =
      ap (λ (x : Head). moved_to (other f) x t) head_is
      ∙ ap₂ (λ (a b : List ℕ). a ++ b) spelt
      (all_same (other f) h s (head_in_form f h) t refl refl (block_moved f h s l) ∙ all_as_stored (other f) h s l k)
      ∙ sym (head_one_form s y z).1
