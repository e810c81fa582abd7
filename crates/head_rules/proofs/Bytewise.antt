-- The reader, byte by byte and number by number, and that both ways read the head that `read_head` defines.
-- Assumes nothing.
use mathlib.Core.Path.{◌≡◌, refl, ◌∙◌, ap, ap₂, sym, subst}
use mathlib.Core.Bool.{Bool, true, false}
use mathlib.Core.Logic.{◌⊎◌, inl, inr, ⊎_elim, ◌≢◌}
use mathlib.Core.List.{List, [], ◌∷◌}
use Prim.Native.Nat.{ℕ, zero, suc, ◌+◌, ◌*◌, ◌%◌, ◌^◌, ◌<◌, ◌≤◌}
use native.Mathlib.Nat.{add_assoc, add-zero, eq-zero-or-pos, le_refl, lt_of_lt_of_le, mul-le-mul, pow-le-pow_right, pow-suc}
use native.Mathlib.Decide.{ℕ_discrete}
use native.Mathlib.Numerals.{add-one}
use native.Mathlib.Omega.{arith}
use lib.Dec.{eqb, ltb}
use lib.ListN.{length, get_or, drop, drop_of_length-le}
use lib.Seq.{drop-cons}
use borrow.Author.Tests.{eq-eqb, eqb-false, eqb-true, le-ltb, lt-ltb, ne_eqb}
use Rattle.head_rules.specs.Answers.{Head}
use Rattle.head_rules.specs.Answers.{Number}
use Rattle.head_rules.specs.Answers.{HeadReader}
use Rattle.head_rules.specs.declared.Stage.{Stage}
use Rattle.head_rules.specs.declared.ColourSpace.TheVariants.{Unspecified}
use Rattle.head_rules.specs.declared.Form as order
use Rattle.head_rules.specs.declared.Form.TheVariants.{Rows, Tiles}
use Rattle.head_rules.specs.declared.Stage.TheVariants.{Form, Width, Height, Colour, Ended}
use Rattle.laws.specs.Refusals.{Given, here, then}
use Rattle.laws.specs.Tables.{pick}
use Rattle.laws.proofs.Cases.{lt_or, pick_either}
use Rattle.laws.proofs.Refusals.{accepted_when, decided_not, decided_so, exactly}
use Rattle.laws.proofs.Tests.{no_both}
use Rattle.head_rules.specs.Colours.{colour_of, colour_refusal}
use Rattle.head_rules.specs.Heads.{IsForm, Sized, colour_behind, colour_in, form_in, form_number, form_of, head_in, head_of, head_rules, head_told}
use Rattle.head_rules.specs.Heads.{height_in, limit, read_head, size_refusal, width_in}
use Rattle.head_rules.specs.Numbers.{found, no_number, raised, read_groups, read_number}
use Rattle.head_rules.specs.Reader.{Going, Reading, at_form, awaiting, before, byte_taken, empty_above, ended_in, form_taken, group_taken, has_ended}
use Rattle.head_rules.specs.Reader.{colour_taken, height_taken, last_taken, next_number, number_in, read_by, refused_with, size_taken}
use Rattle.head_rules.proofs.Colours.{colour_test}
use Rattle.head_rules.proofs.Heading.{accepted, form_kept, head_rules_is, is_form, refusal_is, refused, size_0, size_refused, sized}
use Rattle.head_rules.proofs.Reading.{cut_off, last_group, more_groups, near, no_group, raised_none, raised_some}

-- a reader that has ended, and one that has not
module _ (r : HeadReader) where
  pub read_ended : has_ended r ≡ true → (bs : List ℕ) → read_by r bs ≡ record { head = r.head; rest = bs }
  unfolding read_by
  read_ended e [] = rw e
  read_ended e (b ∷ bs) = rw e

  pub read_byte : has_ended r ≡ false → (b : ℕ) (bs : List ℕ) → read_by r (b ∷ bs) ≡ read_by (byte_taken r b) bs
  unfolding read_by
  read_byte e b bs = rw e

  pub read_cut : has_ended r ≡ false → read_by r [] ≡ record { head = head_of 7 0 0 0; rest = [] }
  unfolding read_by
  read_cut e = rw e

-- the ways of a byte
module _ (r : HeadReader) (b : ℕ) where
  empty_refused : 0 < r.groups → b ≡ 0 → last_taken r b ≡ refused_with 7
  unfolding last_taken
  empty_refused l e = rw (lt-ltb 0 r.groups l, eq-eqb b 0 e)

  first_taken : r.groups ≡ 0 → last_taken r b ≡ number_in r.stage r.head (r.low + b * 128 ^ r.groups) (r.head.start + r.groups + 1)
  unfolding last_taken
  first_taken e = rw (le-ltb 0 r.groups (omega arith))

  some_taken : (b ≡ 0 → ⊥) → last_taken r b ≡ number_in r.stage r.head (r.low + b * 128 ^ r.groups) (r.head.start + r.groups + 1)
  unfolding last_taken
  some_taken ne =
      ⊎_elim (λ z. rw (le-ltb 0 r.groups (omega arith))) (λ l. rw (lt-ltb 0 r.groups l, ne_eqb b 0 ne)) (eq-zero-or-pos r.groups)

-- what the groups of r and the number that the next bytes spell are together
whole : HeadReader → Number → Number
whole r n = pick (eqb r.groups 0) n (pick (eqb n.value 0) no_number (found (r.low + n.value * 128 ^ r.groups) n.next))

whole_none : (r : HeadReader) → whole r no_number ≡ no_number
unfolding whole
whole_none r = go (eqb r.groups 0)
  where
    go : (t : Bool) → pick t no_number no_number ≡ no_number
    go true = refl
    go false = refl

abbrev grown : HeadReader → ℕ → HeadReader
grown r b = record { stage = r.stage; low = r.low + b % 128 * 128 ^ r.groups; groups = r.groups + 1; head = r.head }

whole_raised : (r : HeadReader) (b : ℕ) (n : Number) → (r.groups ≡ 0 → r.low ≡ 0) → whole r (raised b n) ≡ whole (grown r b) n
unfolding whole
whole_raised r b n low = ⊎_elim none some (eq-zero-or-pos n.value)
  where
    more : eqb (r.groups + 1) 0 ≡ false
    more = ne_eqb (r.groups + 1) 0 (λ e. omega arith)

    none : n.value ≡ 0 → whole r (raised b n) ≡ whole (grown r b) n
    none e = ap (whole r) (raised_none b n e) ∙ whole_none r ∙ sym (rw (more, eq-eqb n.value 0 e))

    some : 0 < n.value → whole r (raised b n) ≡ whole (grown r b) n
    some l = ap (whole r) (raised_some b n (λ e. omega arith)) ∙ ⊎_elim first later (eq-zero-or-pos r.groups)
        ∙ sym (rw (more, ne_eqb n.value 0 (λ e. omega arith)))
      where
        first : r.groups ≡ 0 → whole r (found (n.value * 128 + b % 128) n.next)
            ≡ found (r.low + b % 128 * 128 ^ r.groups + n.value * 128 ^ (r.groups + 1)) n.next
        first e = rw (eq-eqb r.groups 0 e) (rw (e, low e) (ap (λ (v : ℕ). found v n.next) (omega arith)))

        later : 0 < r.groups → whole r (found (n.value * 128 + b % 128) n.next)
            ≡ found (r.low + b % 128 * 128 ^ r.groups + n.value * 128 ^ (r.groups + 1)) n.next
        later p = rw (ne_eqb r.groups 0 (λ e. omega arith), ne_eqb (n.value * 128 + b % 128) 0 (λ e. omega arith))
            (ap (λ (v : ℕ). found v n.next) (rw (add-one r.groups, pow-suc 128 r.groups) (omega arith)))

-- the bytes of a sheet behind those of a reader, and what comes of the number that they go on with
module _ (s : List ℕ) where
  abbrev from : HeadReader → List ℕ
  from r = drop (r.head.start + r.groups) s

  record Ends (r : HeadReader) (m : Number) : Type 0 where
    told : m.refusal ≡ 0
    goes : read_by r (from r) ≡ read_by (number_in r.stage r.head m.value m.next) (drop m.next s)

  record Breaks (r : HeadReader) (m : Number) : Type 0 where
    told : m.refusal ≡ 7
    said : (read_by r (from r)).head ≡ head_of 7 0 0 0

  abbrev Told : HeadReader → Number → Type 0
  Told r m = Ends r m ⊎ Breaks r m

  broken : (r : HeadReader) {m : Number} → no_number ≡ m → (read_by r (from r)).head ≡ head_of 7 0 0 0 → Told r m
  broken r e q = inr (record { told = ap (λ (n : Number). n.refusal) (sym e); said = q })

  module _ (r : HeadReader) (un : has_ended r ≡ false) (low : r.groups ≡ 0 → r.low ≡ 0) where
    abbrev at : ℕ
    at = r.head.start + r.groups

    abbrev byte : ℕ
    byte = get_or s at 0

    cut : (k : ℕ) → length s ≤ at → Told r (whole r (read_groups k at (drop at s)))
    cut k l = broken r (sym (ap (whole r) (sym (cut_off s at k l)) ∙ whole_none r))
        (rw (drop_of_length-le s {i = at} l) (ap (λ (x : Reading). x.head) (read_cut r un)))

    module _ (l : at < length s) where
      read_on : read_by r (drop at s) ≡ read_by (byte_taken r byte) (drop (at + 1) s)
      read_on = rw (drop-cons s at 0 l) (read_byte r un byte _ ∙ ap (λ (i : ℕ). read_by (byte_taken r byte) (drop i s)) (sym (add-one at)))

      -- the byte breaks the number off, ends it, or goes on with it
      refused_there : byte_taken r byte ≡ refused_with 7 → {m : Number} → no_number ≡ m → Told r m
      refused_there e q = broken r q (ap (λ (x : Reading). x.head)
          (read_on ∙ ap (λ (x : HeadReader). read_by x (drop (at + 1) s)) e ∙ read_ended (refused_with 7) refl _))

      ends_there : (v : ℕ) → byte_taken r byte ≡ number_in r.stage r.head v (at + 1) → {m : Number} → found v (at + 1) ≡ m → Told r m
      ends_there v e q =
          subst (Told r) q (inl (record { told = refl; goes = read_on ∙ ap (λ (x : HeadReader). read_by x (drop (at + 1) s)) e }))

      last_told : (k : ℕ) → byte < 128 → Told r (whole r (read_groups (suc k) at (drop at s)))
      unfolding whole
      last_told k b = ⊎_elim first later (eq-zero-or-pos r.groups)
        where
          taken : byte_taken r byte ≡ last_taken r byte
          taken = rw (lt-ltb byte 128 b)

          read : whole r (found byte (at + 1)) ≡ whole r (read_groups (suc k) at (drop at s))
          read = ap (whole r) (last_group s at k l b refl)

          first : r.groups ≡ 0 → Told r (whole r (read_groups (suc k) at (drop at s)))
          first e =
              ends_there (r.low + byte * 128 ^ r.groups) (taken ∙ first_taken r byte e)
              (rw (eq-eqb r.groups 0 e) (ap (λ (v : ℕ). found v (at + 1)) (rw (e, low e) (omega arith))) ∙ read)

          later : 0 < r.groups → Told r (whole r (read_groups (suc k) at (drop at s)))
          later p = ⊎_elim (λ z. refused_there (taken ∙ empty_refused r byte p z)
              (sym (rw (ne_eqb r.groups 0 (λ q. omega arith), eq-eqb byte 0 z)) ∙ read))
              (λ q. ends_there (r.low + byte * 128 ^ r.groups) (taken ∙ some_taken r byte (λ z. omega (arith, q, z)))
              (sym (rw (ne_eqb r.groups 0 (λ q. omega arith), ne_eqb byte 0 (λ z. omega (arith, q, z)))) ∙ read)) (eq-zero-or-pos byte)

      more_refused : 128 ≤ byte → r.groups ≡ 2 → Told r (whole r (read_groups 1 at (drop at s)))
      unfolding group_taken
      more_refused b e = refused_there (rw (le-ltb byte 128 b, eq-eqb r.groups 2 e)) (sym (ap (whole r) (sym (no_group s at l b)) ∙ whole_none r))

      -- the place of the byte behind, as either reader counts it
      place : r.head.start + (r.groups + 1) ≡ at + 1
      place = sym (add_assoc r.head.start r.groups 1)

      grown_read : 128 ≤ byte → r.groups ≢ 2 → read_by r (drop at s) ≡ read_by (grown r byte) (from (grown r byte))
      unfolding group_taken
      grown_read b n = read_on ∙ ap₂ read_by (rw (le-ltb byte 128 b, ne_eqb r.groups 2 n)) (ap (λ (i : ℕ). drop i s) (sym place))

      more_told : (k : ℕ) → 128 ≤ byte → r.groups ≢ 2
          → Told (grown r byte) (whole (grown r byte) (read_groups (suc k) (r.head.start + (r.groups + 1)) (from (grown r byte))))
          → Told r (whole r (read_groups (suc (suc k)) at (drop at s)))
      more_told k b n t = subst (Told r) same (⊎_elim
          (λ e. inl (record { told = e.told; goes = grown_read b n ∙ e.goes }))
          (λ e. inr (record { told = e.told; said = ap (λ (x : Reading). x.head) (grown_read b n) ∙ e.said })) t)
        where
          same : whole (grown r byte) (read_groups (suc k) (r.head.start + (r.groups + 1)) (from (grown r byte)))
              ≡ whole r (read_groups (suc (suc k)) at (drop at s))
          same =
              sym (whole_raised r byte _ low)
              ∙ ap (whole r) (more_groups s at (suc k) l b (ap (λ (i : ℕ). read_groups (suc k) i (drop i s)) place))

  -- a number that the bytes go on with is taken byte by byte as it is read at once
  number_run : (k : ℕ) (r : HeadReader) → has_ended r ≡ false → (r.groups ≡ 0 → r.low ≡ 0) → r.groups + suc k ≡ 3
      → Told r (whole r (read_groups (suc k) (r.head.start + r.groups) (from r)))
  number_run zero r un low e =
      ⊎_elim (λ l. ⊎_elim (last_told r un low l zero) (λ b. more_refused r un low l b (omega arith)) (lt_or _ 128)) (cut r un low 1)
      (lt_or _ (length s))
  number_run (suc k) r un low e =
      ⊎_elim (λ l. ⊎_elim (last_told r un low l (suc k))
      (λ b. more_told r un low l k b (λ q. omega arith) (number_run k (grown r _) un (λ q. absurd (let z : ⊥ = omega arith in z)) (omega arith)))
      (lt_or _ 128))
      (cut r un low (suc (suc k))) (lt_or _ (length s))

  -- so is the number of a stage
  module _ (p : Stage) (h : Head) (un : ended_in p ≡ false) where
    number_told : Told (awaiting p h) (read_number s h.start)
    unfolding read_number whole
    number_told = subst (λ (i : ℕ). Told (awaiting p h) (read_groups 3 i (drop i s))) (add-zero h.start)
        (number_run 2 (awaiting p h) un (λ e. refl) refl)

    behind : {x : Reading} → read_by (awaiting p h) (from (awaiting p h)) ≡ x → read_by (awaiting p h) (drop h.start s) ≡ x
    behind {x} e = subst (λ (i : ℕ). read_by (awaiting p h) (drop i s) ≡ x) (add-zero h.start) e

    pub number_read : (read_number s h.start).refusal ≡ 0
        → read_by (awaiting p h) (drop h.start s) ≡ read_by (number_in p h (read_number s h.start).value (read_number s h.start).next)
        (drop (read_number s h.start).next s)
    number_read z = ⊎_elim (λ e. behind e.goes) (λ e. absurd (let q : ⊥ = omega (arith, e.told, z) in q)) number_told

    pub number_broken : (read_number s h.start).refusal ≢ 0 → (read_by (awaiting p h) (drop h.start s)).head
        ≡ head_of (read_number s h.start).refusal 0 0 0
    number_broken z = ⊎_elim (λ e. absurd (z e.told)) (λ e. ap (λ (x : Reading). x.head) (behind refl) ∙ e.said
        ∙ ap (λ (n : ℕ). head_of n 0 0 0) (sym e.told)) number_told

    next_taken : (read_number s h.start).refusal ≡ 0
        → next_number s (awaiting p h) ≡ number_in p h (read_number s h.start).value (read_number s h.start).next
    unfolding next_number
    next_taken z = rw (un, eq-eqb _ 0 z)

    next_refused : (read_number s h.start).refusal ≢ 0 → next_number s (awaiting p h) ≡ refused_with (read_number s h.start).refusal
    unfolding next_number
    next_refused z = rw (un, ne_eqb _ 0 z)

-- the next number, and where it ends
module _ (s : List ℕ) (r : HeadReader) where
  next_stays : has_ended r ≡ true → next_number s r ≡ r
  unfolding next_number
  next_stays e = rw e

  size_near : (h : Head) (most : ℕ) → h.start ≤ most → (size_taken h).head.start ≤ most
  unfolding size_taken
  size_near h most l = pick_either (λ (x : HeadReader). x.head.start ≤ most) (eqb (size_refusal h.width h.height) 0) l (omega arith)

  height_near : (f : order.Form) (w n next most : ℕ) → next ≤ most → (height_taken f w n next).head.start ≤ most
  height_near Rows w n next most l = size_near (head_of 0 w n next) most l
  height_near Tiles w n next most l = l

  number_near : (p : Stage) (h : Head) (v next most : ℕ) → next ≤ most → h.start ≤ most → (number_in p h v next).head.start ≤ most
  unfolding form_taken colour_taken
  number_near Form h v next most l m = pick_either (λ (x : HeadReader). x.head.start ≤ most) (eqb (form_number (form_of v)) v) l (omega arith)
  number_near Width h v next most l m = l
  number_near Height h v next most l m = height_near h.form h.width v next most l
  number_near Colour h v next most l m =
      pick_either (λ (x : HeadReader). x.head.start ≤ most) (eqb (colour_refusal v) 0)
      (size_near (head_in h.form (colour_of v) 0 h.width h.height next) most l) (omega arith)
  number_near Ended h v next most l m = m

  pub next_near : (next_number s r).head.start ≤ r.head.start + 3
  unfolding next_number
  next_near =
      pick_either (λ (x : HeadReader). x.head.start ≤ r.head.start + 3) (has_ended r) (omega arith)
      (pick_either (λ (x : HeadReader). x.head.start ≤ r.head.start + 3) (eqb (read_number s r.head.start).refusal 0)
      (number_near r.stage r.head _ _ _ (near s r.head.start refl) (omega arith)) (omega arith))

  -- the ways of `next_number`
  pub no_next : {t : Bool} → t ≡ has_ended r → t ≡ true → r ≡ next_number s r
  no_next e z = sym (next_stays (sym e ∙ z))

  module _ {t : Bool} (e : t ≡ has_ended r) (z : t ≡ false) {n : Number} (en : n ≡ read_number s r.head.start) where
    pub next_refuses : n.refusal ≢ 0 → refused_with n.refusal ≡ next_number s r
    unfolding next_number
    next_refuses ne = sym (rw (sym e ∙ z, ← en, ne_eqb n.refusal 0 ne))

    pub next_takes : n.refusal ≡ 0 → number_in r.stage r.head n.value n.next ≡ next_number s r
    unfolding next_number
    next_takes y = sym (rw (sym e ∙ z, ← en, eq-eqb n.refusal 0 y))

-- behind the height: form 1 has come whole, form 2 goes on with the number of its colour space
module _ (s : List ℕ) (w h at : ℕ) where
  abbrev number : order.Form → Number
  number f = colour_behind f s at

  abbrev sized_next : order.Form → Head
  sized_next f = head_in f (colour_of (number f).value) 0 w h (number f).next

  size_ended : (x : Head) → has_ended (size_taken x) ≡ true
  unfolding size_taken
  size_ended x = pick_either (λ (r : HeadReader). has_ended r ≡ true) (eqb (size_refusal x.width x.height) 0) refl refl

  past_space : (f : order.Form) → (number f).refusal ≡ 0 → (number f).value ≤ 2
      → (next_number s (height_taken f w h at) ≡ size_taken (sized_next f))
      × (read_by (height_taken f w h at) (drop at s) ≡ read_by (size_taken (sized_next f)) (drop (number f).next s))
  unfolding colour_of colour_taken
  past_space Rows z l = (next_stays s (size_taken (head_of 0 w h at)) (size_ended (head_of 0 w h at)), refl)
  past_space Tiles z l =
      let x = head_in Tiles Unspecified 0 w h at in
      let t : colour_taken x (number Tiles).value (number Tiles).next ≡ size_taken (sized_next Tiles)
      = rw (decided_so (colour_test (number Tiles).value) l) in (
        next_taken s Colour x refl z ∙ t,
        number_read s Colour x refl z
            ∙ ap (λ (r : HeadReader). read_by r (drop (number Tiles).next s)) t,
      )

  -- what both ways say of a head that breaks there
  abbrev Says : order.Form → ℕ → Type 0
  Says f n = ((next_number s (height_taken f w h at)).head ≡ head_of n 0 0 0) × ((read_by (height_taken f w h at) (drop at s)).head ≡ head_of n 0 0 0)

  no_number_there : (f : order.Form) → (number f).refusal ≢ 0 → Says f (number f).refusal
  no_number_there Rows ne = absurd (ne refl)
  no_number_there Tiles ne =
      let x = head_in Tiles Unspecified 0 w h at in
      (ap (λ (r : HeadReader). r.head) (next_refused s Colour x refl ne), number_broken s Colour x refl ne)

  no_space_there : (f : order.Form) → (number f).refusal ≡ 0 → ((number f).value ≤ 2 → ⊥) → Says f 18
  unfolding colour_taken
  no_space_there Rows z ne = absurd (ne (omega arith))
  no_space_there Tiles z ne =
      let x = head_in Tiles Unspecified 0 w h at in
      let t : colour_taken x (number Tiles).value (number Tiles).next ≡ refused_with 18
      = rw (decided_not (colour_test (number Tiles).value) ne) in (
        ap (λ (r : HeadReader). r.head)
            (next_taken s Colour x refl z ∙ t),
        ap (λ (r : Reading). r.head)
            (number_read s Colour x refl z ∙ ap (λ (r : HeadReader). read_by r (drop (number Tiles).next s)) t
            ∙ read_ended (refused_with 18) refl _),
      )

-- all numbers of a head, one after the other, and the whole head byte by byte
module _ (s : List ℕ) where
  abbrev all : HeadReader → HeadReader
  all r = next_number s (next_number s (next_number s (next_number s r)))

  abbrev form : order.Form
  form = form_of (form_in s).value

  abbrev behind_form : HeadReader
  behind_form = awaiting Width (head_in form Unspecified 0 0 0 (form_in s).next)

  abbrev behind_width : HeadReader
  behind_width = awaiting Height (head_in form Unspecified 0 (width_in s).value 0 (width_in s).next)

  abbrev behind_height : HeadReader
  behind_height = height_taken form (width_in s).value (height_in s).value (height_in s).next

  -- both ways read this head
  record Reads (h : Head) : Type 0 where
    by_numbers : (all at_form).head ≡ h
    by_bytes : (read_by at_form s).head ≡ h

  -- past each number that is accepted
  module _ (z : (form_in s).refusal ≡ 0) where
    past_form : IsForm (form_in s).value → (next_number s at_form ≡ behind_form) × (read_by at_form s ≡ read_by behind_form (drop (form_in s).next s))
    unfolding form_in form_taken
    past_form e =
        let t : form_taken (form_in s).value (form_in s).next ≡ behind_form = rw (eq-eqb (form_number form) (form_in s).value (form_kept e)) in (
          next_taken s Form (head_of 0 0 0 0) refl z ∙ t,
          number_read s Form (head_of 0 0 0 0) refl z
              ∙ ap (λ (r : HeadReader). read_by r (drop (form_in s).next s)) t,
        )

    other_form : (IsForm (form_in s).value → ⊥) → Reads (head_of 8 0 0 0)
    unfolding form_in form_taken next_number
    other_form e =
        let ne : form_number form ≢ (form_in s).value = λ q. e (is_form q) in
        let t : form_taken (form_in s).value (form_in s).next ≡ refused_with 8 = rw (ne_eqb (form_number form) (form_in s).value ne) in
        record {
          by_numbers = ap (λ (r : HeadReader). (next_number s (next_number s (next_number s r))).head)
              (next_taken s Form (head_of 0 0 0 0) refl z ∙ t);
          by_bytes = ap (λ (x : Reading). x.head) (number_read s Form (head_of 0 0 0 0) refl z
              ∙ ap (λ (r : HeadReader). read_by r (drop (form_in s).next s)) t ∙ read_ended (refused_with 8) refl _);
        }

  no_form : (form_in s).refusal ≢ 0 → Reads (head_of (form_in s).refusal 0 0 0)
  unfolding form_in next_number
  no_form z = record {
    by_numbers = ap (λ (r : HeadReader). (next_number s (next_number s (next_number s r))).head) (next_refused s Form (head_of 0 0 0 0) refl z);
    by_bytes = number_broken s Form (head_of 0 0 0 0) refl z;
  }

  module _ (z : (form_in s).refusal ≡ 0) (e : IsForm (form_in s).value) where
    no_width : (width_in s).refusal ≢ 0 → Reads (head_of (width_in s).refusal 0 0 0)
    unfolding width_in next_number
    no_width y = record {
      by_numbers = ap (λ (r : HeadReader). (next_number s (next_number s (next_number s r))).head) (past_form z e).0
          ∙ ap (λ (r : HeadReader). (next_number s (next_number s r)).head)
          (next_refused s Width (head_in form Unspecified 0 0 0 (form_in s).next) refl y);
      by_bytes = ap (λ (x : Reading). x.head) (past_form z e).1
          ∙ number_broken s Width (head_in form Unspecified 0 0 0 (form_in s).next) refl y;
    }

    module _ (y : (width_in s).refusal ≡ 0) where
      past_width : (next_number s (next_number s at_form) ≡ behind_width) × (read_by at_form s ≡ read_by behind_width (drop (width_in s).next s))
      unfolding width_in
      past_width = (ap (next_number s) (past_form z e).0 ∙ next_taken s Width _ refl y, (past_form z e).1 ∙ number_read s Width _ refl y)

      no_height : (height_in s).refusal ≢ 0 → Reads (head_of (height_in s).refusal 0 0 0)
      unfolding height_in next_number
      no_height x = record {
        by_numbers = ap (λ (r : HeadReader). (next_number s (next_number s r)).head) past_width.0 ∙ ap (λ (r : HeadReader). (next_number s r).head)
            (next_refused s Height behind_width.head refl x);
        by_bytes = ap (λ (t : Reading). t.head) past_width.1 ∙ number_broken s Height _ refl x;
      }

      module _ (x : (height_in s).refusal ≡ 0) where
        past_height : (next_number s (next_number s (next_number s at_form)) ≡ behind_height)
            × (read_by at_form s ≡ read_by behind_height (drop (height_in s).next s))
        unfolding height_in
        past_height = (ap (next_number s) past_width.0 ∙ next_taken s Height _ refl x, past_width.1 ∙ number_read s Height _ refl x)

        breaks : (n : ℕ) → Says s (width_in s).value (height_in s).value (height_in s).next form n → Reads (head_of n 0 0 0)
        breaks n q = record {
          by_numbers = ap (λ (r : HeadReader). (next_number s r).head) past_height.0 ∙ q.0;
          by_bytes = ap (λ (t : Reading). t.head) past_height.1 ∙ q.1;
        }

        no_colour : (colour_in s).refusal ≢ 0 → Reads (head_of (colour_in s).refusal 0 0 0)
        unfolding colour_in
        no_colour ne = breaks _ (no_number_there s (width_in s).value (height_in s).value (height_in s).next form ne)

        module _ (c : (colour_in s).refusal ≡ 0) where
          no_space : ((colour_in s).value ≤ 2 → ⊥) → Reads (head_of 18 0 0 0)
          unfolding colour_in
          no_space ne = breaks 18 (no_space_there s (width_in s).value (height_in s).value (height_in s).next form c ne)

          module _ (l : (colour_in s).value ≤ 2) where
            past_colour : (all at_form ≡ size_taken (head_told s)) × (read_by at_form s ≡ read_by (size_taken (head_told s)) (drop (colour_in s).next s))
            unfolding colour_in
            past_colour =
                let q = past_space s (width_in s).value (height_in s).value (height_in s).next form c l in
                (ap (next_number s) past_height.0 ∙ q.0, past_height.1 ∙ q.1)

            no_size : size_refusal (width_in s).value (height_in s).value ≢ 0
                → Reads (head_of (size_refusal (width_in s).value (height_in s).value) 0 0 0)
            unfolding size_taken
            no_size ne =
                let t : size_taken (head_told s) ≡ refused_with (size_refusal (width_in s).value (height_in s).value) = rw (ne_eqb _ 0 ne) in
                record {
                  by_numbers = ap (λ (r : HeadReader). r.head) (past_colour.0 ∙ t);
                  by_bytes = ap (λ (w : Reading). w.head) (past_colour.1 ∙ ap (λ (r : HeadReader). read_by r (drop (colour_in s).next s)) t
                      ∙ read_ended (refused_with _) refl _);
                }

            -- and past the head
            pub read_whole : size_refusal (width_in s).value (height_in s).value ≡ 0
                → (all at_form ≡ awaiting Ended (head_told s)) × (read_by at_form s ≡ record { head = head_told s; rest = drop (colour_in s).next s })
            unfolding size_taken
            read_whole q =
                let t : size_taken (head_told s) ≡ awaiting Ended (head_told s) = rw (eq-eqb _ 0 q) in (
                  past_colour.0 ∙ t,
                  past_colour.1 ∙ ap (λ (r : HeadReader). read_by r (drop (colour_in s).next s)) t
                      ∙ read_ended (awaiting Ended (head_told s)) refl _,
                )

  told : {n : ℕ} → Given (head_rules s) n → n ≢ 0 → head_of n 0 0 0 ≡ read_head s
  told {n} g ne = refused limit s n ((exactly (head_rules_is limit s) n).1 g) ne

  -- number by number
  module _ (z : (form_in s).refusal ≡ 0) (e : IsForm (form_in s).value) where
    module _ (y : (width_in s).refusal ≡ 0) (x : (height_in s).refusal ≡ 0) where
      size_told : (c : (colour_in s).refusal ≡ 0) (l : (colour_in s).value ≤ 2)
          → (size_refusal (width_in s).value (height_in s).value ≡ 0) ⊎ (0 < size_refusal (width_in s).value (height_in s).value)
          → Reads (read_head s)
      size_told c l (inl q) =
          let t = accepted limit s ((accepted_when (head_rules_is limit s)).1 (z, (e, (y, (x, (c, (l, (sized _ _ _ q, tt)))))))) in
          let w = read_whole z e y x c l q in
          record { by_numbers = ap (λ (r : HeadReader). r.head) w.0 ∙ t; by_bytes = ap (λ (r : Reading). r.head) w.1 ∙ t }
      size_told c l (inr p) =
          let ne : size_refusal (width_in s).value (height_in s).value ≢ 0 = λ q. omega arith in
          let n = size_refused _ _ _ refl ne in
          subst Reads (ap (λ (m : ℕ). head_of m 0 0 0) n.0
          ∙ told (then z (then e (then y (then x (then c (then l (here n.1))))))) (λ q. omega arith)) (no_size z e y x c l ne)

      space_told : (c : (colour_in s).refusal ≡ 0) → ((colour_in s).value < 3) ⊎ (3 ≤ (colour_in s).value) → Reads (read_head s)
      space_told c (inl l) = size_told c (omega arith) (eq-zero-or-pos _)
      space_told c (inr l) =
          let ne : (colour_in s).value ≤ 2 → ⊥ = λ q. omega arith in
          subst Reads (told (then z (then e (then y (then x (then c (here ne)))))) (λ q. omega arith)) (no_space z e y x c ne)

      colour_told : ((colour_in s).refusal ≡ 0) ⊎ (0 < (colour_in s).refusal) → Reads (read_head s)
      colour_told (inl c) = space_told c (lt_or (colour_in s).value 3)
      colour_told (inr l) =
          let ne : (colour_in s).refusal ≢ 0 = λ q. omega arith in
          subst Reads (told (then z (then e (then y (then x (here ne))))) ne) (no_colour z e y x ne)

    height_told : (y : (width_in s).refusal ≡ 0) → ((height_in s).refusal ≡ 0) ⊎ (0 < (height_in s).refusal) → Reads (read_head s)
    height_told y (inl x) = colour_told y x (eq-zero-or-pos _)
    height_told y (inr l) = let ne : (height_in s).refusal ≢ 0 = λ q. omega arith in subst Reads (told (then z (then e (then y (here ne)))) ne)
        (no_height z e y ne)

    width_told : ((width_in s).refusal ≡ 0) ⊎ (0 < (width_in s).refusal) → Reads (read_head s)
    width_told (inl y) = height_told y (eq-zero-or-pos _)
    width_told (inr l) = let ne : (width_in s).refusal ≢ 0 = λ q. omega arith in subst Reads (told (then z (then e (here ne))) ne)
        (no_width z e ne)

  reads : Reads (read_head s)
  reads = ⊎_elim form_told (λ l. let ne : (form_in s).refusal ≢ 0 = λ q. omega arith in subst Reads (told (here ne) ne) (no_form ne))
      (eq-zero-or-pos (form_in s).refusal)
    where
      form_told : (form_in s).refusal ≡ 0 → Reads (read_head s)
      form_told z = go (ℕ_discrete (form_number form) (form_in s).value)
        where
          go : Dec (form_number form ≡ (form_in s).value) → Reads (read_head s)
          go (yes e) = width_told z (is_form e) (eq-zero-or-pos _)
          go (no e) = let ne : IsForm (form_in s).value → ⊥ = λ f. e (form_kept f) in subst Reads (told (then z (here ne)) (λ q. omega arith))
              (other_form z ne)

  pub all_numbers : (next_number s (next_number s (next_number s (next_number s at_form)))).head ≡ read_head s
  all_numbers = reads.by_numbers

  pub bytes_read_head : (read_by at_form s).head ≡ read_head s
  bytes_read_head = reads.by_bytes

  pub bytes_behind_head : (read_head s).refusal ≡ 0 → (read_by at_form s).rest ≡ drop (read_head s).start s
  bytes_behind_head z =
      let o = sym (refusal_is limit s) ∙ z in
      let (a, (b, (c, (d, (f, (k, (y, u))))))) = (head_rules_is limit s).met o in
      ap (λ (x : Reading). x.rest) (read_whole a b c d f k (size_0 _ _ _ y)).1 ∙ ap (λ (h : Head). drop h.start s) (accepted limit s o)

-- a reader between two bytes holds a small number, and has not come far
module _ {r : HeadReader} (g : Going r) where
  pub low_small : r.low < 16384
  low_small = lt_of_lt_of_le g.small (pow-le-pow_right {n = 128} (omega arith) {i = r.groups} {j = 2} g.few)

  pub not_far : r.head.start ≤ 9
  not_far = go r.stage g.unended g.near
    where
      go : (p : Stage) → ended_in p ≡ false → r.head.start ≤ before p → r.head.start ≤ 9
      go Form e h = omega arith
      go Width e h = omega arith
      go Height e h = omega arith
      go Colour e h = h
      go Ended e h = absurd (no_both refl e)

-- what a byte leaves: a reader that goes on with it, one place on; or a head, which has a size where it is accepted
pub record Stepped (r x : HeadReader) : Type 0 where
  pub going : has_ended x ≡ false → Going x
  pub on : has_ended x ≡ false → x.head.start + x.groups ≡ r.head.start + r.groups + 1
  pub sized_head : has_ended x ≡ true → x.head.refusal ≡ 0 → Sized x.head.width x.head.height

pub stepped_refused : (r : HeadReader) (n : ℕ) → n ≢ 0 → Stepped r (refused_with n)
stepped_refused r n ne = record { going = λ e. absurd (no_both refl e); on = λ e. absurd (no_both refl e); sized_head = λ e z. absurd (ne z) }

stepped_size : (r : HeadReader) (h : Head) → Stepped r (size_taken h)
unfolding size_taken
stepped_size r h = go (eqb (size_refusal h.width h.height) 0) refl
  where
    go : (t : Bool) → eqb (size_refusal h.width h.height) 0 ≡ t
        → Stepped r (pick t (awaiting Ended h) (refused_with (size_refusal h.width h.height)))
    go true e = record { going = λ u. absurd (no_both refl u); on = λ u. absurd (no_both refl u); sized_head = λ u z. sized _ _ _ (eqb-true _ 0 e) }
    go false e = stepped_refused r _ (eqb-false _ 0 e)

module _ {r : HeadReader} (g : Going r) where
  stepped_number : (n : ℕ) → Stepped r (number_in r.stage r.head n (r.head.start + r.groups + 1))
  unfolding form_taken colour_taken
  stepped_number n = go r.stage g.unended (omega (arith, g.few, g.near))
    where
      next : ℕ
      next = r.head.start + r.groups + 1

      awaited : (p : Stage) (h : Head) → ended_in p ≡ false → h.start ≡ next → next ≤ before p → Stepped r (awaiting p h)
      awaited p h un e l = record {
        going = λ _. record { unended = un; few = omega arith; small = omega arith; near = rw e l };
        on = λ _. omega (arith, e);
        sized_head = λ t. absurd (no_both t un);
      }

      form_in_is : (t : Bool) → next ≤ 3 → Stepped r (pick t (awaiting Width (head_in (form_of n) Unspecified 0 0 0 next)) (refused_with 8))
      form_in_is true l = awaited Width _ refl refl l
      form_in_is false l = stepped_refused r 8 (λ q. omega arith)

      height_in_is : (f : order.Form) (w : ℕ) → next ≤ 9 → Stepped r (height_taken f w n next)
      height_in_is Rows w l = stepped_size r (head_of 0 w n next)
      height_in_is Tiles w l = awaited Colour _ refl refl l

      colour_in_is : (t : Bool) → eqb (colour_refusal n) 0 ≡ t → (h : Head) → Stepped r (pick t (size_taken h) (refused_with (colour_refusal n)))
      colour_in_is true e h = stepped_size r h
      colour_in_is false e h = stepped_refused r _ (eqb-false _ 0 e)

      go : (p : Stage) → ended_in p ≡ false → next ≤ before p + 3 → Stepped r (number_in p r.head n next)
      go Form un l = form_in_is (eqb (form_number (form_of n)) n) l
      go Width un l = awaited Height _ refl refl l
      go Height un l = height_in_is r.head.form r.head.width l
      go Colour un l = colour_in_is (eqb (colour_refusal n) 0) refl _
      go Ended un l = absurd (no_both refl un)

  pub stepped : (b : ℕ) → Stepped r (byte_taken r b)
  unfolding last_taken group_taken
  stepped b = pick_either (Stepped r) (ltb b 128)
      (pick_either (Stepped r) (empty_above b r.groups) (stepped_refused r 7 (λ q. omega arith)) (stepped_number _)) (go (eqb r.groups 2) refl)
    where
      go : (t : Bool) → eqb r.groups 2 ≡ t → Stepped r (pick t (refused_with 7) (grown r b))
      go true e = stepped_refused r 7 (λ q. omega arith)
      go false e =
          let ne = eqb-false r.groups 2 e in
          record {
            going = λ u. record {
              unended = u;
              few = omega (arith, g.few);
              small = rw (add-one r.groups, pow-suc 128 r.groups)
                  (omega (arith, g.small, mul-le-mul {n₁ = b % 128} {n₂ = 127} {m₂ = 128 ^ r.groups} (omega arith) (le_refl _)));
              near = g.near;
            };
            on = λ u. sym (add_assoc r.head.start r.groups 1);
            sized_head = λ u. absurd (no_both u g.unended);
          }

pub going_start : Going at_form
going_start = record { unended = refl; few = omega arith; small = omega arith; near = omega arith }

-- the ways of `take_form`
module _ (n next : ℕ) where
  pub rows_taken : n ≡ 1 → awaiting Width (head_in Rows Unspecified 0 0 0 next) ≡ form_taken n next
  unfolding form_taken form_of
  rows_taken e = rw e

  pub tiles_taken : n ≡ 2 → awaiting Width (head_in Tiles Unspecified 0 0 0 next) ≡ form_taken n next
  unfolding form_taken form_of
  tiles_taken e = rw e

  pub none_taken : n ≢ 1 → n ≢ 2 → refused_with 8 ≡ form_taken n next
  unfolding form_taken form_of
  none_taken a b = sym (rw (ne_eqb n 2 b, ne_eqb 1 n (λ e. a (sym e))))
