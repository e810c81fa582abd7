-- A number that was written is read back, with its end; an accepted number has exactly one form; the same for heads. A number is
-- refused exactly when none stands there. Each block of a sheet has exactly one place.
-- Assumes nothing.
use mathlib.Core.Path.{◌≡◌, refl, ◌∙◌, ap, ap₂, sym, subst}
use mathlib.Core.Logic.{◌↔◌, ◌⊎◌, inl, inr, ⊎_elim, ◌≢◌}
use mathlib.Core.List.{List, [], ◌∷◌, ◌++◌, append_assoc}
use Prim.Native.Nat.{ℕ, zero, suc, ◌+◌, ◌-◌, ◌*◌, ◌/◌, ◌%◌, ◌^◌, ◌<◌, ◌≤◌}
use native.Mathlib.Nat.{div-lt_iff_lt-mul, eq-zero-or-pos, pow-suc, zero-add}
use native.Mathlib.Omega.{arith}
use lib.ListN.{length, drop, replicate, take, length-append}
use lib.Seq.{drop-drop, drop-append_seam, get_or-drop, take-append_seam}
use Rattle.head_rules.specs.declared.HeadBytes as bytes
use Rattle.std.specs.Prelude.{Result}
use Rattle.refusals.specs.declared.Refusal.{Refusal}
use Rattle.head_rules.specs.declared.ColourSpace.{ColourSpace}
use Rattle.head_rules.specs.declared.ColourSpace.TheVariants.{Unspecified, Linear, Srgb}
use Rattle.head_rules.specs.declared.Head as heads
use Rattle.head_rules.specs.declared.Form.{Form}
use Rattle.head_rules.specs.declared.Form.TheVariants.{Rows, Tiles}
use Rattle.head_rules.specs.Answers.{Head, HeadBytes, Number}
use Rattle.head_rules.proofs.Answers.{bytes_fixes, head_fixes}
use Rattle.laws.specs.Padding.{padded}
use Rattle.laws.specs.Refusals.{Given, Rule, here, then}
use Rattle.laws.proofs.Cases.{lt_or}
use Rattle.laws.specs.Inverse.{Inverse}
use Rattle.laws.proofs.Refusals.{Answers, accepted_when, alone, exactly}
use Rattle.head_rules.specs.Colours.{colour_number, colour_of}
use Rattle.head_rules.specs.Heads.{IsForm, ReadsHead, Sized, SizedUpTo, WritesHead, bytes_of_head, colour_in, form_in, form_number, form_of}
use Rattle.head_rules.specs.Heads.{head_bytes, head_in, head_of, head_refusal, head_rules, head_spelt, height_in, limit, no_bytes, old_head, old_limit}
use Rattle.head_rules.specs.Heads.{of_form_rules, of_form_rules_with, read_head, read_of_form, rows_rules, rows_rules_with}
use Rattle.head_rules.specs.Heads.{size_refusal, size_rules, tiled_bytes, under, width_in, write_head, write_head_up_to}
use Rattle.head_rules.specs.Numbers.{Bytes, found, groups, no_number, number_bytes, numbers_end, raised, read_groups, read_number}
use Rattle.head_rules.specs.Geometry.{across, blocks_of, number_at, place_of, stored_at, whole_length}
use Rattle.head_rules.specs.Reader.{at_form, read_by}
use Rattle.head_rules.proofs.Blocks.{some_blocks}
use Rattle.head_rules.proofs.Bytewise.{bytes_behind_head, bytes_read_head}
use Rattle.head_rules.proofs.Colours.{colour_back, number_back}
use Rattle.head_rules.proofs.Heading.{accepted, form_back, form_kept, head_rules_is, of_a_form, of_form_not, of_form_number, of_form_rules_is}
use Rattle.head_rules.proofs.Heading.{of_form_same, of_form_told, refusal_is, refused, size_0, size_9, size_test}
use Rattle.head_rules.proofs.Limits.{head_kept, head_refused_before, wider}
use Rattle.head_rules.proofs.Orders.{blocks_apart, blocks_behind_head, blocks_within, each_place, numbered_in, one_order}
use Rattle.head_rules.proofs.Reading.{every_number, raised_some, read_last, read_more, value_small}
use Rattle.head_rules.proofs.Writing.{groups_last, groups_more, nothing, written}

-- what was written is read, with its end
small : (k n at : ℕ) (rest : List ℕ) → n < 128 → read_groups (suc k) at (groups (suc k) n ++ rest) ≡ found n (at + length (groups (suc k) n))
small k n at rest l = rw (groups_last k n l) (read_last k at n rest l)

large : (k n at : ℕ) (rest : List ℕ) → 128 ≤ n → read_groups k (at + 1) (groups k (n / 128) ++ rest) ≡ found (n / 128)
    (at + 1 + length (groups k (n / 128)))
    → read_groups (suc k) at (groups (suc k) n ++ rest) ≡ found n (at + length (groups (suc k) n))
large k n at rest l e =
    rw (groups_more k n l)
    (read_more k at (n % 128 + 128) (groups k (n / 128) ++ rest) (omega arith) ∙ ap (raised (n % 128 + 128)) e ∙ raised_some _ _ (λ z. omega arith)
    ∙ ap₂ found (omega arith) (omega arith))

pub groups_read : (k n at : ℕ) (rest : List ℕ) → n < 128 ^ suc k → read_groups (suc k) at (groups (suc k) n ++ rest)
    ≡ found n (at + length (groups (suc k) n))
groups_read zero n at rest h = small zero n at rest h
groups_read (suc k) n at rest h =
    ⊎_elim (λ l. small (suc k) n at rest l)
    (λ l. large (suc k) n at rest l (groups_read k (n / 128) (at + 1) rest
    ((div-lt_iff_lt-mul {k = 128} {x = n} {y = 128 ^ suc k} (omega arith)).1 (subst (λ (m : ℕ). n < m) (pow-suc 128 (suc k)) h))))
    (lt_or n 128)

-- the bytes of an accepted number are those that writing it gives
pub record OneForm (k at : ℕ) (bs : List ℕ) (r : Number) : Type 0 where
  pub whole : bs ≡ groups k r.value ++ drop (length (groups k r.value)) bs
  pub ends : r.next ≡ at + length (groups k r.value)

Told : ℕ → ℕ → List ℕ → Number → Type 0
Told k at bs r = (r ≡ no_number) ⊎ ((r.refusal ≡ 0) × (Bytes bs → OneForm k at bs r))

told : (k at : ℕ) (bs : List ℕ) → Told k at bs (read_groups k at bs)
unfolding Told
told =
    every_number Told (λ k at bs. inl refl)
    (λ k at b bs l. inr (refl, λ y. record { whole = rw (groups_last k b l); ends = rw (groups_last k b l) }))
    (λ k at b bs r l ne h. inr (
      refl,
      λ y. above k at b bs r l ne (y 0)
          (⊎_elim (λ e. absurd (ne (ap (λ (x : Number). x.value) e))) (λ o. o.1 (λ i. y (suc i))) h),
    ))
  where
    above : (k at b : ℕ) (bs : List ℕ) (r : Number) → 128 ≤ b → (r.value ≡ 0 → ⊥) → b < 256 → OneForm k (at + 1) bs r
        → OneForm (suc k) at (b ∷ bs) (found (r.value * 128 + b % 128) r.next)
    above k at b bs r l ne low o = record { whole = rw spelt (ap (λ (t : List ℕ). b ∷ t) o.whole); ends = rw spelt (o.ends ∙ omega arith) }
      where
        top : r.value ≡ (r.value * 128 + b % 128) / 128
        top = omega arith

        spelt : groups (suc k) (r.value * 128 + b % 128) ≡ b ∷ groups k r.value
        spelt = groups_more k (r.value * 128 + b % 128) (omega arith) ∙ ap₂ (λ (x : ℕ) (t : List ℕ). x ∷ t) (omega (arith, low))
            (ap (groups k) (sym top))

one_form : (k at : ℕ) (bs : List ℕ) → Bytes bs → (read_groups k at bs).refusal ≡ 0 → OneForm k at bs (read_groups k at bs)
unfolding Told
one_form k at bs y e = ⊎_elim (λ n. absurd (let q : ⊥ = omega (arith, ap (λ (x : Number). x.refusal) n, e) in q)) (λ o. o.1 y) (told k at bs)

-- a number that was written is read back, with its end
pub number_read_back : (before : List ℕ) (n : ℕ) (rest : List ℕ) → n < numbers_end
    → read_number (before ++ (number_bytes n ++ rest)) (length before) ≡ found n (length before + length (number_bytes n))
unfolding read_number
number_read_back before n rest h = rw (drop-append_seam before (number_bytes n ++ rest)) (groups_read 2 n (length before) rest h)

-- an accepted number has exactly one form: its bytes are those that writing it gives
pub number_one_form : (s : List ℕ) (at : ℕ) → Bytes s → (read_number s at).refusal ≡ 0
    → drop at s ≡ number_bytes (read_number s at).value ++ drop (read_number s at).next s
unfolding read_number
number_one_form s at y e =
    let o = one_form 3 at (drop at s) (λ i. rw get_or-drop (y (at + i))) e in
    o.whole ∙ ap (λ (t : List ℕ). number_bytes (read_groups 3 at (drop at s)).value ++ t)
    (drop-drop _ at s ∙ ap (λ (m : ℕ). drop m s) (sym o.ends))

-- a number stands at a place: the bytes that writing it gives, in three groups at most, and whatever follows
pub record Standing (s : List ℕ) (at : ℕ) : Type 0 where
  pub number : ℕ
  pub rest : List ℕ
  pub small : number < numbers_end
  pub bytes : drop at s ≡ number_bytes number ++ rest

-- a number is read exactly when one stands there, and refused with 7 exactly when none does
module _ (s : List ℕ) (at : ℕ) where
  pub zero_or_seven : ((read_number s at).refusal ≡ 0) ⊎ ((read_number s at).refusal ≡ 7)
  unfolding read_number Told
  zero_or_seven = ⊎_elim (λ n. inr (ap (λ (r : Number). r.refusal) n)) (λ o. inl o.0) (told 3 at (drop at s))

  pub number_read_when : Bytes s → ((read_number s at).refusal ≡ 0) ↔ Standing s at
  unfolding read_number
  number_read_when y = (
    λ e. record {
      number = (read_number s at).value;
      rest = drop (read_number s at).next s;
      small = value_small 3 at
          (drop at s);
      bytes = number_one_form s at y e;
    },
    λ n. rw n.bytes (ap (λ (r : Number). r.refusal) (groups_read 2 n.number at n.rest n.small)),
  )

  pub number_refused_when : Bytes s → ((read_number s at).refusal ≡ 7) ↔ (Standing s at → ⊥)
  number_refused_when y = (
    λ e n. let z = (number_read_when y).1 n in let q : ⊥ = omega (arith, e, z) in q,
    λ n. ⊎_elim (λ z. absurd (n ((number_read_when y).0 z))) (λ e. e) zero_or_seven,
  )

-- the number of the colour space, by the form
module _ (s : List ℕ) where
  colour_rows : form_of (form_in s).value ≡ Rows → colour_in s ≡ found 0 (height_in s).next
  unfolding colour_in
  colour_rows e = rw e

  colour_tiles : form_of (form_in s).value ≡ Tiles → colour_in s ≡ read_number s (height_in s).next
  unfolding colour_in
  colour_tiles e = rw e

colour_small : (c : ColourSpace) → colour_number c ≤ 2
colour_small Unspecified = omega arith
colour_small Linear = omega arith
colour_small Srgb = omega arith

-- the bytes of a head, number by number
three : (a b c d : List ℕ) → (a ++ (b ++ c)) ++ d ≡ a ++ (b ++ (c ++ d))
three a b c d = append_assoc a (b ++ c) d ∙ ap (λ (t : List ℕ). a ++ t) (append_assoc b c d)

module _ (w h : ℕ) (rest : List ℕ) where
  in_one : head_bytes w h ++ rest ≡ number_bytes 1 ++ (number_bytes w ++ (number_bytes h ++ rest))
  unfolding head_bytes
  in_one = three (number_bytes 1) (number_bytes w) (number_bytes h) rest

  in_two : (c : ColourSpace) → tiled_bytes c w h ++ rest
      ≡ number_bytes 2 ++ (number_bytes w ++ (number_bytes h ++ (number_bytes (colour_number c) ++ rest)))
  unfolding tiled_bytes
  in_two c = three (number_bytes 2) (number_bytes w) (number_bytes h ++ number_bytes (colour_number c)) rest
      ∙ ap (λ (t : List ℕ). number_bytes 2 ++ (number_bytes w ++ t)) (append_assoc (number_bytes h) (number_bytes (colour_number c)) rest)

-- what is read of a sheet whose numbers are known
read_as : (s : List ℕ) (f : Form) (c : ColourSpace) (w h : ℕ) {i j k n : ℕ} → form_in s ≡ found (form_number f) i → width_in s ≡ found w j
    → height_in s ≡ found h k → colour_in s ≡ found (colour_number c) n → Sized w h → read_head s ≡ head_in f c 0 w h n
read_as s f c w h ef ew eh ec z =
    sym (accepted limit s ((accepted_when (head_rules_is limit s)).1 (rw (ef, ew, eh, ec)
    (refl, (of_a_form f, (refl, (refl, (refl, (colour_small c, (z, tt)))))))))) ∙ rw (ef, ew, eh, ec, form_back f, (colour_back c).0)

-- a head that was written is read back, with where the blocks start: its numbers stand one behind the other
module _ (f w h : ℕ) (z : Sized w h) (l : f < numbers_end) (rest : List ℕ) where
  abbrev numbers : List ℕ
  numbers = number_bytes f ++ (number_bytes w ++ (number_bytes h ++ rest))

  form_part : form_in numbers ≡ found f (length (number_bytes f))
  unfolding form_in
  form_part = number_read_back [] f (number_bytes w ++ (number_bytes h ++ rest)) l ∙ ap (found f) (zero-add (length (number_bytes f)))

  width_part : width_in numbers ≡ found w (length (number_bytes f) + length (number_bytes w))
  unfolding width_in
  width_part =
      ap (λ (r : Number). read_number numbers r.next) form_part
      ∙ number_read_back (number_bytes f) w (number_bytes h ++ rest) (omega (arith, z.within_wide))

  height_part : height_in numbers ≡ found h (length (number_bytes f) + length (number_bytes w) + length (number_bytes h))
  unfolding height_in
  height_part =
      ap (λ (r : Number). read_number numbers r.next) width_part
      ∙ ap₂ read_number (sym (append_assoc (number_bytes f) (number_bytes w) (number_bytes h ++ rest)))
      (sym (length-append (number_bytes f) (number_bytes w)))
      ∙ number_read_back (number_bytes f ++ number_bytes w) h rest (omega (arith, z.within_high))
      ∙ ap (λ (n : ℕ). found h (n + length (number_bytes h))) (length-append (number_bytes f) (number_bytes w))

module _ (w h : ℕ) (z : Sized w h) (rest : List ℕ) where
  abbrev one : List ℕ
  one = numbers 1 w h z (omega arith) rest

  one_long : length (number_bytes 1) + length (number_bytes w) + length (number_bytes h) ≡ length (head_bytes w h)
  unfolding head_bytes
  one_long = simp length-append (omega arith)

  pub head_read_back : read_head (head_bytes w h ++ rest) ≡ head_of 0 w h (length (head_bytes w h))
  head_read_back =
      let e = form_part 1 w h z (omega arith) rest in
      let k = height_part 1 w h z (omega arith) rest in
      let c = colour_rows one (ap (λ (r : Number). form_of r.value) e ∙ form_back Rows) ∙ ap (λ (r : Number). found 0 r.next) k in
      ap read_head (in_one w h rest)
      ∙ read_as one Rows Unspecified w h e (width_part 1 w h z (omega arith) rest) k c z ∙ ap (λ (n : ℕ). head_of 0 w h n) one_long

module _ (c : ColourSpace) (w h : ℕ) (z : Sized w h) (rest : List ℕ) where
  abbrev two : List ℕ
  two = numbers 2 w h z (omega arith) (number_bytes (colour_number c) ++ rest)

  two_long : length (number_bytes 2) + length (number_bytes w) + length (number_bytes h) + length (number_bytes (colour_number c))
      ≡ length (tiled_bytes c w h)
  unfolding tiled_bytes
  two_long = simp length-append (omega arith)

  colour_part : colour_in two ≡ found (colour_number c)
      (length (number_bytes 2) + length (number_bytes w) + length (number_bytes h) + length (number_bytes (colour_number c)))
  colour_part =
      let t = number_bytes (colour_number c) ++ rest in
      let b = number_bytes 2 ++ (number_bytes w ++ number_bytes h) in
      let long : length b ≡ length (number_bytes 2) + length (number_bytes w) + length (number_bytes h) = simp length-append (omega arith) in
      colour_tiles two (ap (λ (r : Number). form_of r.value) (form_part 2 w h z (omega arith) t) ∙ form_back Tiles)
      ∙ ap (λ (r : Number). read_number two r.next) (height_part 2 w h z (omega arith) t)
      ∙ ap₂ read_number (sym (three (number_bytes 2) (number_bytes w) (number_bytes h) t)) (sym long)
      ∙ number_read_back b (colour_number c) rest (omega (arith, colour_small c))
      ∙ ap (λ (n : ℕ). found (colour_number c) (n + length (number_bytes (colour_number c)))) long

  pub tiled_read_back : read_head (tiled_bytes c w h ++ rest) ≡ head_in Tiles c 0 w h (length (tiled_bytes c w h))
  tiled_read_back =
      let t = number_bytes (colour_number c) ++ rest in
      ap read_head (in_two w h rest c)
      ∙ read_as two Tiles c w h (form_part 2 w h z (omega arith) t) (width_part 2 w h z (omega arith) t) (height_part 2 w h z (omega arith) t)
      colour_part z ∙ ap (λ (n : ℕ). head_in Tiles c 0 w h n) two_long

-- an accepted head has exactly one form
pub record Parts (s : List ℕ) : Type 0 where
  pub form_told : (form_in s).refusal ≡ 0
  pub form_one : IsForm (form_in s).value
  pub width_told : (width_in s).refusal ≡ 0
  pub height_told : (height_in s).refusal ≡ 0
  pub colour_told : (colour_in s).refusal ≡ 0
  pub space : (colour_in s).value ≤ 2
  pub size : Sized (width_in s).value (height_in s).value

module _ (s : List ℕ) (p : Parts s) (y : Bytes s) where
  abbrev w : ℕ
  w = (width_in s).value

  abbrev h : ℕ
  h = (height_in s).value

  form_spelt : s ≡ number_bytes (form_in s).value ++ drop (form_in s).next s
  unfolding form_in
  form_spelt = number_one_form s 0 y p.form_told

  width_spelt : drop (form_in s).next s ≡ number_bytes w ++ drop (width_in s).next s
  unfolding width_in
  width_spelt = number_one_form s (form_in s).next y p.width_told

  height_spelt : drop (width_in s).next s ≡ number_bytes h ++ drop (height_in s).next s
  unfolding height_in
  height_spelt = number_one_form s (width_in s).next y p.height_told

  three_spelt : s ≡ number_bytes (form_in s).value ++ (number_bytes w ++ (number_bytes h ++ drop (height_in s).next s))
  three_spelt =
      form_spelt ∙ ap (λ (x : List ℕ). number_bytes (form_in s).value ++ x) (width_spelt ∙ ap (λ (x : List ℕ). number_bytes w ++ x) height_spelt)

  -- with the number of its form
  named_spelt : {f : Form} → form_of (form_in s).value ≡ f
      → s ≡ number_bytes (form_number f) ++ (number_bytes w ++ (number_bytes h ++ drop (height_in s).next s))
  named_spelt e =
      three_spelt
      ∙ ap (λ (n : ℕ). number_bytes n ++ (number_bytes w ++ (number_bytes h ++ drop (height_in s).next s)))
      (sym (form_kept p.form_one) ∙ ap form_number e)

  colour_spelt : form_of (form_in s).value ≡ Tiles
      → drop (height_in s).next s ≡ number_bytes (colour_number (colour_of (colour_in s).value)) ++ drop (colour_in s).next s
  colour_spelt e =
      number_one_form s (height_in s).next y (ap (λ (r : Number). r.refusal) (sym (colour_tiles s e)) ∙ p.colour_told)
      ∙ ap (λ (r : Number). number_bytes r.value ++ drop r.next s) (sym (colour_tiles s e))
      ∙ ap (λ (n : ℕ). number_bytes n ++ drop (colour_in s).next s) (sym (number_back (colour_in s).value p.space))

  spelt_in : (f : Form) → form_of (form_in s).value ≡ f → s ≡ head_spelt f (colour_of (colour_in s).value) w h ++ drop (colour_in s).next s
  spelt_in Rows e =
      named_spelt e ∙ sym (in_one w h (drop (height_in s).next s))
      ∙ ap (λ (r : Number). head_bytes w h ++ drop r.next s) (sym (colour_rows s e))
  spelt_in Tiles e =
      named_spelt e ∙ ap (λ (t : List ℕ). number_bytes 2 ++ (number_bytes w ++ (number_bytes h ++ t))) (colour_spelt e)
      ∙ sym (in_two w h (drop (colour_in s).next s) (colour_of (colour_in s).value))

  spelt : s ≡ head_spelt (form_of (form_in s).value) (colour_of (colour_in s).value) w h ++ drop (colour_in s).next s
  spelt = spelt_in (form_of (form_in s).value) refl

module _ (s : List ℕ) where
  -- each refusal number of a head is given exactly when document 01 says (`head_rules` has the words)
  pub head_answers : Answers (read_head s).refusal (head_rules s)
  head_answers = rw (refusal_is limit s) (head_rules_is limit s)

  pub head_refused_when : (n : ℕ) → ((read_head s).refusal ≡ n) ↔ Given (head_rules s) n
  head_refused_when = exactly head_answers

  pub parts : head_refusal s ≡ 0 → Parts s
  parts e =
      let (a, (b, (c, (d, (f, (k, (z, u))))))) = (head_rules_is limit s).met e in
      record { form_told = a; form_one = b; width_told = c; height_told = d; colour_told = f; space = k; size = z }

  pub form_stated : (read_head s).refusal ≡ 0 → ((form_in s).refusal ≡ 0) × ((form_in s).value ≡ form_number (read_head s).form)
  form_stated e =
      let z = sym (refusal_is limit s) ∙ e in
      let p = parts z in (p.form_told, sym (form_kept p.form_one) ∙ ap (λ (h : Head). form_number h.form) (accepted limit s z))

  pub head_sized : (read_head s).refusal ≡ 0 → Sized (read_head s).width (read_head s).height
  head_sized e = let z = sym (refusal_is limit s) ∙ e in subst (λ (r : Head). Sized r.width r.height) (accepted limit s z) (parts z).size

  pub head_one_form : Bytes s → (read_head s).refusal ≡ 0
      → Sized (read_head s).width (read_head s).height × (s ≡ bytes_of_head (read_head s) ++ drop (read_head s).start s)
  head_one_form y e =
      let z = sym (refusal_is limit s) ∙ e in
      let p = parts z in
      subst (λ (r : Head). Sized r.width r.height × (s ≡ bytes_of_head r ++ drop r.start s)) (accepted limit s z)
      (p.size, spelt s p y)

-- FORM 1 HAS NO ROOM FOR A COLOUR SPACE: whatever the bytes, what is read of them says unspecified; the bytes are the same under each; and
-- a head that was written is read back but for it
pub form_1_unspecified : (s : List ℕ) → (read_head s).form ≡ Rows → (read_head s).colour_space ≡ Unspecified
form_1_unspecified s e =
    ⊎_elim (λ z. sym (ap (λ (h : Head). h.colour_space) (accepted limit s z)) ∙ said (ap (λ (h : Head). h.form) (accepted limit s z) ∙ e))
    (λ p. sym (ap (λ (h : Head). h.colour_space) (refused limit s (head_refusal s) refl (λ q. omega arith)))) (eq-zero-or-pos (head_refusal s))
  where
    said : form_of (form_in s).value ≡ Rows → colour_of (colour_in s).value ≡ Unspecified
    said q = ap (λ (r : Number). colour_of r.value) (colour_rows s q) ∙ (colour_back Unspecified).0

-- what `write_head` writes is form 1: of a head in memory, under whichever colour space, it is read back unspecified
pub writing_forgets : (h : Head) → Sized h.width h.height → (rest : List ℕ)
    → let b = write_head h.width h.height in
    read_head (take b.count b.bytes ++ rest) ≡ head_of 0 h.width h.height b.count
unfolding write_head_up_to padded
writing_forgets h z rest =
    let bs = head_bytes h.width h.height in
    rw (size_0 limit h.width h.height z, take-append_seam bs (replicate (7 - length bs) 0)) (head_read_back h.width h.height z rest)

-- and the bytes of a head of form 1 are the same under each
pub form_1_forgets : (h : Head) (a b : ColourSpace) → h.form ≡ Rows → bytes_of_head (under a h) ≡ bytes_of_head (under b h)
form_1_forgets h a b e = rw e

pub read_back_unspecified : (w h : ℕ) → Sized w h → (c : ColourSpace) (rest : List ℕ)
    → let x = under c (head_of 0 w h (length (head_bytes w h))) in read_head (bytes_of_head x ++ rest) ≡ under Unspecified x
read_back_unspecified w h z c rest = head_read_back w h z rest

-- an accepted head is read of its bytes, whatever stands behind them; so a sheet whose head stays is read as before
pub spelt_read_back : (f : Form) (c : ColourSpace) (w h : ℕ) → Sized w h → (f ≡ Rows → c ≡ Unspecified) → (rest : List ℕ)
    → read_head (head_spelt f c w h ++ rest) ≡ head_in f c 0 w h (length (head_spelt f c w h))
spelt_read_back Rows c w h z q rest =
    head_read_back w h z rest ∙ ap (λ (k : ColourSpace). head_in Rows k 0 w h (length (head_bytes w h))) (sym (q refl))
spelt_read_back Tiles c w h z q rest = tiled_read_back c w h z rest

module _ (s : List ℕ) (y : Bytes s) (e : (read_head s).refusal ≡ 0) where
  abbrev again : Head
  again =
      head_in (read_head s).form (read_head s).colour_space 0 (read_head s).width (read_head s).height (length (bytes_of_head (read_head s)))

  read_again : (rest : List ℕ) → read_head (bytes_of_head (read_head s) ++ rest) ≡ again
  read_again =
      spelt_read_back (read_head s).form (read_head s).colour_space (read_head s).width (read_head s).height (head_sized s e)
      (form_1_unspecified s)

  pub head_is : read_head s ≡ again
  head_is = ap read_head (head_one_form s y e).1 ∙ read_again (drop (read_head s).start s)

  pub head_again : (rest : List ℕ) → read_head (bytes_of_head (read_head s) ++ rest) ≡ read_head s
  head_again rest = read_again rest ∙ sym head_is

  pub head_long : (read_head s).start ≡ length (bytes_of_head (read_head s))
  head_long = ap (λ (h : Head). h.start) head_is

-- ONE FORM ONLY: 8 is given for the other form, before anything behind it; what is accepted is what `read_head` accepts, of that form
module _ (f : Form) (s : List ℕ) where
  pub of_form_refused : (n : ℕ) → Given (of_form_rules f s) n → (n ≡ 0 → ⊥) → head_of n 0 0 0 ≡ read_of_form f s
  of_form_refused = of_form_not limit f s

  pub of_form_answers : Answers (read_of_form f s).refusal (of_form_rules f s)
  of_form_answers = rw (of_form_number limit f s) (of_form_rules_is limit f s)

  pub of_form_refused_when : (n : ℕ) → ((read_of_form f s).refusal ≡ n) ↔ Given (of_form_rules f s) n
  of_form_refused_when = exactly of_form_answers

  pub of_form_this : (form_in s).refusal ≡ 0 → (form_in s).value ≡ form_number f → read_of_form f s ≡ read_head s
  of_form_this = of_form_same limit f s

  pub of_form_is : (read_of_form f s).refusal ≡ 0 → (read_of_form f s ≡ read_head s) × ((read_head s).form ≡ f)
  of_form_is e =
      let (a, (b, m)) = of_form_answers.met e in
      let q = of_form_this a b in (
        q,
        ap (λ (h : Head). h.form) (sym q ∙ sym (of_form_told limit f s (sym (of_form_number limit f s) ∙ e))) ∙ ap form_of b ∙ form_back f,
      )

  pub of_form_when : (read_head s).refusal ≡ 0 → (read_head s).form ≡ f → read_of_form f s ≡ read_head s
  of_form_when e q = let (a, b) = form_stated s e in of_form_this a (b ∙ ap form_number q)

  -- the ways of `read_of_form`
  module _ {n : Number} (en : n ≡ read_number s 0) where
    pub only_seven : (n.refusal ≡ 0 → ⊥) → head_of n.refusal 0 0 0 ≡ read_of_form f s
    unfolding form_in
    only_seven ne = of_form_refused n.refusal (rw en (here (λ q. ne (ap (λ (x : Number). x.refusal) en ∙ q)))) ne

    module _ (z : n.refusal ≡ 0) where
      told_form : (form_in s).refusal ≡ 0
      unfolding form_in
      told_form = ap (λ (x : Number). x.refusal) (sym en) ∙ z

      value_is : (form_in s).value ≡ n.value
      unfolding form_in
      value_is = ap (λ (x : Number). x.value) (sym en)

      pub only_eight : {v : ℕ} → v ≡ form_number f → (n.value ≡ v → ⊥) → head_of 8 0 0 0 ≡ read_of_form f s
      only_eight ev ne = of_form_refused 8 (then told_form (here (λ q. ne (sym value_is ∙ q ∙ sym ev)))) (λ q. omega arith)

      pub only_rest : {v : ℕ} → v ≡ form_number f → n.value ≡ v → read_head s ≡ read_of_form f s
      only_rest ev e = sym (of_form_this told_form (value_is ∙ e ∙ ev))

-- of form 1 the colour space is no rule
module _ (s : List ℕ) where
  no_colour : (form_in s).value ≡ form_number Rows → colour_in s ≡ found 0 (height_in s).next
  no_colour e = colour_rows s (ap form_of e ∙ form_back Rows)

  rows_given : (between : List Rule) {n : ℕ} → Given (of_form_rules_with between limit Rows s) n → Given (rows_rules_with between s) n
  rows_given between (here x) = here x
  rows_given between (then a (here x)) = then a (here x)
  rows_given between (then a (then b (here x))) = absurd (x a)
  rows_given between (then a (then b (then c (here x)))) = absurd (x (inl b))
  rows_given between (then a (then b (then c (then d (here x))))) = then a (then b (here x))
  rows_given between (then a (then b (then c (then d (then w (here x)))))) = then a (then b (then w (here x)))
  rows_given between (then a (then b (then c (then d (then w (then h (here x))))))) = absurd (x (ap (λ (r : Number). r.refusal) (no_colour b)))
  rows_given between (then a (then b (then c (then d (then w (then h (then f (here x)))))))) =
      absurd (x (rw (no_colour b) (omega arith)))
  rows_given between (then a (then b (then c (then d (then w (then h (then f (then k g)))))))) = then a (then b (then w (then h g)))

  pub of_rows : (between : List Rule) {r : ℕ} → Answers r (of_form_rules_with between limit Rows s) → Answers r (rows_rules_with between s)
  of_rows between t = record {
    given = rows_given between t.given;
    met = λ e. let (a, (b, (c, (d, (w, (h, (f, (k, m)))))))) = t.met e in (a, (b, (w, (h, m))));
  }

  pub rows_answers : Answers (read_of_form Rows s).refusal (rows_rules s)
  rows_answers = of_rows [] (of_form_answers Rows s)

  pub rows_sized : (read_of_form Rows s).refusal ≡ 0 → Sized (read_of_form Rows s).width (read_of_form Rows s).height
  rows_sized e =
      let q = (of_form_is Rows s e).0 in
      subst (λ (h : Head). Sized h.width h.height) (sym q) (head_sized s (ap (λ (h : Head). h.refusal) (sym q) ∙ e))

  pub rows_one_form : Bytes s → (read_of_form Rows s).refusal ≡ 0
      → s ≡ head_bytes (read_of_form Rows s).width (read_of_form Rows s).height ++ drop (read_of_form Rows s).start s
  rows_one_form y e =
      let q = of_form_is Rows s e in
      let z = ap (λ (h : Head). h.refusal) (sym q.0) ∙ e in
      subst (λ (h : Head). s ≡ head_bytes h.width h.height ++ drop h.start s) (sym q.0) ((head_one_form s y z).1
      ∙ ap (λ (f : Form). head_spelt f (read_head s).colour_space (read_head s).width (read_head s).height ++ drop (read_head s).start s) q.1)

pub rows_read_back : (w h : ℕ) → Sized w h → (rest : List ℕ) → read_of_form Rows (head_bytes w h ++ rest) ≡ head_of 0 w h (length (head_bytes w h))
rows_read_back w h z rest =
    let e = head_read_back w h z rest in
    of_form_when Rows (head_bytes w h ++ rest) (ap (λ (x : Head). x.refusal) e) (ap (λ (x : Head). x.form) e) ∙ e

-- MAPS UP TO 16,384, AND TILES: a head that a console of before accepted is read as it was; of any other of form 1 that is accepted now such
-- a console answers 9, and of any sheet of form 2 it answers 8, whatever stands behind the form
module _ (s : List ℕ) (e : (old_head s).refusal ≡ 0) where
  in_rows : ((form_in s).refusal ≡ 0) × ((form_in s).value ≡ form_number Rows)
  in_rows = let (a, (b, m)) = (of_form_rules_is old_limit Rows s).met (sym (of_form_number old_limit Rows s) ∙ e) in (a, b)

  pub stored_heads_keep : read_head s ≡ old_head s
  stored_heads_keep =
      let q = of_form_same old_limit Rows s in_rows.0 in_rows.1 in
      head_kept old_limit limit s (omega arith) (ap (λ (h : Head). h.refusal) (sym q) ∙ e) ∙ sym q

  pub stored_rows_keep : read_of_form Rows s ≡ old_head s
  stored_rows_keep = of_form_this Rows s in_rows.0 in_rows.1 ∙ stored_heads_keep

pub old_console_refuses : (s : List ℕ) → (read_head s).refusal ≡ 0 → (read_head s).form ≡ Rows
    → (old_limit < (read_head s).width) ⊎ (old_limit < (read_head s).height) → old_head s ≡ head_of 9 0 0 0
old_console_refuses s e f above =
    let (a, b) = form_stated s e in
    of_form_same old_limit Rows s a (b ∙ ap form_number f)
    ∙ head_refused_before old_limit limit s e (λ z. larger z.within_wide z.within_high above)
  where
    larger : {w h : ℕ} → w ≤ old_limit → h ≤ old_limit → (old_limit < w) ⊎ (old_limit < h) → ⊥
    larger a b = ⊎_elim (λ l. omega (arith, a, l)) (λ l. omega (arith, b, l))

pub old_console_knows_no_tiles : (s : List ℕ) → (form_in s).value ≡ form_number Tiles → old_head s ≡ head_of 8 0 0 0
unfolding form_in read_number Told
old_console_knows_no_tiles s e = sym (of_form_not old_limit Rows s 8 (then stands (here (apart e))) (λ q. omega arith))
  where
    stands : (form_in s).refusal ≡ 0
    stands = ⊎_elim (λ n. absurd (there (ap (λ (r : Number). r.value) n) e)) (λ o. o.0) (told 3 0 (drop 0 s))
      where
        there : {n : ℕ} → n ≡ 0 → n ≡ form_number Tiles → ⊥
        there a b = omega (arith, a, b)

    apart : {n : ℕ} → n ≡ form_number Tiles → n ≡ form_number Rows → ⊥
    apart a b = omega (arith, a, b)

pub old_head_empty : (s : List ℕ) → (old_head s).refusal ≢ 0 → old_head s ≡ head_of (old_head s).refusal 0 0 0
old_head_empty s ne =
    let e = of_form_number old_limit Rows s in
    sym (of_form_not old_limit Rows s (old_head s).refusal (rw e (of_form_rules_is old_limit Rows s).given) ne)

-- writing a head: what such a console wrote is written as it was; a larger size it refused with 9
pub stored_heads_written : (w h : ℕ) → SizedUpTo old_limit w h → write_head w h ≡ write_head_up_to old_limit w h
unfolding write_head_up_to
stored_heads_written w h z = rw (size_0 limit w h (wider (omega arith) z), size_0 old_limit w h z)

pub old_console_writes_nothing : (w h : ℕ) → (SizedUpTo old_limit w h → ⊥) → write_head_up_to old_limit w h ≡ no_bytes 9
unfolding write_head_up_to
old_console_writes_nothing w h n = rw (size_9 old_limit w h n)

-- the largest side has three groups
pub largest_side : number_bytes limit ≡ 0x80 ∷ 0x80 ∷ 0x01 ∷ []
unfolding groups
largest_side = refl

-- ONE READER: the machine that takes the bytes one by one reads the head of every sheet as `read_head` says, and where it is accepted
-- the bytes that it leaves are the blocks
pub read_head_is_the_fold : (s : List ℕ) → (read_by at_form s).head ≡ read_head s
read_head_is_the_fold = bytes_read_head

pub fold_leaves_the_blocks : (s : List ℕ) → (read_head s).refusal ≡ 0 → (read_by at_form s).rest ≡ drop (read_head s).start s
fold_leaves_the_blocks = bytes_behind_head

-- writing a head gives 9 exactly when the size is not a sheet's, and no other number
pub head_not_written_when : (w h n : ℕ) → ((write_head w h).refusal ≡ n) ↔ Given (size_rules w h) n
head_not_written_when w h = exactly (rw same (alone (size_test limit w h)))
  where
    same : (write_head w h).refusal ≡ size_refusal w h
    same = ⊎_elim (λ z. sym (ap (λ (b : HeadBytes). b.refusal) (written w h refl z)) ∙ sym z)
        (λ p. sym (ap (λ (b : HeadBytes). b.refusal) (nothing w h refl (λ q. omega arith)))) (eq-zero-or-pos (size_refusal w h))

-- any two answers that a call's promise admits coincide
pub determined_read_head : (sheet : List ℕ) (a b : Result heads.Head Refusal) → ReadsHead sheet a → ReadsHead sheet b → a ≡ b
determined_read_head sheet a b p q = head_fixes a b (p ∙ sym q)

pub determined_write_head : (w h : ℕ) (a b : Result bytes.HeadBytes Refusal) → WritesHead w h a → WritesHead w h b → a ≡ b
determined_write_head w h a b p q = bytes_fixes a b (p ∙ sym q)

-- the blocks across a side are as few as show all of it
pub across_shows_all : (n : ℕ) → n ≤ 4 * across n
across_shows_all n = omega arith

pub across_as_few : (n : ℕ) → 1 ≤ n → 4 * (across n - 1) < n
across_as_few n l = omega (arith, l)

-- EACH BLOCK HAS EXACTLY ONE PLACE, in either form
pub record ExactlyOnePlace (h : Head) : Type 0 where
  -- from a block's number to its stored number and back, both ways, on all numbers below the count
  pub both_ways : Inverse (blocks_of h) (stored_at h) (number_at h)
  -- no two blocks share a byte
  pub apart : (a b : ℕ) → a < blocks_of h → b < blocks_of h → a ≢ b → (place_of h a + 16 ≤ place_of h b) ⊎ (place_of h b + 16 ≤ place_of h a)
  -- each stands behind the head and ends within the sheet
  pub within : (b : ℕ) → b < blocks_of h → (h.start ≤ place_of h b) × (place_of h b + 16 ≤ whole_length h)
  -- each sixteen bytes behind the head belong to one block
  pub filled : (p : ℕ) → p < blocks_of h → (number_at h p < blocks_of h) × (place_of h (number_at h p) ≡ h.start + 16 * p)

pub exactly_one_place : (s : List ℕ) → (read_head s).refusal ≡ 0 → ExactlyOnePlace (read_head s)
unfolding blocks_of
exactly_one_place s e = record {
  both_ways = one_order (read_head s) (some_blocks (head_sized s e));
  apart = blocks_apart (read_head s);
  within = λ b l. (blocks_behind_head (read_head s) b, blocks_within (read_head s) b l);
  filled = λ p l. (numbered_in (read_head s) p l, each_place (read_head s) p l);
}
