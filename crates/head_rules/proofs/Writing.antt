-- The bytes of a number and of a head, one after the other.
-- Assumes nothing.
use mathlib.Core.Path.{◌≡◌, refl, ◌∙◌, ap, ap₂, sym}
use mathlib.Core.Logic.{⊎_elim}
use mathlib.Core.List.{List, [], ◌∷◌, ◌++◌, append_assoc}
use Prim.Native.Nat.{ℕ, zero, suc, ◌+◌, ◌-◌, ◌/◌, ◌%◌, ◌<◌, ◌≤◌}
use native.Mathlib.Omega.{arith}
use lib.ListN.{drop, get_or, length, length-append, length-replicate, replicate}
use lib.Seq.{ext_get_or}
use borrow.Author.Tests.{lt-ltb, le-ltb, eq-eqb, ne_eqb}
use Rattle.head_rules.specs.Answers.{HeadBytes}
use Rattle.laws.specs.Padding.{padded}
use Rattle.laws.proofs.Cases.{lt_or}
use Rattle.laws.proofs.Padding.{stored_append, stored_zeros}
use Rattle.head_rules.specs.declared.ColourSpace.TheVariants.{Unspecified}
use Rattle.head_rules.specs.declared.Form.{Form}
use Rattle.head_rules.specs.declared.Form.TheVariants.{Rows, Tiles}
use Rattle.head_rules.specs.declared.FormBytes.{FormBytes}
use Rattle.head_rules.specs.Heads.{form_number, head_bytes, no_bytes, seven_of, size_refusal, tiled_bytes, with_bytes, write_form}
use Rattle.head_rules.specs.Heads.{write_head, write_head_up_to}
use Rattle.head_rules.specs.Numbers.{groups, number_bytes, numbers_end}

-- the groups of a number
pub groups_last : (k n : ℕ) → n < 128 → groups (suc k) n ≡ n ∷ []
unfolding groups
groups_last k n h = rw (lt-ltb n 128 h)

pub groups_more : (k n : ℕ) → 128 ≤ n → groups (suc k) n ≡ (n % 128 + 128) ∷ groups k (n / 128)
unfolding groups
groups_more k n h = rw (le-ltb n 128 h)

pub few : (k n : ℕ) → length (groups k n) ≤ k
unfolding groups
few zero n = omega arith
few (suc k) n =
    ⊎_elim (λ h. rw (groups_last k n h) (omega arith)) (λ h. rw (groups_more k n h) (omega (arith, few k (n / 128)))) (lt_or n 128)

-- bytes behind bytes
with_append : (h : HeadBytes) (xs ys : List ℕ) → with_bytes (with_bytes h xs) ys ≡ with_bytes h (xs ++ ys)
with_append h xs ys = ap (λ (p : List ℕ × ℕ). record { refusal = h.refusal; bytes = p.0; count = p.1 }) (stored_append (h.bytes, h.count) xs ys)

pub same_count : {g h : HeadBytes} → g ≡ h → g.count ≡ h.count
same_count e = ap (λ (x : HeadBytes). x.count) e

-- the ways of `write_number`
module _ (h : HeadBytes) (n : ℕ) where
  pub one_group : n < 128 → with_bytes h (n ∷ []) ≡ with_bytes h (number_bytes n)
  one_group a = ap (with_bytes h) (sym (groups_last 2 n a))

  pub two_groups : 128 ≤ n → n / 128 < 128 → with_bytes (with_bytes h ((n % 128 + 128) ∷ [])) (n / 128 ∷ []) ≡ with_bytes h (number_bytes n)
  two_groups a b = with_append h ((n % 128 + 128) ∷ []) (n / 128 ∷ []) ∙ ap (with_bytes h)
      (sym (groups_more 2 n a ∙ ap (λ (t : List ℕ). (n % 128 + 128) ∷ t) (groups_last 1 (n / 128) b)))

  pub three_groups : 128 ≤ n → 128 ≤ n / 128 → n < numbers_end
      → with_bytes (with_bytes (with_bytes h ((n % 128 + 128) ∷ [])) ((n / 128 % 128 + 128) ∷ [])) (n / 128 / 128 ∷ []) ≡ with_bytes h (number_bytes n)
  three_groups a b c =
      ap (λ (x : HeadBytes). with_bytes x (n / 128 / 128 ∷ [])) (with_append h ((n % 128 + 128) ∷ []) ((n / 128 % 128 + 128) ∷ []))
      ∙ with_append h ((n % 128 + 128) ∷ (n / 128 % 128 + 128) ∷ []) (n / 128 / 128 ∷ [])
      ∙ ap (with_bytes h) (sym (groups_more 2 n a
      ∙ ap (λ (t : List ℕ). (n % 128 + 128) ∷ t) (groups_more 1 (n / 128) b ∙ ap (λ (t : List ℕ). (n / 128 % 128 + 128) ∷ t)
      (groups_last 0 (n / 128 / 128) (omega arith)))))

-- the ways of `write_head`
pub one_byte : length (number_bytes (form_number Rows)) ≡ 1
unfolding groups
one_byte = refl

pub nothing : (w h : ℕ) {r : ℕ} → r ≡ size_refusal w h → (r ≡ 0 → ⊥) → no_bytes r ≡ write_head w h
unfolding write_head_up_to
nothing w h e ne = rw (← e, ne_eqb _ 0 ne)

module _ (w h : ℕ) where
  pub short : length (head_bytes w h) ≤ 7
  unfolding head_bytes
  short = simp length-append (omega (arith, one_byte, few 3 w, few 3 h))

  pub all : with_bytes (with_bytes (with_bytes (no_bytes 0) (number_bytes (form_number Rows))) (number_bytes w)) (number_bytes h) ≡ seven_of (head_bytes w h)
  unfolding head_bytes
  all =
      ap (λ (x : HeadBytes). with_bytes x (number_bytes h)) (with_append (no_bytes 0) (number_bytes (form_number Rows)) (number_bytes w))
      ∙ with_append (no_bytes 0) (number_bytes (form_number Rows) ++ number_bytes w) (number_bytes h)
      ∙ ap (with_bytes (no_bytes 0)) (append_assoc (number_bytes (form_number Rows)) (number_bytes w) (number_bytes h))
      ∙ ap (λ (p : List ℕ × ℕ). record { refusal = 0; bytes = p.0; count = p.1 }) (stored_zeros 7 _ short)

  pub written : {r : ℕ} → r ≡ size_refusal w h → r ≡ 0 → seven_of (head_bytes w h) ≡ write_head w h
  unfolding write_head_up_to
  written e z = sym (rw (eq-eqb (size_refusal w h) 0 (sym e ∙ z)))

-- the ways of `write_form`: a zero behind the seven bytes of `write_head`, and 2 in front of them for form 2
seven_of_is : (l : List ℕ) → length l ≡ 7 → get_or l 0 0 ∷ get_or l 1 0 ∷ get_or l 2 0 ∷ get_or l 3 0 ∷ get_or l 4 0 ∷ get_or l 5 0 ∷ get_or l 6 0 ∷ [] ≡ l
seven_of_is l e = ext_get_or 0 _ l (sym e) (λ k lk. go k lk)
  where
    go : (k : ℕ) → k < 7 → get_or (get_or l 0 0 ∷ get_or l 1 0 ∷ get_or l 2 0 ∷ get_or l 3 0 ∷ get_or l 4 0 ∷ get_or l 5 0 ∷ get_or l 6 0 ∷ []) k 0 ≡ get_or l k 0
    go zero h = refl
    go (suc zero) h = refl
    go (suc (suc zero)) h = refl
    go (suc (suc (suc zero))) h = refl
    go (suc (suc (suc (suc zero)))) h = refl
    go (suc (suc (suc (suc (suc zero))))) h = refl
    go (suc (suc (suc (suc (suc (suc zero)))))) h = refl
    go (suc (suc (suc (suc (suc (suc (suc k))))))) h = absurd (let q : ⊥ = omega (arith, h) in q)

abbrev zeros : ℕ → List ℕ
zeros n = replicate n 0

zeros_turn : (n : ℕ) → zeros n ++ zeros 1 ≡ 0 ∷ zeros n
zeros_turn zero = refl
zeros_turn (suc n) = ap (λ (t : List ℕ). 0 ∷ t) (zeros_turn n)

pub padded_long : (n : ℕ) (bs : List ℕ) → length bs ≤ n → length (padded n bs) ≡ n
unfolding padded
padded_long n bs l =
    length-append bs (replicate (n - length bs) 0) ∙ ap (λ (m : ℕ). length bs + m) (length-replicate (n - length bs) 0) ∙ omega (arith, l)

zero_more : (n : ℕ) (bs : List ℕ) → length bs ≤ n → padded n bs ++ (0 ∷ []) ≡ padded (n + 1) bs
unfolding padded
zero_more n bs l =
    let e : n + 1 - length bs ≡ suc (n - length bs) = omega (arith, l) in
    append_assoc bs (zeros (n - length bs)) (zeros 1) ∙ ap (λ (t : List ℕ). bs ++ t)
    (zeros_turn (n - length bs) ∙ ap zeros (sym e))

zero_last : (t : List ℕ) (n : ℕ) → (t ++ zeros n) ++ zeros 1 ≡ (t ++ zeros 1) ++ zeros n
zero_last t n = append_assoc t (zeros n) (zeros 1) ∙ ap (λ (x : List ℕ). t ++ x) (zeros_turn n) ∙ sym (append_assoc t (zeros 1) (zeros n))

module _ (w h : ℕ) {b : List ℕ} (e : b ≡ padded 7 (head_bytes w h)) where
  abbrev from_1 : List ℕ
  from_1 = get_or b 1 0 ∷ get_or b 2 0 ∷ get_or b 3 0 ∷ get_or b 4 0 ∷ get_or b 5 0 ∷ get_or b 6 0 ∷ []

  as_seven : get_or b 0 0 ∷ from_1 ≡ padded 7 (head_bytes w h)
  as_seven = seven_of_is b (ap length e ∙ padded_long 7 (head_bytes w h) (short w h)) ∙ e

  pub rows_written : get_or b 0 0 ∷ (from_1 ++ (0 ∷ [])) ≡ padded 8 (head_bytes w h)
  rows_written = ap (λ (t : List ℕ). t ++ (0 ∷ [])) as_seven ∙ zero_more 7 (head_bytes w h) (short w h)

  pub tiles_written : 2 ∷ (from_1 ++ (0 ∷ [])) ≡ padded 8 (tiled_bytes Unspecified w h)
  unfolding padded head_bytes tiled_bytes groups
  tiles_written =
      let t = number_bytes w ++ number_bytes h in
      let n = 7 - length (head_bytes w h) in
      let tail : from_1 ≡ t ++ zeros n = ap (drop 1) as_seven in
      let spelt : tiled_bytes Unspecified w h ≡ 2 ∷ (t ++ zeros 1)
      = ap (λ (x : List ℕ). 2 ∷ x) (sym (append_assoc (number_bytes w) (number_bytes h) (zeros 1))) in
      let long : 8 - length (2 ∷ (t ++ zeros 1)) ≡ n = omega (arith, length-append t (zeros 1)) in
      ap (λ (x : List ℕ). 2 ∷ (x ++ zeros 1)) tail
      ∙ ap (λ (x : List ℕ). 2 ∷ x) (zero_last t n ∙ ap (λ (m : ℕ). (t ++ zeros 1) ++ zeros m) (sym long)) ∙ ap (padded 8) (sym spelt)

-- form 2 is one byte longer
pub one_longer : (w h : ℕ) → length (head_bytes w h) + 1 ≡ length (tiled_bytes Unspecified w h)
unfolding head_bytes tiled_bytes groups
one_longer w h = simp length-append (omega arith)

abbrev form_bytes : List ℕ → ℕ → FormBytes
form_bytes bs n = record { bytes = bs; count = n }

module _ (w h : ℕ) {x : HeadBytes} (head_written : x ≡ seven_of (head_bytes w h)) where
  abbrev b : List ℕ
  b = x.bytes

  bytes_written : b ≡ padded 7 (head_bytes w h)
  bytes_written = ap (λ (y : HeadBytes). y.bytes) head_written

  count_written : x.count ≡ length (head_bytes w h)
  count_written = ap (λ (y : HeadBytes). y.count) head_written

  pub few_bytes : x.count ≤ 7
  few_bytes = rw count_written (short w h)

  pub form_rows : {f : Form} → f ≡ Rows
      → record {
        bytes = get_or b 0 0 ∷ get_or b 1 0 ∷ get_or b 2 0 ∷ get_or b 3 0 ∷ get_or b 4 0 ∷ get_or b 5 0 ∷ get_or b 6 0 ∷ 0 ∷ [];
        count = x.count;
      } ≡ write_form f w h
  unfolding write_form
  form_rows e = rw e (ap₂ (λ (bs : List ℕ) (n : ℕ). form_bytes bs n) (rows_written w h bytes_written) count_written)

  pub form_tiles : {f : Form} → f ≡ Tiles
      → record {
        bytes = 2 ∷ get_or b 1 0 ∷ get_or b 2 0 ∷ get_or b 3 0 ∷ get_or b 4 0 ∷ get_or b 5 0 ∷ get_or b 6 0 ∷ 0 ∷ [];
        count = x.count + 1;
      } ≡ write_form f w h
  unfolding write_form
  form_tiles e =
      rw e
      (ap₂ (λ (bs : List ℕ) (n : ℕ). form_bytes bs n) (tiles_written w h bytes_written) (ap (λ (n : ℕ). n + 1) count_written ∙ longer))
    where
      longer : length (head_bytes w h) + 1 ≡ length (tiled_bytes Unspecified w h)
      longer = one_longer w h
