-- What reading a number gives, group by group.
-- Assumes nothing.
use mathlib.Core.Path.{◌≡◌, refl, ◌∙◌, ap, sym, subst}
use mathlib.Core.List.{List, [], ◌∷◌}
use mathlib.Core.Logic.{◌≢◌, ◌⊎◌, inl, inr, ⊎_elim}
use Prim.Native.Nat.{ℕ, zero, suc, ◌+◌, ◌*◌, ◌%◌, ◌^◌, ◌<◌, ◌≤◌}
use native.Mathlib.Nat.{eq-zero-or-pos, lt_of_lt_of_le, one-le-pow, pow-le-pow_right, pow-suc}
use native.Mathlib.Numerals.{add-one}
use native.Mathlib.Omega.{arith}
use lib.ListN.{length, get_or, drop, drop_of_length-le}
use lib.Seq.{drop-cons}
use borrow.Author.Tests.{lt-ltb, le-ltb, eq-eqb, ne_eqb}
use Rattle.head_rules.specs.Answers.{Number}
use Rattle.laws.proofs.Cases.{lt_or}
use Rattle.head_rules.specs.Numbers.{found, no_number, raised, read_groups, read_number}

pub raised_none : (b : ℕ) (r : Number) → r.value ≡ 0 → raised b r ≡ no_number
unfolding raised
raised_none b r e = rw (eq-eqb r.value 0 e)

pub raised_some : (b : ℕ) (r : Number) → (r.value ≡ 0 → ⊥) → raised b r ≡ found (r.value * 128 + b % 128) r.next
unfolding raised
raised_some b r e = rw (ne_eqb r.value 0 e)

-- the first byte is the last group, or the low group below a number
pub read_last : (k at b : ℕ) (bs : List ℕ) → b < 128 → read_groups (suc k) at (b ∷ bs) ≡ found b (at + 1)
unfolding read_groups
read_last k at b bs h = rw (lt-ltb b 128 h)

pub read_more : (k at b : ℕ) (bs : List ℕ) → 128 ≤ b → read_groups (suc k) at (b ∷ bs) ≡ raised b (read_groups k (at + 1) bs)
unfolding read_groups
read_more k at b bs h = rw (le-ltb b 128 h)

-- what holds of no number, of a last group, and of a number that is raised wherever it holds of the number above, holds of each
-- number that is read
module _ (P : ℕ → ℕ → List ℕ → Number → Type 0) (none : (k at : ℕ) (bs : List ℕ) → P k at bs no_number)
    (last : (k at b : ℕ) (bs : List ℕ) → b < 128 → P (suc k) at (b ∷ bs) (found b (at + 1)))
    (more : (k at b : ℕ) (bs : List ℕ) (r : Number) → 128 ≤ b → (r.value ≡ 0 → ⊥) → P k (at + 1) bs r
    → P (suc k) at (b ∷ bs) (found (r.value * 128 + b % 128) r.next)) where
  pub every_number : (k at : ℕ) (bs : List ℕ) → P k at bs (read_groups k at bs)
  unfolding read_groups
  every_number zero at bs = none zero at bs
  every_number (suc k) at [] = none (suc k) at []
  every_number (suc k) at (b ∷ bs) =
      ⊎_elim (λ l. rw (lt-ltb b 128 l) (last k at b bs l)) (λ l. rw (le-ltb b 128 l) (go l (read_groups k (at + 1) bs) (every_number k (at + 1) bs)))
      (lt_or b 128)
    where
      go : 128 ≤ b → (r : Number) → P k (at + 1) bs r → P (suc k) at (b ∷ bs) (raised b r)
      go l r h =
          ⊎_elim (λ z. subst (P (suc k) at (b ∷ bs)) (sym (raised_none b r z)) (none (suc k) at (b ∷ bs)))
          (λ z. let ne : r.value ≡ 0 → ⊥ = λ q. omega arith in subst (P (suc k) at (b ∷ bs)) (sym (raised_some b r ne)) (more k at b bs r l ne h))
          (eq-zero-or-pos r.value)

-- k groups have seven bits each, and end at most k places on
pub value_small : (k at : ℕ) (bs : List ℕ) → (read_groups k at bs).value < 128 ^ k
value_small =
    every_number (λ k at bs r. r.value < 128 ^ k) (λ k at bs. one-le-pow k 128 (omega arith))
    (λ k at b bs l. omega (arith, pow-suc 128 k, one-le-pow k 128 (omega arith)))
    (λ k at b bs r l ne h. omega (arith, pow-suc 128 k, h))

-- so what stands above the low group leaves room for it
pub above_small : (k at : ℕ) (bs : List ℕ) {above : Number} → above ≡ read_groups k at bs → k ≤ 2 → above.value < 16384
above_small k at bs e h = rw e (lt_of_lt_of_le (value_small k at bs) (pow-le-pow_right {n = 128} (omega arith) {i = k} {j = 2} h))

next_near : (k at : ℕ) (bs : List ℕ) → (read_groups k at bs).next ≤ at + k
next_near = every_number (λ k at bs r. r.next ≤ at + k) (λ k at bs. omega arith) (λ k at b bs l. omega arith) (λ k at b bs r l ne h. omega arith)

pub near : (s : List ℕ) (at : ℕ) {r : Number} → r ≡ read_number s at → r.next ≤ at + 3
unfolding read_number
near s at e = rw e (next_near 3 at (drop at s))

-- no number is read in one way only
nothing_else : (k at : ℕ) (bs : List ℕ) {r : Number} → r ≡ read_groups k at bs → r.refusal ≢ 0 → r ≡ no_number
nothing_else k at bs {r} e ne =
    ⊎_elim (λ n. e ∙ n) (λ z. absurd (ne (ap (λ (x : Number). x.refusal) e ∙ z)))
    (every_number (λ k at bs r. (r ≡ no_number) ⊎ (r.refusal ≡ 0)) (λ k at bs. inl refl) (λ k at b bs l. inr refl) (λ k at b bs r l n h. inr refl) k at bs)

-- the ways of reading a number in at most k groups
module _ (s : List ℕ) (at : ℕ) where
  abbrev read : ℕ → ℕ → Number
  read k at = read_groups k at (drop at s)

  pub cut_off : (k : ℕ) → length s ≤ at → no_number ≡ read k at
  unfolding read_groups
  cut_off zero h = refl
  cut_off (suc k) h = rw (drop_of_length-le s {i = at} h)

  pub last_group : (k : ℕ) {v : ℕ} → at < length s → get_or s at 0 < 128 → v ≡ get_or s at 0 → found v (at + 1) ≡ read (suc k) at
  last_group k h l e = rw (drop-cons s at 0 h, e) (sym (read_last k at (get_or s at 0) _ l))

  pub more_groups : (k : ℕ) → at < length s → 128 ≤ get_or s at 0 → {above : Number} → above ≡ read k (at + 1)
      → raised (get_or s at 0) above ≡ read (suc k) at
  more_groups k h l e =
      sym
      (rw (drop-cons s at 0 h) (read_more k at (get_or s at 0) _ l ∙ ap (raised (get_or s at 0))
      (ap (λ (j : ℕ). read_groups k (at + 1) (drop j s)) (sym (add-one at)) ∙ sym e)))

  -- where none stands above the low group, none stands here
  pub no_more : (k : ℕ) → at < length s → 128 ≤ get_or s at 0 → {above : Number} → above ≡ read k (at + 1) → above.refusal ≢ 0 → above ≡ read (suc k) at
  no_more k h l e ne =
      let none = nothing_else k (at + 1) _ e ne in
      none ∙ sym (raised_none (get_or s at 0) no_number refl) ∙ more_groups k h l (sym none ∙ e)

  -- one group is not enough
  pub no_group : at < length s → 128 ≤ get_or s at 0 → no_number ≡ read 1 at
  unfolding read_groups
  no_group h l = sym (raised_none (get_or s at 0) no_number refl) ∙ more_groups 0 h l refl
