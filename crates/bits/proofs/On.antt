-- Reads one after the other, over one number.
-- Assumes nothing.
use mathlib.Core.Path.{◌≡◌, refl, sym, ap, ap₂, ◌∙◌}
use mathlib.Core.Logic.{◌↔◌, ⊎_elim}
use mathlib.Core.List.{[], ◌∷◌}
use Rattle.std.specs.Prelude.{Result}
use Prim.Native.Nat.{ℕ, ◌+◌, ◌-◌, ◌*◌, ◌/◌, ◌%◌, ◌^◌, ◌≤◌, ◌<◌}
use native.Mathlib.Nat.{mod-one}
use native.Mathlib.Omega.{arith}
use borrow.Author.Tests.{lt-ltb, le-ltb}
use lib.Pow.{pow_pos}
use Rattle.bits.specs.declared.stream.BitStream.{BitStream}
use Rattle.bits.specs.declared.stream.Read.{Read}
use Rattle.bits.specs.declared.stream.ShortRead.{ShortRead}
use Rattle.laws.specs.Digits.{split, total}
use Rattle.laws.specs.Refusals.{Given, unless}
use Rattle.laws.specs.Tables.{table}
use Rattle.laws.proofs.Cases.{lt_or}
use Rattle.laws.proofs.Refusals.{Decided, alone, exactly, fails, holds}
use Rattle.laws.proofs.Rows.{split_table}
use Rattle.laws.proofs.Words.{rem_window}
use Rattle.bcn_format.specs.Block.{field}
pub use Rattle.bcn_format.proofs.Fields.{field_below, field_lt}
use Rattle.bits.specs.Stream.{Answer, Reads, Taken, accepted, answer_of, held, read_of, short_read, skipped, taken}
pub use Rattle.bits.specs.Stream.{On}

-- a read by whether its bits are there
module _ (s : BitStream) (w : ℕ) where
  pub read_fits : s.at + w ≤ 128 → read_of s w ≡ accepted (taken s w)
  unfolding read_of
  read_fits h = rw (le-ltb 128 (s.at + w) h)

  pub read_short : 128 < s.at + w → read_of s w ≡ short_read s
  unfolding read_of
  read_short h = rw (lt-ltb 128 (s.at + w) h)

  read_small : (read_of s w).value < 2 ^ w
  read_small =
      ⊎_elim (λ (l : 128 < s.at + w). rw (read_short l) (pow_pos w)) (λ (l : s.at + w ≤ 128). rw (read_fits l) (field_lt _ _ _))
      (lt_or 128 (s.at + w))

  decided : Decided (read_of s w).refusal 22 (s.at + w ≤ 128)
  decided =
      ⊎_elim
      (λ (l : 128 < s.at + w). fails (λ h. let z : ⊥ = omega arith in z) (ap (λ (r : Answer). r.refusal) (read_short l))
      (λ e. let z : ⊥ = omega arith in z))
      (λ (l : s.at + w ≤ 128). holds l (ap (λ (r : Answer). r.refusal) (read_fits l)))
      (lt_or 128 (s.at + w))

  -- EXACTLY WHEN: 22 where the bits aren't all there, else 0
  pub refused_when : (n : ℕ) → ((read_of s w).refusal ≡ n) ↔ Given (unless 22 (s.at + w ≤ 128) ∷ []) n
  refused_when = exactly (alone decided)

  -- what a read promises, and what one promises that was asked for its room
  pub reads : {r : Result Read ShortRead} → answer_of s r ≡ read_of s w → Reads s w r
  reads e = record { same = e; small = rw e read_small }

  pub takes : {r : Read} → r ≡ taken s w → Taken s w r
  takes e = record { same = e; small = rw e (field_lt _ _ _); stands = rw e refl }

-- the w bits that come next, in the 64 of a window there; no bits are asked for where the window isn't there
pub in_window : (x n a w : ℕ) → w < 64 → (a < 128 → x ≡ n / 2 ^ a % 2 ^ 64) → a + w ≤ 128 → x % ((1 * 2 ^ w) % 2 ^ 64) ≡ field n a w
unfolding field
in_window x n a w narrow is h =
    ⊎_elim (λ (l : a < 128). rw (is l) (rem_window (n / 2 ^ a) w narrow))
    (λ (l : 128 ≤ a). let none : w ≡ 0 = omega arith in rw none (mod-one x ∙ sym (mod-one (n / 2 ^ a))))
    (lt_or a 128)

-- what a stream holds that skips
pub held_skipped : (s : BitStream) {t : BitStream} (w : ℕ) → t ≡ skipped s w → held t ≡ held s
unfolding held
held_skipped s w e = rw e refl

module _ {n a : ℕ} {s : BitStream} (o : On n a s) where
  pub on_skipped : (w : ℕ) → On n (a + w) (skipped s w)
  unfolding held
  on_skipped w = record { of = o.of; stands = ap (λ (y : ℕ). y + w) o.stands }

  pub next_is : (w : ℕ) → field (held s) s.at w ≡ field n a w
  next_is w = ap₂ (λ (x y : ℕ). field x y w) o.of o.stands

  -- a read takes its bits where they are there
  pub accepts : (w : ℕ) → a + w ≤ 128 → {r : Answer} → r ≡ read_of s w → r ≡ accepted (taken s w)
  accepts w h e = e ∙ read_fits s w (rw o.stands h)

-- w bits taken from bit a of n on: what they are, where they stood and what remains, and where the stream stands then
module _ {n a : ℕ} {s : BitStream} (o : On n a s) (w : ℕ) {r : Read} (e : r ≡ taken s w) where
  pub got : r.value ≡ field n a w
  got = ap (λ (r : Read). r.value) e ∙ next_is o w

  pub stood : r.first ≡ a
  stood = ap (λ (r : Read). r.first) e ∙ o.stands

  pub left : r.remaining ≡ 128 - (a + w)
  left = ap (λ (r : Read). r.remaining) e ∙ ap (λ (b : ℕ). 128 - (b + w)) o.stands

  pub on_read : On n (a + w) r.stream
  on_read = rw e (on_skipped o w)

-- values read at the widths f 0, f 1, .. one after the other are the digits of n
pub split_fields : (k : ℕ) (f : ℕ → ℕ) (n : ℕ) → split (table k f) n ≡ table k (λ i. field n (total (table i f)) (f i))
unfolding field
split_fields k f n = split_table k f n
