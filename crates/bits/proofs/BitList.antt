-- Each read is the next bits of the block's list of 128, low bit of byte 0 first.
-- Assumes nothing.
use mathlib.Core.Path.{◌≡◌, refl, sym, ap, ap₂, ◌∙◌}
use mathlib.Core.Logic.{⊎_elim}
use mathlib.Core.List.{List, ◌∷◌, ◌++◌}
use Prim.Native.Nat.{ℕ, zero, suc, ◌+◌, ◌-◌, ◌*◌, ◌/◌, ◌%◌, ◌^◌, ◌≤◌, ◌<◌, min}
use native.Mathlib.Nat.{div-div-eq-div-mul, div-eq_of_lt, div-lt_iff_lt-mul, div-one, le_of_lt, lt_of_lt_of_le, min-eq_left, min-eq_right, min-zero}
use native.Mathlib.Nat.{mod-eq_of_lt, mod-one, mul_comm, pow-suc, sub-zero, suc-add, suc-min-suc, suc-sub-suc, zero-add, zero-lt-suc, zero-min}
use native.Mathlib.Nat.{zero-sub}
use native.Mathlib.Omega.{arith}
use lib.Arith.{mod-mul}
use lib.Bits.{block_half, block_odd}
use lib.ListN.{length, take, drop, replicate}
use lib.Pow.{pow_pos, pow_mono, shr_lt, high}
use Rattle.bits.specs.declared.stream.BitStream.{BitStream}
use Rattle.bits.specs.declared.stream.Read.{Read}
use Rattle.laws.specs.Digits.{Fit, join, more, none}
use Rattle.laws.proofs.Cases.{lt_or}
use Rattle.laws.proofs.Digits.{join_lt}
use Rattle.bcn_format.specs.Block.{bits_of, bits_of_bytes, eights, field, number, value_of_bits}
use Rattle.bits.specs.Stream.{Answer, On, read_of, taken}
use Rattle.bits.proofs.On.{accepts, got, on_read}

-- the bits of a number
value_of_bits_is : (k n : ℕ) → value_of_bits (bits_of k n) ≡ n % 2 ^ k
value_of_bits_is zero n = sym (mod-one n)
value_of_bits_is (suc k) n =
    ap (λ (x : ℕ). x * 2 + n % 2) (value_of_bits_is k (n / 2))
    ∙ sym (ap (λ (x : ℕ). n % x) (pow-suc 2 k) ∙ mod-mul n (pow_pos k) (zero-lt-suc 1))

length_bits : (k n : ℕ) → length (bits_of k n) ≡ k
length_bits zero n = refl
length_bits (suc k) n = ap suc (length_bits k (n / 2))

half_shr : (n s : ℕ) → n / 2 / 2 ^ s ≡ n / 2 ^ suc s
half_shr n s = div-div-eq-div-mul n 2 (2 ^ s) ∙ ap (λ (x : ℕ). n / x) (mul_comm 2 (2 ^ s) ∙ sym (pow-suc 2 s))

drop_bits : (s k n : ℕ) → drop s (bits_of k n) ≡ bits_of (k - s) (n / 2 ^ s)
drop_bits zero k n = ap₂ bits_of (sym (sub-zero k)) (sym (div-one n))
drop_bits (suc s) zero n = ap (λ (x : ℕ). bits_of x (n / 2 ^ suc s)) (sym (zero-sub (suc s)))
drop_bits (suc s) (suc k) n = drop_bits s k (n / 2) ∙ ap₂ bits_of (sym (suc-sub-suc k s)) (half_shr n s)

take_bits : (w k n : ℕ) → take w (bits_of k n) ≡ bits_of (min w k) n
take_bits zero k n = ap (λ (x : ℕ). bits_of x n) (sym (zero-min k))
take_bits (suc w) zero n = ap (λ (x : ℕ). bits_of x n) (sym (min-zero (suc w)))
take_bits (suc w) (suc k) n = ap {B = List ℕ} (λ l. n % 2 ∷ l) (take_bits w k (n / 2)) ∙ ap (λ (x : ℕ). bits_of x n) (sym (suc-min-suc w k))

-- what is left of a number of k bits after s has k - s bits, none if s is past k
left_lt : (k s n : ℕ) → n < 2 ^ k → n / 2 ^ s < 2 ^ (k - s)
left_lt k s n h =
    ⊎_elim
    (λ (l : s < k). let e : k - s + s ≡ k = omega arith in shr_lt (k - s) s (rw e h))
    (λ (l : k ≤ s). rw (div-eq_of_lt (lt_of_lt_of_le h (pow_mono l))) (pow_pos (k - s)))
    (lt_or s k)

-- the field of w bits at s, also where the list ends before it does
field_bits : (k n s w : ℕ) → n < 2 ^ k → value_of_bits (take w (drop s (bits_of k n))) ≡ n / 2 ^ s % 2 ^ w
field_bits k n s w h =
    ap (λ (l : List ℕ). value_of_bits (take w l)) (drop_bits s k n) ∙ ap value_of_bits (take_bits w (k - s) (n / 2 ^ s))
    ∙ value_of_bits_is (min w (k - s)) (n / 2 ^ s)
    ∙ ⊎_elim
    (λ (l : w < k - s). ap (λ (x : ℕ). n / 2 ^ s % 2 ^ x) (min-eq_left (le_of_lt l)))
    (λ (l : k - s ≤ w). ap (λ (x : ℕ). n / 2 ^ s % 2 ^ x) (min-eq_right l) ∙ mod-eq_of_lt (left_lt k s n h)
    ∙ sym (mod-eq_of_lt (lt_of_lt_of_le (left_lt k s n h) (pow_mono l))))
    (lt_or w (k - s))

-- the bits of bytes are the bits of their number
bits_append : (j k n : ℕ) → bits_of (j + k) n ≡ bits_of j n ++ bits_of k (n / 2 ^ j)
bits_append zero k n = ap₂ bits_of (zero-add k) (sym (div-one n))
bits_append (suc j) k n =
    ap (λ (x : ℕ). bits_of x n) (suc-add j k)
    ∙ ap {B = List ℕ} (λ l. n % 2 ∷ l) (bits_append j k (n / 2) ∙ ap {B = List ℕ} (λ x. bits_of j (n / 2) ++ bits_of k x) (half_shr n j))

bits_low : (k a b : ℕ) → b < 2 ^ k → bits_of k (a * 2 ^ k + b) ≡ bits_of k b
bits_low zero a b h = refl
bits_low (suc k) a b h =
    ap₂ {C = List ℕ} (λ x l. x ∷ l) (block_odd a k b)
    (ap (bits_of k) (block_half a k b) ∙ bits_low k a (b / 2) ((div-lt_iff_lt-mul (zero-lt-suc 1)).1 (rw (pow-suc 2 k) at h)))

bytes_bits : (k : ℕ) {bs : List ℕ} → Fit (replicate k 8) bs → bits_of_bytes bs ≡ bits_of (8 * k) (join (replicate k 8) bs)
bytes_bits zero none = refl
bytes_bits (suc k) (more {v = b} {vs = bs} h f) =
    let n : ℕ = join (replicate k 8) bs in
    let e : 8 + 8 * k ≡ 8 * suc k = omega arith in
    ap₂ {C = List ℕ} (λ x y. x ++ y) (sym (bits_low 8 n b h)) (bytes_bits k f ∙ ap (bits_of (8 * k)) (sym (high n 8 h)))
    ∙ sym (bits_append 8 (8 * k) (n * 2 ^ 8 + b))
    ∙ ap (λ (x : ℕ). bits_of x (n * 2 ^ 8 + b)) e

-- the number of the w bits of the list from bit a on
abbrev pub listed : List ℕ → ℕ → ℕ → ℕ
listed bs a w = value_of_bits (take w (drop a (bits_of_bytes bs)))

module _ {bs : List ℕ} (block : Fit eights bs) where
  pub bits_128 : length (bits_of_bytes bs) ≡ 128
  bits_128 = ap length (bytes_bits 16 block) ∙ length_bits 128 (join eights bs)

  -- a field of the block's number is the next bits of the list
  pub field_is_bits : (at w : ℕ) → field (number bs) at w ≡ listed bs at w
  unfolding field number
  field_is_bits at w =
      sym (field_bits 128 (join eights bs) at w (join_lt block)) ∙ ap (λ (l : List ℕ). value_of_bits (take w (drop at l))) (sym (bytes_bits 16 block))

  -- each read of a stream that stands at bit a of the block
  module _ {a : ℕ} {s : BitStream} (o : On (number bs) a s) (w : ℕ) where
    pub taken_bits : {r : Read} → r ≡ taken s w → (r.value ≡ listed bs a w) × On (number bs) (a + w) r.stream
    taken_bits e = (got o w e ∙ field_is_bits a w, on_read o w e)

    pub read_bits : a + w ≤ 128 → {r : Answer} → r ≡ read_of s w → (r.value ≡ listed bs a w) × On (number bs) (a + w) r.stream
    read_bits h e = rw (accepts o w h e) (taken_bits refl)
