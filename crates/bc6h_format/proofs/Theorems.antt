-- WHAT IS PROVED OF BC6H, in one place. q is a pixel below 16 and c a channel below 3; n is the block's number, and m its mode.
-- Assumes nothing.
use mathlib.Core.Path.{◌≡◌, refl, ap}
use mathlib.Core.Bool.{Bool, true, false}
use mathlib.Core.List.{List}
use Prim.Native.Nat.{ℕ, ◌+◌, ◌-◌, ◌*◌, ◌/◌, ◌%◌, ◌^◌, ◌≤◌, ◌<◌}
use native.Mathlib.Omega.{arith}
use borrow.Author.Tests.{lt-ltb}
use lib.Dec.{eqb, ltb}
use lib.ListN.{replicate}
use Rattle.laws.specs.Tables.{both, pick}
use Rattle.laws.proofs.Cases.{pick_either}
use Rattle.bcn_format.specs.Block.{number}
use Rattle.bcn_format.specs.Drawing.{drawn, weight_of}
use Rattle.bc6h_format.specs.Modes.{bits_at, index_bits, mode_in, row_of}
use Rattle.bc6h_format.specs.Opened.{field_of, index_of, partition_of, subset}
use Rattle.bc6h_format.specs.Widening.{endpoint, extended, widened, wrapped, zero_at}
use Rattle.bc6h_format.specs.Halves.{finished, finished_signed, finished_unsigned, half, halves, negative, shown}
use Rattle.bc6h_format.specs.Floats.{exponent, fraction, sign_bit}
use Rattle.bc6h_format.proofs.Bounds.{between, between_lt, endpoint_lt, finished_lt, of_finished}
use Rattle.bc6h_format.proofs.Reserved.{reserved_gives_zeros}
use Rattle.bc6h_format.proofs.Signs.{LowEnds, half_of_signed}

-- a half has sixteen bits
pub half_has_16_bits : (signed : Bool) (bs : List ℕ) (q c : ℕ) → q < 16 → c < 3 → half signed bs q c < 2 ^ 16
half_has_16_bits signed bs q c hq hc =
    let n = number bs in
    of_finished (λ h. h < 2 ^ 16) signed bs q c (omega arith) (finished_lt signed _ (between_lt signed (mode_in n) n q c hq hc))

-- a reserved mode gives zero in all three channels of all sixteen pixels, whatever the sign and the rest of the block
pub reserved_is_zero : (signed : Bool) (bs : List ℕ) → (row_of (mode_in (number bs))).subsets ≡ 0 → halves signed bs ≡ replicate 16 (replicate 3 0)
reserved_is_zero = reserved_gives_zeros

-- where a mode stores differences, an endpoint behind the first is base plus difference, wrapped at the base's width ..
pub wraps_at_the_width : (m n c e : ℕ) → (row_of m).differences ≡ true → 0 < e → endpoint (row_of m) n c e
    ≡ (field_of (row_of m) n c 0 + extended (bits_at (row_of m) c e) (row_of m).base (field_of (row_of m) n c e)) % 2 ^ (row_of m).base
unfolding endpoint wrapped
wraps_at_the_width m n c e d h =
    ap
    (λ (b : Bool).
    pick b
    ((field_of (row_of m) n c 0 + extended (bits_at (row_of m) c e) (row_of m).base (field_of (row_of m) n c e)) % 2 ^ (row_of m).base)
    (field_of (row_of m) n c e))
    (both_true (row_of m).differences (ltb 0 e) d (lt-ltb 0 e h))
  where
    both_true : (a b : Bool) → a ≡ true → b ≡ true → both a b ≡ true
    both_true true true x y = refl
    both_true true false x y = y
    both_true false b x y = x

-- .. and that is what is widened: it has the base's width
pub wraps_before_it_is_widened : (m n c e : ℕ) → c < 3 → e < 4 → endpoint (row_of m) n c e < 2 ^ (row_of m).base
wraps_before_it_is_widened = endpoint_lt

-- unsigned, no half is negative or infinite, or not a number
pub record Finite (h : ℕ) : Type 0 where
  pub positive : sign_bit h ≡ 0
  pub finite : exponent h < 31

finite : (h : ℕ) → h < 0x7C00 → Finite h
finite h l = record { positive = omega arith; finite = omega arith }

pub unsigned_is_finite : (bs : List ℕ) (q c : ℕ) → q < 16 → c < 3 → Finite (half false bs q c)
unfolding finished finished_unsigned
unsigned_is_finite bs q c hq hc =
    let n = number bs in
    let b = between_lt false (mode_in n) n q c hq hc in
    of_finished Finite false bs q c (finite 0 (omega arith))
    (finite (between false (row_of (mode_in n)) n q c * 31 / 64)
    (let y : between false (row_of (mode_in n)) n q c * 31 / 64 < 0x7C00 = omega (arith, b) in y))

-- signed, no half is something that isn't a number: of the exponent 31 there is only infinity
abbrev pub IsNumber : ℕ → Type 0
IsNumber h = exponent h ≡ 31 → fraction h ≡ 0

is_number : (h : ℕ) → h % 2 ^ 15 ≤ 0x7C00 → IsNumber h
is_number h l e = omega arith

below_zero : (x : ℕ) → x ≤ 0x7C00 → (0x8000 + x) % 2 ^ 15 ≤ 0x7C00
below_zero x h = omega arith

pub signed_is_a_number : (bs : List ℕ) (q c : ℕ) → q < 16 → c < 3 → IsNumber (half true bs q c)
unfolding finished finished_signed negative
signed_is_a_number bs q c hq hc =
    let n = number bs in
    let v = between true (row_of (mode_in n)) n q c in
    let b = between_lt true (mode_in n) n q c hq hc in
    of_finished IsNumber true bs q c (is_number 0 (omega arith))
    (pick_either IsNumber (ltb v zero_at)
    (pick_either IsNumber (eqb ((zero_at - v) * 31 / 32) 0) (is_number 0 (omega arith))
    (is_number (0x8000 + (zero_at - v) * 31 / 32) (below_zero _ (let y : (zero_at - v) * 31 / 32 ≤ 0x7C00 = omega arith in y))))
    (is_number ((v - zero_at) * 31 / 32) (let y : (v - zero_at) * 31 / 32 % 2 ^ 15 ≤ 0x7C00 = omega (arith, b) in y)))

-- WHAT THE SIGNS SHARE: of one block a channel lies, whatever the sign, between the same two endpoints at the same weight; only how they are widened
-- and finished differs ..
pub signs_share : (signed : Bool) (bs : List ℕ) (q c : ℕ) → let n = number bs in let r = row_of (mode_in n) in
    let k = subset r (partition_of r n) q in half signed bs q c
    ≡ pick (eqb r.subsets 0) 0
    (finished signed (drawn (widened signed r.base (endpoint r n c (2 * k))) (widened signed r.base (endpoint r n c (2 * k + 1)))
    (weight_of (index_bits r) (index_of r n q))))
unfolding half shown
signs_share signed bs q c = refl

-- .. and where both endpoints are below the highest signed value, the unsigned half is half of the signed one, rounded down
pub unsigned_is_half_of_signed : (bs : List ℕ) (q c : ℕ) → LowEnds (row_of (mode_in (number bs))) (number bs) q c
    → half false bs q c ≡ half true bs q c / 2
unfolding half shown
unsigned_is_half_of_signed bs q c low = go (eqb (row_of (mode_in (number bs))).subsets 0)
  where
    go : (b : Bool) → let n = number bs in let r = row_of (mode_in n) in
        pick b 0 (finished false (between false r n q c)) ≡ pick b 0 (finished true (between true r n q c)) / 2
    go true = omega arith
    go false = half_of_signed (mode_in (number bs)) (number bs) q c low
