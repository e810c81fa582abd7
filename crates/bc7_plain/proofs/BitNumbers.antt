-- Bits by their numbers, fields made of them, and the mode.
-- Assumes nothing.
use mathlib.Core.Path.{◌≡◌, refl, sym, ap, ◌∙◌}
use mathlib.Core.List.{List}
use Prim.Native.Nat.{ℕ, suc, ◌+◌, ◌-◌, ◌*◌, ◌/◌, ◌%◌, ◌^◌, ◌≤◌, ◌<◌}
use native.Mathlib.Nat.{mod-one}
use native.Mathlib.Omega.{arith}
use lib.Dec.{eqb}
use lib.ListN.{get_or}
use lib.Pow as pow
use Rattle.laws.specs.Digits.{Fit, join}
use Rattle.laws.specs.Tables.{pick, table, table_from}
use Rattle.laws.proofs.Digits.{split_join}
use Rattle.laws.proofs.Rows.{digit, total_same}
use Rattle.bcn_format.specs.Block.{eights, field, number, trailing}
use Rattle.bcn_format.proofs.Fields.{field_below}

-- byte k of a block
byte_is : (bs : List ℕ) → Fit eights bs → (k : ℕ) → k < 16 → get_or bs k 0 ≡ number bs / 2 ^ (k * 8) % 2 ^ 8
unfolding number table table_from
byte_is bs sixteen k h =
    ap (λ (l : List ℕ). get_or l k 0) (sym (split_join sixteen))
    ∙ digit 16 (λ i. 8) (join eights bs) k h
    ∙ ap (λ (x : ℕ). join eights bs / 2 ^ x % 2 ^ 8) (total_same (λ i. 8) 8 k (λ i l. refl))

-- bit j of the low eight
low_bit : (x j : ℕ) → j < 8 → x % 2 ^ 8 / 2 ^ j % 2 ^ 1 ≡ x / 2 ^ j % 2 ^ 1
low_bit x j h =
    let e : 8 ≡ (8 - j) + j = omega arith in
    let f : 8 - j ≡ (7 - j) + 1 = omega arith in
    ap (λ (w : ℕ). x % 2 ^ w / 2 ^ j % 2 ^ 1) e
    ∙ ap (λ (y : ℕ). y % 2 ^ 1) (pow.field x (8 - j) j)
    ∙ ap (λ (w : ℕ). x / 2 ^ j % 2 ^ w % 2 ^ 1) f
    ∙ pow.mod-mod-pow (x / 2 ^ j) (7 - j) 1

-- the bit with a number: byte number / 8, its bit number % 8
pub bit_is : (bs : List ℕ) → Fit eights bs → (n : ℕ) → n < 128 → get_or bs (n / 8) 0 / 2 ^ (n % 8) % 2 ≡ field (number bs) n 1
unfolding field
bit_is bs sixteen n h =
    let k : ℕ = n / 8 in
    let j : ℕ = n % 8 in
    let e : k * 8 + j ≡ n = omega arith in
    ap (λ (x : ℕ). x / 2 ^ j % 2 ^ 1) (byte_is bs sixteen k (omega arith))
    ∙ low_bit (number bs / 2 ^ (k * 8)) j (omega arith)
    ∙ ap (λ (x : ℕ). x % 2 ^ 1) (pow.shr-shr (number bs) (k * 8) j)
    ∙ ap (λ (x : ℕ). number bs / 2 ^ x % 2 ^ 1) e

-- a field of no bits, and one bit more below
pub field_none : (n s : ℕ) → field n s 0 ≡ 0
unfolding field
field_none n s = mod-one (n / 2 ^ s)

field_more : (n s w : ℕ) → field n s (suc w) ≡ 2 * field n (suc s) w + field n s 1
unfolding field
field_more n s w =
    let x : ℕ = n / 2 ^ s in
    let e : suc w ≡ w + 1 = omega arith in
    let g : s + 1 ≡ suc s = omega arith in
    let up : x / 2 ^ 1 % 2 ^ w ≡ n / 2 ^ suc s % 2 ^ w = ap (λ (y : ℕ). y % 2 ^ w) (pow.shr-shr n s 1 ∙ ap (λ (z : ℕ). n / 2 ^ z) g) in
    ap (λ (v : ℕ). x % 2 ^ v) e ∙ pow.mod-pow-add x w 1
    ∙ (let z : (x / 2 ^ 1 % 2 ^ w) * 2 ^ 1 + x % 2 ^ 1 ≡ 2 * (n / 2 ^ suc s % 2 ^ w) + x % 2 ^ 1 = omega arith in z)

pub sum_next : (n s w i : ℕ) {sum b : ℕ} → 0 < i → i ≤ w → sum ≡ field n (s + i) (w - i) → b ≡ field n (s + (i - 1)) 1
    → 2 * sum + b ≡ field n (s + (i - 1)) (w - (i - 1))
sum_next n s w i {sum} {b} some most e g =
    let up : s + i ≡ suc (s + (i - 1)) = omega arith in
    let same : w - (i - 1) ≡ suc (w - i) = omega arith in
    rw (same, field_more n (s + (i - 1)) (w - i), e, g, up)

-- the zero bits before the first one
module _ (bs : List ℕ) (sixteen : Fit eights bs) (m : ℕ) (h : m < 8) where
  first_byte : field (number bs) m 1 ≡ get_or bs 0 0 / 2 ^ m % 2
  first_byte =
      let z : m / 8 ≡ 0 = omega arith in
      let y : m % 8 ≡ m = omega arith in
      sym (bit_is bs sixteen m (omega arith)) ∙ rw (z, y)

  pub mode_here : trailing 8 (get_or bs 0 0) ≡ m + trailing (8 - m) (get_or bs 0 0 / 2 ^ m) → field (number bs) m 1 ≡ 1 → m ≡ trailing 8 (get_or bs 0 0)
  unfolding trailing
  mode_here inv e =
      let x : ℕ = get_or bs 0 0 / 2 ^ m in
      let k : 8 - m ≡ suc (7 - m) = omega arith in
      let one : x % 2 ≡ 1 = sym first_byte ∙ e in
      let none : trailing (8 - m) x ≡ 0 = ap (λ (w : ℕ). trailing w x) k ∙ ap (λ (b : ℕ). pick (eqb b 0) (suc (trailing (7 - m) (x / 2))) 0) one in
      omega (arith, inv, none)

  pub mode_next : trailing 8 (get_or bs 0 0) ≡ m + trailing (8 - m) (get_or bs 0 0 / 2 ^ m) → (field (number bs) m 1 ≡ 1 → ⊥)
      → trailing 8 (get_or bs 0 0) ≡ (m + 1) + trailing (8 - (m + 1)) (get_or bs 0 0 / 2 ^ (m + 1))
  unfolding trailing
  mode_next inv n =
      let x : ℕ = get_or bs 0 0 / 2 ^ m in
      let k : 8 - m ≡ suc (7 - m) = omega arith in
      let g : 7 - m ≡ 8 - (m + 1) = omega arith in
      let not_one : x % 2 ≡ 1 → ⊥ = λ e. n (first_byte ∙ e) in
      let zero_bit : x % 2 ≡ 0 = omega arith in
      let half : x / 2 ≡ get_or bs 0 0 / 2 ^ (m + 1) = pow.shr-shr (get_or bs 0 0) m 1 in
      let one : trailing (8 - m) x ≡ suc (trailing (8 - (m + 1)) (get_or bs 0 0 / 2 ^ (m + 1))) =
      ap (λ (w : ℕ). trailing w x) k
      ∙ ap (λ (b : ℕ). pick (eqb b 0) (suc (trailing (7 - m) (x / 2))) 0) zero_bit
      ∙ ap (λ (w : ℕ). suc (trailing w (x / 2))) g
      ∙ ap (λ (y : ℕ). suc (trailing (8 - (m + 1)) y)) half in
      omega (arith, inv, one)

-- how large a sum gets
pub sum_small : (n s t : ℕ) {sum : ℕ} → t ≤ 8 → sum ≡ field n s t → sum < 256
sum_small n s t h e = let l : field n s t < 2 ^ 8 = field_below n s t 8 h in omega arith
