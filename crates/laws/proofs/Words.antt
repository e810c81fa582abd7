-- The machine's shifts, masks and ors at 64 bits, and a number of two words from a bit on.
-- Assumes nothing.
use mathlib.Core.Path.{◌≡◌, sym, ap, ap₂, ◌∙◌}
use Prim.Native.Nat.{ℕ, ◌+◌, ◌-◌, ◌*◌, ◌/◌, ◌%◌, ◌^◌, ◌≤◌, ◌<◌}
use native.Mathlib.Nat.{add_assoc, add_comm, mul_assoc, mul_comm, add-mul, one-mul, mod-lt, mod-eq_of_lt, mul-add-div_right, mul-add-mod_self_right}
use native.Mathlib.Nat.{div-add-mod', lt_of_le_of_lt, div-le_self}
use native.Mathlib.Omega.{arith}
use lib.Dec.{lit<}
use lib.Arith.{digits_lt}
use lib.Pow.{pow_pos, pow-add, shl_exact, shr_lt, shl_lt, mod-mod-pow, low, high, shr-shr}
use lib.Bits.{bit_or, or_shifted_r}

-- `1 << l` at 64 bits
pub one_shl : (l : ℕ) → l < 64 → (1 * 2 ^ l) % 2 ^ 64 ≡ 2 ^ l
one_shl l h = shl_exact {a = 1} 1 l 64 (lit< tt) (omega arith) ∙ one-mul (2 ^ l)

-- `a << k` at j + k bits keeps the j low bits of a
pub shl_keeps : (a j k : ℕ) → (a * 2 ^ k) % 2 ^ (j + k) ≡ (a % 2 ^ j) * 2 ^ k
shl_keeps a j k =
    ap (λ (x : ℕ). (x * 2 ^ k) % 2 ^ (j + k)) (sym (div-add-mod' a (2 ^ j)))
    ∙ ap₂ (λ (x y : ℕ). x % y) (add-mul (a / 2 ^ j * 2 ^ j) (a % 2 ^ j) (2 ^ k) ∙ ap (λ (x : ℕ). x + a % 2 ^ j * 2 ^ k)
    (mul_assoc (a / 2 ^ j) (2 ^ j) (2 ^ k))) (pow-add 2 j k)
    ∙ mul-add-mod_self_right (a / 2 ^ j) (2 ^ j * 2 ^ k) (a % 2 ^ j * 2 ^ k)
    ∙ ap (λ (x : ℕ). (a % 2 ^ j * 2 ^ k) % x) (sym (pow-add 2 j k))
    ∙ mod-eq_of_lt (shl_lt j k (mod-lt a (pow_pos j)))

-- `(a << 1) << k` at c + 1 + k bits keeps the c low bits of a, and is defined for c = 0 too
twice_keeps : (a c k : ℕ) → ((a * 2 ^ 1) % 2 ^ (c + 1 + k) * 2 ^ k) % 2 ^ (c + 1 + k) ≡ a % 2 ^ c * 2 ^ (1 + k)
twice_keeps a c k =
    shl_keeps ((a * 2 ^ 1) % 2 ^ (c + 1 + k)) (c + 1) k
    ∙ ap (λ (x : ℕ). x * 2 ^ k) (ap (λ (x : ℕ). (a * 2 ^ 1) % 2 ^ x % 2 ^ (c + 1)) (add_comm (c + 1) k) ∙ mod-mod-pow (a * 2 ^ 1) k (c + 1)
    ∙ shl_keeps a c 1)
    ∙ mul_assoc (a % 2 ^ c) (2 ^ 1) (2 ^ k)
    ∙ ap (λ (x : ℕ). a % 2 ^ c * x) (sym (pow-add 2 1 k))

-- a number whose high part starts at bit j + c, below bit c and from it on
module _ (lo hi j c : ℕ) where
  pub pair_mod : (hi * 2 ^ (j + c) + lo) % 2 ^ c ≡ lo % 2 ^ c
  pair_mod =
      ap (λ (x : ℕ). (x + lo) % 2 ^ c) (ap (λ (x : ℕ). hi * x) (pow-add 2 j c) ∙ sym (mul_assoc hi (2 ^ j) (2 ^ c)))
      ∙ mul-add-mod_self_right (hi * 2 ^ j) (2 ^ c) lo

  pub pair_div : (hi * 2 ^ (j + c) + lo) / 2 ^ c ≡ hi * 2 ^ j + lo / 2 ^ c
  pair_div =
      ap (λ (x : ℕ). (x + lo) / 2 ^ c) (ap (λ (x : ℕ). hi * x) (pow-add 2 j c) ∙ sym (mul_assoc hi (2 ^ j) (2 ^ c)))
      ∙ mul-add-div_right (pow_pos c) (hi * 2 ^ j) lo

  -- the c low bits of the high part stand on top of what is left of the low one
  pub pair_down : hi / 2 ^ c * 2 ^ (j + c) + (hi % 2 ^ c * 2 ^ j + lo / 2 ^ c) ≡ (hi * 2 ^ (j + c) + lo) / 2 ^ c
  pair_down =
      sym (add_assoc (hi / 2 ^ c * 2 ^ (j + c)) (hi % 2 ^ c * 2 ^ j) (lo / 2 ^ c))
      ∙ ap (λ (x : ℕ). x + lo / 2 ^ c)
      (ap (λ (x : ℕ). hi / 2 ^ c * x + hi % 2 ^ c * 2 ^ j) (pow-add 2 j c ∙ mul_comm (2 ^ j) (2 ^ c))
      ∙ ap (λ (x : ℕ). x + hi % 2 ^ c * 2 ^ j) (sym (mul_assoc (hi / 2 ^ c) (2 ^ c) (2 ^ j)))
      ∙ sym (add-mul (hi / 2 ^ c * 2 ^ c) (hi % 2 ^ c) (2 ^ j))
      ∙ ap (λ (x : ℕ). x * 2 ^ j) (div-add-mod' hi (2 ^ c)))
      ∙ sym pair_div

-- the 64 bits from bit c on: both words, the high word alone, and nothing
pub window_low : (lo hi c : ℕ) → lo < 2 ^ 64 → c < 64
    → bit_or (lo / 2 ^ c) (((hi * 2 ^ 1) % 2 ^ 64 * 2 ^ (63 - c)) % 2 ^ 64) ≡ (hi * 2 ^ 64 + lo) / 2 ^ c % 2 ^ 64
window_low lo hi c hl hc =
    let e : c + (64 - c) ≡ 64 = omega arith in
    let f : 64 - c + c ≡ 64 = omega arith in
    let g : c + 1 + (63 - c) ≡ 64 = omega arith in
    let d : 1 + (63 - c) ≡ 64 - c = omega arith in
    let part : lo / 2 ^ c < 2 ^ (64 - c) = shr_lt (64 - c) c (rw f hl) in
    let bound : hi % 2 ^ c * 2 ^ (64 - c) + lo / 2 ^ c < 2 ^ 64 = rw (← (pow-add 2 c (64 - c)), e) at (digits_lt (mod-lt hi (pow_pos c)) part) in
    ap (bit_or (lo / 2 ^ c)) (rw (g, d) at (twice_keeps hi c (63 - c)))
    ∙ or_shifted_r (hi % 2 ^ c) (64 - c) (lo / 2 ^ c) part
    ∙ sym (low (hi / 2 ^ c) 64 bound) ∙ ap (λ (x : ℕ). x % 2 ^ 64) (rw f at (pair_down lo hi (64 - c) c))

pub window_high : (lo hi c : ℕ) → lo < 2 ^ 64 → hi < 2 ^ 64 → 64 ≤ c → hi / 2 ^ (c - 64) ≡ (hi * 2 ^ 64 + lo) / 2 ^ c % 2 ^ 64
window_high lo hi c hl hh h =
    let e : 64 + (c - 64) ≡ c = omega arith in
    sym (mod-eq_of_lt (lt_of_le_of_lt (div-le_self hi (2 ^ (c - 64))) hh))
    ∙ ap (λ (x : ℕ). x / 2 ^ (c - 64) % 2 ^ 64) (sym (high hi 64 hl))
    ∙ ap (λ (x : ℕ). x % 2 ^ 64) (rw e at (shr-shr (hi * 2 ^ 64 + lo) 64 (c - 64)))

-- the low bits of a window, by a literal and by `1 << c`
pub low_window : (n c : ℕ) → c ≤ 64 → n % 2 ^ 64 % 2 ^ c ≡ n % 2 ^ c
low_window n c hc = let e : 64 - c + c ≡ 64 = omega arith in rw e at (mod-mod-pow n (64 - c) c)

pub rem_window : (n c : ℕ) → c < 64 → n % 2 ^ 64 % ((1 * 2 ^ c) % 2 ^ 64) ≡ n % 2 ^ c
rem_window n c hc = ap (λ (x : ℕ). n % 2 ^ 64 % x) (one_shl c hc) ∙ low_window n c (omega arith)

-- one byte more, above k bits
pub or_byte : (acc b k : ℕ) → acc < 2 ^ k → b < 256 → k + 8 ≤ 64 → bit_or acc ((b * 2 ^ k) % 2 ^ 64) ≡ b * 2 ^ k + acc
or_byte acc b k h l f = ap (bit_or acc) (shl_exact {a = b} 8 k 64 l (omega arith)) ∙ or_shifted_r b k acc h
