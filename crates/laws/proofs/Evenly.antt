-- Rows of n values in k bits each: one value read, a factor and a sum, and a mask that keeps the low bits of each.
-- Assumes nothing.
use mathlib.Core.Path.{◌≡◌, refl, sym, ap, ap₂, ◌∙◌}
use mathlib.Core.List.{List}
use Prim.Native.Nat.{ℕ, zero, suc, ◌+◌, ◌-◌, ◌*◌, ◌/◌, ◌%◌, ◌^◌, ◌≤◌, ◌<◌}
use native.Mathlib.Nat.{add-mul, div-one, lt_of_lt_of_le, mod-lt, mul_assoc, mul_comm, zero-mul}
use native.Mathlib.Omega.{arith}
use lib.Bits.{bit_and, and_block, and_mask, and_zero_r}
use lib.ListN.{get_or}
use lib.Pow.{mod-mod-pow, ones_lt, pow_mono, pow_pos, shr-shr, split as split_at}
use Rattle.laws.specs.Digits.{Fit, join, evenly}
use Rattle.laws.specs.Tables.{table}
use Rattle.laws.proofs.Digits.{join_lt, split_join}
use Rattle.laws.proofs.Joining.{table_same}
use Rattle.laws.proofs.Part.{get_d_table}
use Rattle.laws.proofs.Rows.{digit, fit_table, table_cons, table_none, total_same}

pub evenly_same : (n k : ℕ) (f g : ℕ → ℕ) → ((i : ℕ) → i < n → f i ≡ g i) → evenly n k f ≡ evenly n k g
unfolding evenly
evenly_same n k f g e = ap (join (table n (λ i. k))) (table_same 0 n f g e)

-- by its first value
evenly_none : (k : ℕ) (f : ℕ → ℕ) → evenly 0 k f ≡ 0
unfolding evenly
evenly_none k f = ap (λ (l : List ℕ). join l (table 0 f)) (table_none (λ i. k))

evenly_cons : (n k : ℕ) (f : ℕ → ℕ) → evenly (suc n) k f ≡ evenly n k (λ i. f (suc i)) * 2 ^ k + f 0
unfolding evenly
evenly_cons n k f = ap₂ join (table_cons n (λ i. k)) (table_cons n f)

-- values within their width are read back, and reach no further
module _ (n k : ℕ) (f : ℕ → ℕ) (small : (i : ℕ) → i < n → f i < 2 ^ k) where
  fits : Fit (table n (λ i. k)) (table n f)
  fits = fit_table n (λ i. k) f small

  pub evenly_part : (i : ℕ) → i < n → evenly n k f / 2 ^ (i * k) % 2 ^ k ≡ f i
  unfolding evenly
  evenly_part i h =
      ap (λ (s : ℕ). evenly n k f / 2 ^ s % 2 ^ k) (sym (total_same (λ i. k) k i (λ j l. refl)))
      ∙ sym (digit n (λ i. k) (evenly n k f) i h)
      ∙ ap (λ (l : List ℕ). get_or l i 0) (split_join fits)
      ∙ get_d_table n f 0 i h

  pub evenly_lt : evenly n k f < 2 ^ (n * k)
  unfolding evenly
  evenly_lt = rw (sym (total_same (λ i. k) k n (λ j l. refl))) (join_lt fits)

-- a factor and a sum go to each value
pub evenly_linear : (n k c : ℕ) (f g : ℕ → ℕ) → evenly n k f * c + evenly n k g ≡ evenly n k (λ i. f i * c + g i)
evenly_linear zero k c f g = rw (evenly_none k f, evenly_none k g, evenly_none k (λ i. f i * c + g i)) (omega arith)
evenly_linear (suc n) k c f g =
    let a : ℕ = evenly n k (λ i. f (suc i)) in
    let b : ℕ = evenly n k (λ i. g (suc i)) in
    let e : a * c + b ≡ evenly n k (λ i. f (suc i) * c + g (suc i)) = evenly_linear n k c (λ i. f (suc i)) (λ i. g (suc i)) in
    let d : a * 2 ^ k * c ≡ a * c * 2 ^ k = mul_assoc a (2 ^ k) c ∙ ap (λ (x : ℕ). a * x) (mul_comm (2 ^ k) c) ∙ sym (mul_assoc a c (2 ^ k)) in
    ap₂ (λ (x y : ℕ). x * c + y) (evenly_cons n k f) (evenly_cons n k g)
    ∙ omega (arith, d, add-mul (a * 2 ^ k) (f 0) c, add-mul (a * c) b (2 ^ k))
    ∙ ap (λ (x : ℕ). x * 2 ^ k + (f 0 * c + g 0)) e
    ∙ sym (evenly_cons n k (λ i. f i * c + g i))

-- v ones in each place keep the low v bits of each of the n lowest fields, and nothing above them
pub evenly_mask : (n k v : ℕ) → v ≤ k → (x : ℕ) → bit_and x (evenly n k (λ i. 2 ^ v - 1)) ≡ evenly n k (λ i. x / 2 ^ (i * k) % 2 ^ v)
evenly_mask zero k v h x = rw (evenly_none k (λ i. 2 ^ v - 1), evenly_none k (λ i. x / 2 ^ (i * k) % 2 ^ v)) (and_zero_r x)
evenly_mask (suc n) k v h x =
    let rest : ℕ = evenly n k (λ i. 2 ^ v - 1) in
    let wide : k - v + v ≡ k = omega arith in
    let here : bit_and (x % 2 ^ k) (2 ^ v - 1) ≡ x / 2 ^ (0 * k) % 2 ^ v =
    and_mask (x % 2 ^ k) v ∙ ap (λ (y : ℕ). x % 2 ^ y % 2 ^ v) (sym wide) ∙ mod-mod-pow x (k - v) v
    ∙ sym (ap (λ (y : ℕ). x / 2 ^ y % 2 ^ v) (zero-mul k) ∙ ap (λ (y : ℕ). y % 2 ^ v) (div-one x)) in
    let above : bit_and (x / 2 ^ k) rest ≡ evenly n k (λ i. x / 2 ^ (suc i * k) % 2 ^ v) =
    evenly_mask n k v h (x / 2 ^ k)
    ∙ evenly_same n k _ _ (λ i l.
    let place : k + i * k ≡ suc i * k = omega arith in
    ap (λ (y : ℕ). y % 2 ^ v) (shr-shr x k (i * k) ∙ ap (λ (y : ℕ). x / 2 ^ y) place)) in
    ap₂ bit_and (sym (split_at x k)) (evenly_cons n k (λ i. 2 ^ v - 1))
    ∙ and_block k (x / 2 ^ k) rest (x % 2 ^ k) (2 ^ v - 1) (mod-lt x (pow_pos k)) (lt_of_lt_of_le (ones_lt v) (pow_mono h))
    ∙ ap₂ (λ (y z : ℕ). y * 2 ^ k + z) above here
    ∙ sym (evenly_cons n k (λ i. x / 2 ^ (i * k) % 2 ^ v))
