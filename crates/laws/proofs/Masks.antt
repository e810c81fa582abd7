-- What the masks of the writing code do: a byte that keeps out of the bits above its width fits it, digits chosen by a mask,
-- a bit put in and taken out.
-- Assumes nothing.
use mathlib.Core.Path.{◌≡◌, refl, sym, ap, ap₂, ◌∙◌}
use mathlib.Core.List.{List, [], ◌∷◌}
use Prim.Native.Nat.{ℕ, zero, suc, ◌+◌, ◌-◌, ◌*◌, ◌/◌, ◌%◌, ◌^◌, ◌<◌}
use native.Mathlib.Nat.{mod-lt, add-mul, mul_assoc, mul_comm}
use native.Mathlib.Omega.{arith}
use lib.Pow.{pow_pos, pow-add, high, low, shr_mod, shr-shr, split as split_at, shl-shr}
use lib.Bits.{bit_and, and_high}
use Rattle.laws.specs.Digits.{Fit, inserted, join, more, none, removed}
use Rattle.laws.specs.Tables.{table}
use Rattle.laws.proofs.Putting.{ands}
use Rattle.laws.proofs.Rows.{table_cons, table_none}

-- what a byte of j + w bits has above w bits is what the mask leaves of it
pub over : (j w : ℕ) (v : ℕ) → v < 2 ^ (j + w) → bit_and v (2 ^ (j + w) - 2 ^ w) ≡ v / 2 ^ w * 2 ^ w
over j w v h = and_high v j w ∙ ap (λ (x : ℕ). x * 2 ^ w) (shr_mod j w h)

-- digits added one by one
abbrev pub plus : List ℕ → List ℕ → List ℕ
plus [] ys = []
plus (x ∷ xs) [] = []
plus (x ∷ xs) (y ∷ ys) = (x + y) ∷ plus xs ys

-- joining is linear: so a row of digits less the masked ones, and others in their place, is one subtraction and one sum
pub join_plus : {ws xs ys : List ℕ} → Fit ws xs → Fit ws ys → join ws (plus xs ys) ≡ join ws xs + join ws ys
join_plus none none = refl
join_plus (more {w = w} {v = x} {ws = ws} {vs = xs} h f) (more {v = y} {vs = ys} k g) =
    let e : join ws (plus xs ys) ≡ join ws xs + join ws ys = join_plus f g in
    let d : (join ws xs + join ws ys) * 2 ^ w ≡ join ws xs * 2 ^ w + join ws ys * 2 ^ w = add-mul (join ws xs) (join ws ys) (2 ^ w) in
    ap (λ (z : ℕ). z * 2 ^ w + (x + y)) e ∙ ap (λ (z : ℕ). z + (x + y)) d ∙ omega arith

-- both, of rows that are tables
pub plus_table : (n : ℕ) (a b : ℕ → ℕ) → plus (table n a) (table n b) ≡ table n (λ k. a k + b k)
plus_table zero a b = rw (table_none a, table_none (λ k. a k + b k))
plus_table (suc n) a b =
    rw (table_cons n a, table_cons n b, table_cons n (λ k. a k + b k))
    (ap {B = List ℕ} (λ l. (a 0 + b 0) ∷ l) (plus_table n (λ k. a (suc k)) (λ k. b (suc k))))

pub ands_table : (n : ℕ) (a b : ℕ → ℕ) → ands (table n a) (table n b) ≡ table n (λ k. bit_and (a k) (b k))
ands_table zero a b = rw (table_none a, table_none (λ k. bit_and (a k) (b k)))
ands_table (suc n) a b =
    rw (table_cons n a, table_cons n b, table_cons n (λ k. bit_and (a k) (b k)))
    (ap {B = List ℕ} (λ l. bit_and (a 0) (b 0) ∷ l) (ands_table n (λ k. a (suc k)) (λ k. b (suc k))))

inserted_low : (n p : ℕ) → inserted n p ≡ (n / 2 ^ p * 2) * 2 ^ p + n % 2 ^ p
unfolding inserted
inserted_low n p =
    ap (λ (x : ℕ). n / 2 ^ p * x + n % 2 ^ p) (pow-add 2 p 1 ∙ mul_comm (2 ^ p) (2 ^ 1))
    ∙ ap (λ (x : ℕ). x + n % 2 ^ p) (sym (mul_assoc (n / 2 ^ p) 2 (2 ^ p)))

-- taking the bit out undoes putting it in
pub removed_inserted : (n p : ℕ) → removed (inserted n p) p ≡ n
unfolding removed
removed_inserted n p =
    let k : n % 2 ^ p < 2 ^ p = mod-lt n (pow_pos p) in
    let lo : inserted n p % 2 ^ p ≡ n % 2 ^ p = ap (λ (x : ℕ). x % 2 ^ p) (inserted_low n p) ∙ low (n / 2 ^ p * 2) p k in
    let up : inserted n p / 2 ^ p ≡ n / 2 ^ p * 2 = ap (λ (x : ℕ). x / 2 ^ p) (inserted_low n p) ∙ high (n / 2 ^ p * 2) p k in
    let hi : inserted n p / 2 ^ (p + 1) ≡ n / 2 ^ p = sym (shr-shr (inserted n p) p 1) ∙ ap (λ (x : ℕ). x / 2 ^ 1) up ∙ shl-shr (n / 2 ^ p) 1 in
    ap₂ (λ (x y : ℕ). x * 2 ^ p + y) hi lo ∙ split_at n p
