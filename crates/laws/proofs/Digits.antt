-- Splitting a number into digits and joining digits are inverse to each other, for any list of widths.
-- Assumes nothing.
use mathlib.Core.Path.{◌≡◌, refl, sym, ap, ap₂, ◌∙◌}
use mathlib.Core.List.{List, [], ◌∷◌, ◌++◌}
use Prim.Native.Nat.{ℕ, zero, suc, ◌+◌, ◌*◌, ◌/◌, ◌%◌, ◌^◌, ◌<◌}
use native.Mathlib.Nat.{mod-lt, mod-eq_of_lt, mod-one, add-zero, zero-add, add_comm, add_assoc, div-one, zero-lt-suc, not-suc-le-zero}
use native.Mathlib.Nat.{le_of_suc-le-suc, mul-one, add-mul, mul_assoc}
use native.Mathlib.Omega.{arith}
use lib.ListN.{length, get_or, take}
use lib.Arith.{digits_lt}
use lib.Pow.{pow_pos, pow-add, mod-pow-add, high, low, shr-shr}
use Rattle.laws.specs.Digits.{Fit, join, more, none, split, total}

-- the values of a split fit their widths
pub split_fits_is : (ws : List ℕ) (n : ℕ) → Fit ws (split ws n)
split_fits_is [] n = none
split_fits_is (w ∷ ws) n = more (mod-lt n (pow_pos w)) (split_fits_is ws (n / 2 ^ w))

-- joining a split gives back the low bits of the number that the widths reach
join_split_mod : (ws : List ℕ) (n : ℕ) → join ws (split ws n) ≡ n % 2 ^ total ws
join_split_mod [] n = sym (mod-one n)
join_split_mod (w ∷ ws) n = ap (λ (x : ℕ). x * 2 ^ w + n % 2 ^ w) (join_split_mod ws (n / 2 ^ w)) ∙ sym (mod-pow-add n (total ws) w)

-- so it is the number itself, where the widths reach all of it
pub join_split : (ws : List ℕ) (n : ℕ) → n < 2 ^ total ws → join ws (split ws n) ≡ n
join_split ws n h = join_split_mod ws n ∙ mod-eq_of_lt h

-- splitting a join gives back the values
pub split_join : {ws vs : List ℕ} → Fit ws vs → split ws (join ws vs) ≡ vs
split_join none = refl
split_join (more {w = w} {v = v} {ws = ws} {vs = vs} h f) =
    ap₂ {C = List ℕ} (λ x l. x ∷ l) (low (join ws vs) w h) (ap (split ws) (high (join ws vs) w h) ∙ split_join f)

-- a join is within its total width
pub join_lt : {ws vs : List ℕ} → Fit ws vs → join ws vs < 2 ^ total ws
join_lt none = zero-lt-suc 0
join_lt (more {w = w} {v = v} {ws = ws} {vs = vs} h f) = rw (pow-add 2 (total ws) w) (digits_lt (join_lt f) h)

-- the digit at place k starts where the digits before it end
pub split_at_place : (ws : List ℕ) (n k : ℕ) → k < length ws → get_or (split ws n) k 0 ≡ n / 2 ^ total (take k ws) % 2 ^ get_or ws k 0
split_at_place [] n k h = absurd (not-suc-le-zero h)
split_at_place (w ∷ ws) n zero h = ap (λ (x : ℕ). x % 2 ^ w) (sym (div-one n))
split_at_place (w ∷ ws) n (suc k) h =
    split_at_place ws (n / 2 ^ w) k (le_of_suc-le-suc h)
    ∙ ap (λ (x : ℕ). x % 2 ^ get_or ws k 0) (shr-shr n w (total (take k ws)) ∙ ap (λ (x : ℕ). n / 2 ^ x) (add_comm w (total (take k ws))))

-- widths in two parts: the second part is a split of what is left
pub total_append : (us ws : List ℕ) → total (us ++ ws) ≡ total us + total ws
total_append [] ws = sym (zero-add (total ws))
total_append (u ∷ us) ws = let e : total (us ++ ws) ≡ total us + total ws = total_append us ws in omega arith

pub join_append : {us xs : List ℕ} → Fit us xs → (ws vs : List ℕ) → join (us ++ ws) (xs ++ vs) ≡ join ws vs * 2 ^ total us + join us xs
join_append none ws vs = sym (add-zero (join ws vs * 1) ∙ mul-one (join ws vs))
join_append (more {w = u} {v = x} {ws = us} {vs = xs} h f) ws vs =
    ap (λ (y : ℕ). y * 2 ^ u + x) (join_append f ws vs)
    ∙ ap (λ (y : ℕ). y + x) (add-mul (join ws vs * 2 ^ total us) (join us xs) (2 ^ u))
    ∙ add_assoc (join ws vs * 2 ^ total us * 2 ^ u) (join us xs * 2 ^ u) x
    ∙ ap (λ (y : ℕ). y + (join us xs * 2 ^ u + x))
    (mul_assoc (join ws vs) (2 ^ total us) (2 ^ u) ∙ ap (λ (y : ℕ). join ws vs * y) (sym (pow-add 2 (total us) u)))
