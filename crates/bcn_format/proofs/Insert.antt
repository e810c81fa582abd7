-- A zero put in at the top of a field makes the field one bit wider and changes no value.
-- Assumes nothing.
use mathlib.Core.Path.{◌≡◌, sym, ap, ap₂, ◌∙◌}
use mathlib.Core.List.{List, [], ◌∷◌, ◌++◌}
use Prim.Native.Nat.{ℕ, ◌+◌, ◌-◌, ◌*◌, ◌/◌, ◌%◌, ◌^◌, ◌≤◌, ◌<◌}
use native.Mathlib.Nat.{add_comm, add-zero, mul_assoc, mod-lt, mod-eq_of_lt, lt_of_lt_of_le, lt_of_le_of_lt, div-mul-le_self}
use native.Mathlib.Omega.{arith}
use lib.Arith.{digits_lt}
use lib.Pow.{pow_pos, pow-add, pow_mono, mod-mod-pow, high, low, field, shr_lt, shr-shr, split as split_at}
use Rattle.laws.specs.Digits.{inserted, split, total}
use Rattle.laws.proofs.Words.{pair_div, pair_mod}

-- below the place nothing changes, and above it all stands one bit higher
pub inserted_low : (n u p : ℕ) → inserted n (p + u) % 2 ^ u ≡ n % 2 ^ u
unfolding inserted
inserted_low n u p =
    let e : p + u + 1 ≡ p + 1 + u = omega arith in
    rw e (pair_mod (n % 2 ^ (p + u)) (n / 2 ^ (p + u)) (p + 1) u) ∙ mod-mod-pow n p u

pub inserted_high : (n u p : ℕ) → inserted n (p + u) / 2 ^ u ≡ inserted (n / 2 ^ u) p
unfolding inserted
inserted_high n u p =
    let e : p + u + 1 ≡ p + 1 + u = omega arith in
    rw e (pair_div (n % 2 ^ (p + u)) (n / 2 ^ (p + u)) (p + 1) u)
    ∙ ap₂ (λ (x y : ℕ). x * 2 ^ (p + 1) + y) (ap (λ (x : ℕ). n / 2 ^ x) (add_comm p u) ∙ sym (shr-shr n u p)) (field n p u)

-- the field that the zero tops
inserted_field : (n w : ℕ) → inserted n w % 2 ^ (w + 1) ≡ n % 2 ^ w
unfolding inserted
inserted_field n w = low (n / 2 ^ w) (w + 1) (lt_of_lt_of_le (mod-lt n (pow_pos w)) (pow_mono (omega arith)))

inserted_rest : (n w : ℕ) → inserted n w / 2 ^ (w + 1) ≡ n / 2 ^ w
unfolding inserted
inserted_rest n w = high (n / 2 ^ w) (w + 1) (lt_of_lt_of_le (mod-lt n (pow_pos w)) (pow_mono (omega arith)))

-- one field wider, the same values
pub split_inserted : (us : List ℕ) (w : ℕ) (ws : List ℕ) (n : ℕ)
    → split (us ++ ((w + 1) ∷ ws)) (inserted n (w + total us)) ≡ split (us ++ (w ∷ ws)) n
split_inserted [] w ws n =
    rw (add-zero w) (ap₂ {C = List ℕ} (λ x l. x ∷ l) (inserted_field n w) (ap (split ws) (inserted_rest n w)))
split_inserted (u ∷ us) w ws n =
    let e : w + (total us + u) ≡ w + total us + u = omega arith in
    rw e (ap₂ {C = List ℕ} (λ x l. x ∷ l) (inserted_low n u (w + total us))
    (ap (split (us ++ ((w + 1) ∷ ws))) (inserted_high n u (w + total us)) ∙ split_inserted us w ws (n / 2 ^ u)))

-- what a zero adds to the length
pub inserted_lt : (n p k : ℕ) → n < 2 ^ k → p ≤ k → inserted n p < 2 ^ (k + 1)
unfolding inserted
inserted_lt n p k h l =
    let e : k - p + p ≡ k = omega arith in
    let f : k - p + (p + 1) ≡ k + 1 = omega arith in
    let top : n / 2 ^ p < 2 ^ (k - p) = shr_lt (k - p) p (rw e h) in
    rw (← (pow-add 2 (k - p) (p + 1)), f) at (digits_lt top (lt_of_lt_of_le (mod-lt n (pow_pos p)) (pow_mono {i = p} {j = p + 1} (omega arith))))

-- the machine's form: what is above the place, added once more
pub insert_machine : (n p : ℕ) → n < 2 ^ 63 → n + (n / 2 ^ p * 2 ^ p) % 2 ^ 64 ≡ inserted n p
unfolding inserted
insert_machine n p hn =
    let above : ℕ = n / 2 ^ p * 2 ^ p in
    let fits : above % 2 ^ 64 ≡ above =
    mod-eq_of_lt (lt_of_le_of_lt (div-mul-le_self n (2 ^ p)) (lt_of_lt_of_le hn (pow_mono {i = 63} {j = 64} (omega arith)))) in
    let double : n / 2 ^ p * 2 ^ (p + 1) ≡ above * 2 = ap (λ (x : ℕ). n / 2 ^ p * x) (pow-add 2 p 1) ∙ sym (mul_assoc (n / 2 ^ p) (2 ^ p) 2) in
    omega (arith, split_at n p)
