-- Masks over rows of digits, a field replaced at the bottom and further up, and widths in two parts.
-- Assumes nothing.
use mathlib.Core.Path.{◌≡◌, refl, sym, ap, ap₂, ◌∙◌}
use mathlib.Core.List.{List, [], ◌∷◌, ◌++◌}
use Prim.Native.Nat.{ℕ, ◌+◌, ◌*◌, ◌/◌, ◌%◌, ◌^◌}
use native.Mathlib.Nat.{mod-one, div-one, add-zero, zero-add, add_comm, add_assoc, mul-one, add-mul, mul_assoc}
use lib.Pow.{pow-add, mod-pow-add, shr-shr}
use lib.Bits.{bit_and, and_block, and_mod, and_shr}
use Rattle.laws.specs.Digits.{Fit, join, more, none, replaced_at, split, total}

-- the digits of both, one by one
abbrev pub ands : List ℕ → List ℕ → List ℕ
ands [] ys = []
ands (x ∷ xs) [] = []
ands (x ∷ xs) (y ∷ ys) = bit_and x y ∷ ands xs ys

-- a mask works digit by digit
pub and_join : {ws xs ys : List ℕ} → Fit ws xs → Fit ws ys → bit_and (join ws xs) (join ws ys) ≡ join ws (ands xs ys)
and_join none none = refl
and_join (more {w = w} {v = x} {ws = ws} {vs = xs} h f) (more {v = y} {vs = ys} k g) =
    and_block w (join ws xs) (join ws ys) x y h k ∙ ap (λ (z : ℕ). z * 2 ^ w + bit_and x y) (and_join f g)

pub split_and : (ws : List ℕ) (x m : ℕ) → split ws (bit_and x m) ≡ ands (split ws x) (split ws m)
split_and [] x m = refl
split_and (w ∷ ws) x m = ap₂ {C = List ℕ} (λ v l. v ∷ l) (and_mod x m w) (ap (split ws) (and_shr x m w) ∙ split_and ws (x / 2 ^ w) (m / 2 ^ w))

-- at position 0
pub at_zero : (n c v : ℕ) → replaced_at n 0 c v ≡ n / 2 ^ c * 2 ^ c + v
unfolding replaced_at
at_zero n c v =
    ap₂ (λ (x y : ℕ). n / 2 ^ x * 2 ^ x + y) (zero-add c) (ap₂ (λ (x y : ℕ). x + y) (mul-one v) (mod-one n) ∙ add-zero v)

-- further up: the low digit stays, and the rest is replaced in
pub up : (n s w c v : ℕ) → replaced_at n (s + w) c v ≡ replaced_at (n / 2 ^ w) s c v * 2 ^ w + n % 2 ^ w
unfolding replaced_at
up n s w c v =
    let e : s + w + c ≡ s + c + w = add_assoc s w c ∙ ap (λ (x : ℕ). s + x) (add_comm w c) ∙ sym (add_assoc s c w) in
    let top : n / 2 ^ (s + w + c) * 2 ^ (s + w + c) ≡ n / 2 ^ w / 2 ^ (s + c) * 2 ^ (s + c) * 2 ^ w =
    ap (λ (x : ℕ). n / 2 ^ x * 2 ^ x) e
    ∙ ap₂ (λ (x y : ℕ). x * y) (ap (λ (x : ℕ). n / 2 ^ x) (add_comm (s + c) w) ∙ sym (shr-shr n w (s + c))) (pow-add 2 (s + c) w)
    ∙ sym (mul_assoc (n / 2 ^ w / 2 ^ (s + c)) (2 ^ (s + c)) (2 ^ w)) in
    let mid : v * 2 ^ (s + w) ≡ v * 2 ^ s * 2 ^ w = ap (λ (x : ℕ). v * x) (pow-add 2 s w) ∙ sym (mul_assoc v (2 ^ s) (2 ^ w)) in
    let A : ℕ = n / 2 ^ w / 2 ^ (s + c) * 2 ^ (s + c) in
    let B : ℕ = v * 2 ^ s in
    let C : ℕ = n / 2 ^ w % 2 ^ s in
    ap₂ (λ (x y : ℕ). x + y) top (ap₂ (λ (x y : ℕ). x + y) mid (mod-pow-add n s w) ∙ sym (add_assoc (B * 2 ^ w) (C * 2 ^ w) (n % 2 ^ w)))
    ∙ sym (add_assoc (A * 2 ^ w) (B * 2 ^ w + C * 2 ^ w) (n % 2 ^ w))
    ∙ ap (λ (x : ℕ). x + n % 2 ^ w) (ap (λ (x : ℕ). A * 2 ^ w + x) (sym (add-mul B C (2 ^ w))) ∙ sym (add-mul A (B + C) (2 ^ w)))

-- widths in two parts: the second part is a split of what is above the first
pub split_append : (us ws : List ℕ) (n : ℕ) → split (us ++ ws) n ≡ split us n ++ split ws (n / 2 ^ total us)
split_append [] ws n = ap (split ws) (sym (div-one n))
split_append (u ∷ us) ws n =
    ap {B = List ℕ} (λ l. n % 2 ^ u ∷ l)
    (split_append us ws (n / 2 ^ u)
    ∙ ap {B = List ℕ} (λ x. split us (n / 2 ^ u) ++ split ws x) (shr-shr n u (total us) ∙ ap (λ (x : ℕ). n / 2 ^ x) (add_comm u (total us))))
