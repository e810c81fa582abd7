-- The laws of drawing.
-- Assumes nothing.
use mathlib.Core.Path.{◌≡◌, ◌∙◌, ap}
use mathlib.Core.Bool.{Bool, true}
use mathlib.Core.List.{List, [], ◌∷◌}
use Prim.Native.Nat.{ℕ, zero, suc, ◌+◌, ◌-◌, ◌*◌, ◌/◌, ◌^◌, ◌<◌, ◌≤◌}
use native.Mathlib.Nat.{add-mul, mul-le-mul_left, mul_assoc, le_of_suc-le-suc}
use native.Mathlib.Omega.{arith}
use lib.Dec.{T, eqb, eqb→eq, leb, leb→le}
use lib.Arith.{digits_lt, sub-sub_self}
use lib.ListN.{get_or}
use lib.Pow.{pow-add, shl_lt, shr_lt}
use Rattle.laws.specs.Tables.{below, both}
use Rattle.laws.proofs.Tests.{at, both_left, both_right}
use Rattle.bcn_format.specs.Drawing.{drawn, promoted, weight_of, weights}

-- what is promoted is a byte
pub promoted_lt : (b x : ℕ) → b ≤ 8 → x < 2 ^ b → promoted b x < 256
unfolding promoted
promoted_lt b x hb hx =
    let whole : b + (8 - b) ≡ 8 = omega arith in
    let turned : b + (8 - b) ≡ 8 - b + b = omega arith in
    let low : x * 2 ^ (8 - b) / 2 ^ b < 2 ^ (8 - b) = shr_lt (8 - b) b (rw turned at (shl_lt b (8 - b) hx)) in
    rw (← (pow-add 2 b (8 - b)), whole) at (digits_lt hx low)

-- a weighted mean of two bytes, not yet divided, fits sixteen bits
pub mean : (a b x y : ℕ) → a + b ≡ 256 → x < 256 → y < 256 → a * x + b * y ≤ 65280
mean a b x y e hx hy =
    let p : a * x ≤ a * 255 = mul-le-mul_left a (le_of_suc-le-suc hx) in
    let q : b * y ≤ b * 255 = mul-le-mul_left b (le_of_suc-le-suc hy) in
    omega arith

-- what is drawn is no more than both endpoints are at the most
pub drawn_le : (most x y w : ℕ) → x ≤ most → y ≤ most → w ≤ 64 → drawn x y w ≤ most
unfolding drawn
drawn_le most x y w hx hy h =
    let p : (64 - w) * x ≤ (64 - w) * most = mul-le-mul_left (64 - w) hx in
    let q : w * y ≤ w * most = mul-le-mul_left w hy in
    let s : (64 - w + w) * most ≡ (64 - w) * most + w * most = add-mul (64 - w) w most in
    let t : (64 - w + w) * most ≡ 64 * most = ap (λ (n : ℕ). n * most) (let y : 64 - w + w ≡ 64 = omega arith in y) in
    omega arith

-- so between bytes it is a byte
pub drawn_lt : (x y w : ℕ) → x < 2 ^ 8 → y < 2 ^ 8 → w ≤ 64 → drawn x y w < 2 ^ 8
drawn_lt x y w hx hy h = omega (arith, drawn_le 255 x y w (le_of_suc-le-suc hx) (le_of_suc-le-suc hy) h)

-- the Rust's numbers, four times the format's, give the format's channel
pub scaled : (v e0 e1 : ℕ) → v ≤ 64 → ((256 - 4 * v) * e0 + 4 * v * e1 + 128) / 256 ≡ drawn e0 e1 v
unfolding drawn
scaled v e0 e1 h =
    let p : (256 - 4 * v) * e0 ≡ 4 * ((64 - v) * e0) =
    ap (λ (n : ℕ). n * e0) (let z : 256 - 4 * v ≡ 4 * (64 - v) = omega arith in z) ∙ mul_assoc 4 (64 - v) e0 in
    let q : 4 * v * e1 ≡ 4 * (v * e1) = mul_assoc 4 v e1 in
    omega arith

-- the endpoints exchanged and the weight turned draw the same
turned_drawn : (v e0 e1 : ℕ) → v ≤ 64 → drawn e1 e0 (64 - v) ≡ drawn e0 e1 v
unfolding drawn
turned_drawn v e0 e1 h =
    let p : (64 - (64 - v)) * e1 ≡ v * e1 = ap (λ (n : ℕ). n * e1) (sub-sub_self h) in
    omega arith

-- the weights of i and of last - i sum to 64, at each width
sums : ℕ → Bool
sums b = below (2 ^ b) (λ i. eqb (weight_of b i + weight_of b ((2 ^ b - 1) - i)) 64)

sums_hold : (b : ℕ) → 2 ≤ b → b ≤ 4 → T (sums b)
unfolding sums weight_of weights
sums_hold zero h l = absurd (let z : ⊥ = omega arith in z)
sums_hold (suc zero) h l = absurd (let z : ⊥ = omega arith in z)
sums_hold (suc (suc zero)) h l = tt
sums_hold (suc (suc (suc zero))) h l = tt
sums_hold (suc (suc (suc (suc zero)))) h l = tt
sums_hold (suc (suc (suc (suc (suc b))))) h l = absurd (let z : ⊥ = omega arith in z)

pub opposite : (b i : ℕ) → 2 ≤ b → b ≤ 4 → i < 2 ^ b → weight_of b i + weight_of b ((2 ^ b - 1) - i) ≡ 64
unfolding sums
opposite b i h l p = eqb→eq _ 64 (at (2 ^ b) (λ i. eqb (weight_of b i + weight_of b ((2 ^ b - 1) - i)) 64) (sums_hold b h l) i p)

pub weight_le : (b i : ℕ) → 2 ≤ b → b ≤ 4 → i < 2 ^ b → weight_of b i ≤ 64
weight_le b i h l p = omega (arith, opposite b i h l p)

-- a weight is 64 at the most, whatever the index: 0 where there is none
abbrev all_most : List ℕ → Bool
all_most [] = true
all_most (x ∷ xs) = both (leb x 64) (all_most xs)

each_most : (l : List ℕ) (i : ℕ) → T (all_most l) → get_or l i 0 ≤ 64
each_most [] zero t = omega arith
each_most [] (suc i) t = omega arith
each_most (x ∷ xs) zero t = leb→le x 64 (both_left (leb x 64) (all_most xs) t)
each_most (x ∷ xs) (suc i) t = each_most xs i (both_right (leb x 64) (all_most xs) t)

weights_most : (b : ℕ) → T (all_most (weights b))
unfolding weights
weights_most zero = tt
weights_most (suc zero) = tt
weights_most (suc (suc zero)) = tt
weights_most (suc (suc (suc zero))) = tt
weights_most (suc (suc (suc (suc b)))) = tt

pub weight_most : (b i : ℕ) → weight_of b i ≤ 64
unfolding weight_of
weight_most b i = each_most (weights b) i (weights_most b)

-- the symmetric law: the endpoints exchanged and the index turned draw the same channel
pub symmetric : (b i e0 e1 : ℕ) → 2 ≤ b → b ≤ 4 → i < 2 ^ b → drawn e1 e0 (weight_of b ((2 ^ b - 1) - i)) ≡ drawn e0 e1 (weight_of b i)
symmetric b i e0 e1 h l p =
    let e : weight_of b ((2 ^ b - 1) - i) ≡ 64 - weight_of b i = omega (arith, opposite b i h l p) in
    ap (drawn e1 e0) e ∙ turned_drawn (weight_of b i) e0 e1 (weight_le b i h l p)

-- the weights as the Rust has them, of 256
unfoldable pub weights256 : ℕ → List ℕ
weights256 zero = []
weights256 (suc zero) = []
weights256 (suc (suc zero)) = 0 ∷ 84 ∷ 172 ∷ 256 ∷ []
weights256 (suc (suc (suc zero))) = 0 ∷ 36 ∷ 72 ∷ 108 ∷ 148 ∷ 184 ∷ 220 ∷ 256 ∷ []
weights256 (suc (suc (suc (suc b)))) = 0 ∷ 16 ∷ 36 ∷ 52 ∷ 68 ∷ 84 ∷ 104 ∷ 120 ∷ 136 ∷ 152 ∷ 172 ∷ 188 ∷ 204 ∷ 220 ∷ 240 ∷ 256 ∷ []

unfoldable pub weight_of256 : ℕ → ℕ → ℕ
weight_of256 b i = get_or (weights256 b) i 0
