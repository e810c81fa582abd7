-- The numbers of the search: endpoints, squares.
-- Assumes nothing.
use mathlib.Core.Path.{◌≡◌, refl, ap}
use mathlib.Core.Logic.{◌≢◌}
use Prim.Native.Nat.{ℕ, zero, suc, ◌+◌, ◌-◌, ◌*◌, ◌%◌, ◌^◌, ◌≤◌, ◌<◌}
use native.Mathlib.Nat.{mul-le-mul, mul-le-mul_right, suc-mul}
use native.Mathlib.Omega.{arith}
use lib.Dec.{eqb}
use lib.Pow.{pow-add, shl_exact}
use Rattle.laws.specs.Tables.{pick}
use Rattle.bc7_format.specs.Lines.{rotated}
use Rattle.nearest_rules.specs.Nearest.{squared}

-- a value of b bits shifted by k, within a byte; and with a value of k bits below it
pub shifted : (b v k : ℕ) → b + k ≤ 8 → v < 2 ^ b → (v * 2 ^ k) % 2 ^ 32 ≡ v * 2 ^ k
shifted b v k l h = shl_exact b k 32 h (omega arith)

pub with_p_holds : (b v k p : ℕ) → v < 2 ^ b → p < 2 ^ k → v * 2 ^ k + p < 2 ^ (b + k)
with_p_holds b v k p h hp =
    let z : suc v * 2 ^ k ≤ 2 ^ b * 2 ^ k = mul-le-mul_right (2 ^ k) h in
    let e : suc v * 2 ^ k ≡ v * 2 ^ k + 2 ^ k = suc-mul v (2 ^ k) in
    omega (arith, pow-add 2 b k)

-- a difference of bytes, squared
pub square_lt : (x : ℕ) → x < 256 → x * x < 65536
square_lt x h =
    let z : x * x ≤ 255 * 255 = mul-le-mul {n₂ = 255} {m₂ = 255} (omega arith) (omega arith) in
    omega arith

pub squared_up : (a b : ℕ) → a < b → (b - a) * (b - a) ≡ squared a b
unfolding squared
squared_up a b h = let z : (a - b) * (a - b) ≡ 0 = ap (λ (n : ℕ). n * n) (let y : a - b ≡ 0 = omega arith in y) in omega arith

pub squared_down : (a b : ℕ) → b ≤ a → (a - b) * (a - b) ≡ squared a b
unfolding squared
squared_down a b h = let z : (b - a) * (b - a) ≡ 0 = ap (λ (n : ℕ). n * n) (let y : b - a ≡ 0 = omega arith in y) in omega arith

-- the channel that rotation r, which isn't 0, shows as channel c
pub rotated_by : (r c : ℕ) → r ≢ 0 → rotated r c ≡ pick (eqb c 3) (r - 1) (pick (eqb c (r - 1)) 3 c)
unfolding rotated
rotated_by zero c h = absurd (h refl)
rotated_by (suc r) c h = let z : suc r - 1 ≡ r = omega arith in rw z
