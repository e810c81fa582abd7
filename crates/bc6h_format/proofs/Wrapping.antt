-- The wrapping sum of 32 bits, reduced to the base's width, is the wrapped sum.
-- Assumes nothing.
use mathlib.Core.Path.{◌≡◌, refl, ◌∙◌, ap}
use mathlib.Core.Bool.{Bool, true, false}
use Prim.Native.Nat.{ℕ, ◌+◌, ◌-◌, ◌*◌, ◌%◌, ◌^◌, ◌≤◌}
use native.Mathlib.Nat.{add-mul-mod_self_right}
use native.Mathlib.Omega.{arith}
use lib.Dec.{ltb}
use lib.Pow.{high_ones, mod-mod-pow}
use Rattle.laws.specs.Tables.{pick}
use Rattle.bc6h_format.specs.Widening.{extended, wrapped}

-- extended to more bits, the difference is the same in the low w
more_bits : (j w k base d : ℕ) → 2 ^ k ≤ 2 ^ w → 2 ^ w ≤ 2 ^ (j + w) → (base + (d + (2 ^ (j + w) - 2 ^ k))) % 2 ^ w
    ≡ (base + (d + (2 ^ w - 2 ^ k))) % 2 ^ w
more_bits j w k base d h l =
    ap (λ (n : ℕ). n % 2 ^ w)
    (let e = high_ones j w in
    let y : base + (d + (2 ^ (j + w) - 2 ^ k)) ≡ (base + (d + (2 ^ w - 2 ^ k))) + (2 ^ j - 1) * 2 ^ w = omega arith in y)
    ∙ add-mul-mod_self_right (base + (d + (2 ^ w - 2 ^ k))) (2 ^ j - 1) (2 ^ w)

pub wrapping_sum : (j w k base d : ℕ) → 2 ^ k ≤ 2 ^ w → 2 ^ w ≤ 2 ^ (j + w)
    → (base + extended k (j + w) d) % 2 ^ (j + w) % 2 ^ w ≡ wrapped w k base d
unfolding wrapped extended
wrapping_sum j w k base d h l = mod-mod-pow (base + extended k (j + w) d) j w ∙ go (ltb d (2 ^ (k - 1)))
  where
    go : (b : Bool) → (base + pick b d (d + (2 ^ (j + w) - 2 ^ k))) % 2 ^ w ≡ (base + pick b d (d + (2 ^ w - 2 ^ k))) % 2 ^ w
    go true = refl
    go false = more_bits j w k base d h l
