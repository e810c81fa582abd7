-- Floats that are finite and not negative, and that one below another below a third is below it.
-- Assumes nothing.
use mathlib.Core.Logic.{⊎_elim}
use mathlib.Core.Bool.{Bool, true, false, not}
use Prim.Native.Nat.{ℕ, ◌*◌, ◌<◌}
use native.Mathlib.Nat.{le_of_lt}
use native.Mathlib.Omega.{arith}
use lib.Dec.{T, ltb→lt, lt→ltb}
use lib.Ieee.{Float, nan, inf, fin, down, is_nan, lt, up}
use lib.Ieee.Fits.{down_pos}
use lib.Ieee.Positive.{through}
use Rattle.laws.proofs.Cases.{lt_or}

abbrev pub counted : Float → Bool
counted nan = false
counted (inf s) = false
counted (fin true m e) = false
counted (fin false m e) = true

pub counted_no_nan : (x : Float) → T (counted x) → T (not (is_nan x))
unfolding is_nan
counted_no_nan nan h = absurd h
counted_no_nan (inf s) h = tt
counted_no_nan (fin s m e) h = tt

-- three fractions: x / p < y / q < z / r
strictly : (x y z p q r : ℕ) → 0 < p → x * q < y * p → y * r < z * q → x * r < z * p
strictly x y z p q r pos h k =
    ⊎_elim (λ l. l) (λ l. absurd (let never : ⊥ = omega (arith, k, through z x y r p q pos l (le_of_lt h)) in never)) (lt_or (x * r) (z * p))

pub lt_trans : (x y z : Float) → T (counted x) → T (counted y) → T (counted z) → T (lt x y) → T (lt y z) → T (lt x z)
unfolding lt
lt_trans nan y z a b c h k = absurd a
lt_trans (inf s) y z a b c h k = absurd a
lt_trans (fin true m e) y z a b c h k = absurd a
lt_trans (fin false m e) nan z a b c h k = absurd b
lt_trans (fin false m e) (inf s) z a b c h k = absurd b
lt_trans (fin false m e) (fin true n d) z a b c h k = absurd b
lt_trans (fin false m e) (fin false n d) nan a b c h k = absurd c
lt_trans (fin false m e) (fin false n d) (inf s) a b c h k = absurd c
lt_trans (fin false m e) (fin false n d) (fin true l g) a b c h k = absurd c
lt_trans (fin false m e) (fin false n d) (fin false l g) a b c h k =
    lt→ltb _ _ (strictly (m * up e) (n * up d) (l * up g) (down e) (down d) (down g) (down_pos e) (ltb→lt _ _ h) (ltb→lt _ _ k))
