-- What it is to fit a width.
-- Assumes nothing.
use mathlib.Core.Path.{◌≡◌, sym, subst}
use mathlib.Core.Bool.{true, false}
use Prim.Native.Nat.{ℕ, ◌/◌, ◌^◌, ◌<◌}
use native.Mathlib.Nat.{div-eq_of_lt, div-lt_iff_lt-mul, le_of_suc-le-suc, lt_of_not-le, one-mul}
use borrow.Author.Tests.{le-ltb, lt-ltb}
use lib.Dec.{lit<, ltb}
use lib.Pow.{pow_pos}

-- a value fits w bits where nothing is left of it above them
pub fit : (v w : ℕ) → v / 2 ^ w ≡ 0 → ltb v (2 ^ w) ≡ true
fit v w e =
    lt-ltb v (2 ^ w) (subst (λ (n : ℕ). v < n) (one-mul (2 ^ w)) ((div-lt_iff_lt-mul (pow_pos w)).0 (subst (λ (n : ℕ). n < 1) (sym e) (lit< tt))))

pub unfit : (v w : ℕ) → (v / 2 ^ w ≡ 0 → ⊥) → ltb v (2 ^ w) ≡ false
unfit v w h = le-ltb v (2 ^ w) (le_of_suc-le-suc (lt_of_not-le (λ l. h (div-eq_of_lt l))))
