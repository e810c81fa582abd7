-- `x != x` is the test for a NaN: it alone differs from itself.
-- Assumes nothing.
use mathlib.Core.Path.{◌≡◌, refl, sym, ap, ◌∙◌}
use mathlib.Core.Bool.{true, false}
use lib.Ieee.{Float, fin, inf, is_nan, nan, ne}
use lib.Ieee.Compare.{differs_from_itself, nan_differs}
use Rattle.laws.proofs.Tests.{true_T}

pub differs_nan : (x : Float) → ne x x ≡ true → is_nan x ≡ true
unfolding is_nan
differs_nan x e = ap is_nan (differs_from_itself x (true_T _ e))

pub same_no_nan : (x : Float) → ne x x ≡ false → is_nan x ≡ false
unfolding is_nan
same_no_nan nan e = sym nan_differs ∙ e
same_no_nan (inf s) e = refl
same_no_nan (fin s m e') e = refl
