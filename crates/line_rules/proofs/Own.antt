-- Which places a line has, and how many bits they have in it.
-- Assumes nothing.
use mathlib.Core.Path.{◌≡◌, refl}
use mathlib.Core.Logic.{◌≢◌}
use mathlib.Core.Bool.{Bool, true, false, not}
use mathlib.Core.List.{[]}
use Prim.Native.Nat.{ℕ}
use borrow.Author.Tests.{eq-eqb, eqb-true, ne_eqb}
use lib.Dec.{T, eqb}
use Rattle.bc7_format.specs.declared.Place.{Place}
use Rattle.bc7_format.specs.declared.Split.{Split}
use Rattle.laws.specs.Tables.{both, pick}
use Rattle.laws.proofs.Tests.{T_true, not_so}
use Rattle.bc7_format.specs.Lines.{has, line_of_place}
use Rattle.bc7_format.specs.Places.{inside, width}
use Rattle.bc7_format.proofs.Lens.{has_parts}
use Rattle.line_rules.specs.Replace.{own_width}

-- a place of another line has none, and one of the line itself has all its bits
pub own_not : (m : ℕ) (s : Split) (l : ℕ) (x : Place) → line_of_place m s x ≢ l → own_width m s l x ≡ 0
unfolding own_width has
own_not m s l x n = rw (ne_eqb (line_of_place m s x) l n) (go (inside x) (not (eqb (width m [] x) 0)))
  where
    go : (a b : Bool) → pick (both a (both b false)) (width m [] x) 0 ≡ 0
    go true true = refl
    go true false = refl
    go false b = refl

pub own_is : (m : ℕ) (s : Split) (l : ℕ) (x : Place) → T (inside x) → line_of_place m s x ≡ l → own_width m s l x ≡ width m [] x
unfolding own_width has
own_is m s l x i e = rw (T_true (inside x) i, eq-eqb (line_of_place m s x) l e) (go (eqb (width m [] x) 0) refl)
  where
    go : (b : Bool) → eqb (width m [] x) 0 ≡ b → pick (both (not b) true) (width m [] x) 0 ≡ width m [] x
    go true z = rw (eqb-true (width m [] x) 0 z)
    go false z = refl

-- a line has a place exactly where the place has bits in it
pub own_none : (m : ℕ) (s : Split) (l : ℕ) (x : Place) → own_width m s l x ≡ 0 → has m s l x ≡ false
unfolding own_width
own_none m s l x e = not_so (has m s l x) (λ t. (has_parts m s l x t).1 (rw t at e))

pub own_some : (m : ℕ) (s : Split) (l : ℕ) (x : Place) → own_width m s l x ≢ 0 → has m s l x ≡ true
unfolding own_width
own_some m s l x n = go (has m s l x) refl
  where
    go : (b : Bool) → has m s l x ≡ b → b ≡ true
    go true t = refl
    go false t = absurd (n (rw t))

pub has_width : (m : ℕ) (s : Split) (l : ℕ) (x : Place) → has m s l x ≡ true → own_width m s l x ≡ width m [] x
unfolding own_width
has_width m s l x h = rw h

pub no_width : (m : ℕ) (s : Split) (l : ℕ) (x : Place) → has m s l x ≡ false → own_width m s l x ≡ 0
unfolding own_width
no_width m s l x h = rw h
