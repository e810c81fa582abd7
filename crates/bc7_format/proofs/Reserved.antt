-- The reserved blocks are those whose first byte is zero, and they show nothing.
-- Assumes nothing.
use mathlib.Core.Path.{◌≡◌, refl, sym, ap, subst}
use mathlib.Core.Logic.{◌≢◌}
use mathlib.Core.Bool.{Bool, true, false, not}
use mathlib.Core.List.{List, []}
use Prim.Native.Nat.{ℕ, ◌<◌}
use native.Mathlib.Omega.{arith}
use borrow.Author.Tests.{eq-eqb, eqb-false, eqb-true, ne_eqb}
use lib.Dec.{T, eqb, ltb, ltb→lt}
use lib.ListN.{get_or, replicate}
use Rattle.laws.specs.Digits.{Fit, more}
use Rattle.laws.specs.Tables.{below, implies, pick, table, table_from}
use Rattle.laws.proofs.Joining.{table_same}
use Rattle.laws.proofs.Tests.{at, implied}
use Rattle.bcn_format.specs.Block.{eights, trailing}
use Rattle.bc7_format.specs.Modes.{mode_of}
use Rattle.bc7_format.specs.Lines.{pixel, pixels, shown}
use Rattle.bc7_format.specs.Places.{opened}
use Rattle.bc7_format.specs.Splits.{split_of}

nonzero_mode : T (below 256 (λ b. implies (not (eqb b 0)) (ltb (trailing 8 b) 8)))
unfolding trailing implies
nonzero_mode = tt

pub open_mode : (bs : List ℕ) → Fit eights bs → get_or bs 0 0 ≢ 0 → mode_of bs < 8
unfolding mode_of
open_mode bs (more {v = b} h f) n =
    ltb→lt (trailing 8 b) 8 (implied (not (eqb b 0)) (ltb (trailing 8 b) 8)
    (at 256 (λ b. implies (not (eqb b 0)) (ltb (trailing 8 b) 8)) nonzero_mode b h)
    (subst (λ (t : Bool). T (not t)) (sym (ne_eqb b 0 n)) tt))

pub reserved_mode : (bs : List ℕ) → get_or bs 0 0 ≡ 0 → mode_of bs ≡ 8
unfolding mode_of trailing
reserved_mode bs e = ap (trailing 8) e

pub zero_byte : (bs : List ℕ) → Fit eights bs → mode_of bs ≡ 8 → get_or bs 0 0 ≡ 0
zero_byte bs sixteen e = go (eqb (get_or bs 0 0) 0) refl
  where
    go : (b : Bool) → eqb (get_or bs 0 0) 0 ≡ b → get_or bs 0 0 ≡ 0
    go true z = eqb-true _ 0 z
    go false z = absurd (let l = open_mode bs sixteen (eqb-false _ 0 z) in let y : ⊥ = omega arith in y)

pub nothing_shown : (bs : List ℕ) → mode_of bs ≡ 8 → pixels bs ≡ replicate 16 (replicate 4 0)
unfolding pixels pixel table table_from
nothing_shown bs e =
    table_same [] 16 (λ q. table 4 (pixel bs q)) (λ q. table 4 (λ c. 0))
    (λ q hq. table_same 0 4 _ _ (λ c hc. ap (λ (b : Bool). pick b 0 (shown (mode_of bs) (split_of bs) (opened bs) q c)) (eq-eqb (mode_of bs) 8 e)))
