-- What the machine may still say besides 40 bytes for each block.
-- Assumes nothing.
use mathlib.Core.Path.{◌≡◌, refl}
use mathlib.Core.Bool.{Bool, true, false}
use Prim.Native.Nat.{ℕ, zero, suc, ◌-◌, ◌*◌, ◌≤◌}
use native.Mathlib.Omega.{arith}
use lib.Dec.{eqb}
use Rattle.listing_rules.specs.Machine.{Machine}
use Rattle.listing_rules.specs.declared.Phase.{Phase}
use Rattle.listing_rules.specs.declared.Phase.TheVariants.{Head, Blocks, End, Listed, Refused}
use Rattle.head_rules.specs.Geometry.{blocks_of}
use Rattle.head_rules.specs.Answers.{HeadReader}
use Rattle.laws.specs.Tables.{pick}
use Rattle.laws.proofs.Cases.{pick_either}
use Rattle.listing_rules.specs.Machine.{begun, blocks_phase, ended, in_blocks, next_in_blocks, run_of, spare_in, spare_of}

spare_blocks : (r : HeadReader) (from : ℕ) → spare_of (in_blocks r from) ≡ 40
unfolding in_blocks
spare_blocks r from = go (blocks_of r.head - from)
  where
    go : (k : ℕ) → spare_in (blocks_phase k) ≡ 40
    go zero = refl
    go (suc k) = refl

pub spare_ended : (exact : Bool) → spare_of (ended exact) ≡ 0
unfolding ended
spare_ended true = refl
spare_ended false = refl

spare_in_is : (p : Phase) → spare_in p ≤ 80
spare_in_is Head = omega arith
spare_in_is Blocks = omega arith
spare_in_is End = omega arith
spare_in_is Listed = omega arith
spare_in_is Refused = omega arith

-- beside the texts of blocks there are two more at the most
pub spare_most : (m : Machine) → spare_of m ≤ 80
spare_most m = spare_in_is m.phase

-- behind a head, and behind a run
pub spare_begun : (r : HeadReader) → spare_of (begun r) ≤ 40
unfolding begun
spare_begun r = pick_either (λ m. spare_of m ≤ 40) (eqb r.head.refusal 0)
    (omega (arith, spare_blocks r 0)) (omega (arith, spare_ended false))

pub spare_next : (r : HeadReader) (from got : ℕ) → spare_of (next_in_blocks r from got) ≡ pick (eqb got (16 * run_of r.head from)) 40 0
spare_next r from got = go (eqb got (16 * run_of r.head from)) _ (spare_blocks _ _)
  where
    go : (t : Bool) (m : Machine) → spare_of m ≡ 40 → spare_of (pick t m (ended false)) ≡ pick t 40 0
    go true m e = e
    go false m e = spare_ended false
