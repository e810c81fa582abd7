-- `bits` meets its contract by taking one bit after the other from the top.
-- Assumes nothing.
use mathlib.Core.Path.{◌≡◌, ap, ap₂, sym, ◌∙◌}
use Prim.Native.Nat.{ℕ, ◌+◌, ◌-◌, ◌<◌}
use native.Mathlib.Omega.{arith}
use Rattle.bcn_format.specs.Block.{field, number}
use Rattle.bcn_format.proofs.Fields.{field_lt}
use Rattle.bc7_plain.proofs.BitNumbers.{field_none, sum_next, sum_small}
use Rattle.bc7_plain.proofs.bits.Goals as goal
use Rattle.bc7_plain.proofs.bits.Goals.{In-loop-next}

-- no bit is taken, and all are
pub loop-next-init : goal.loop-next-init
loop-next-init c =
    sym (ap (field (number c.args.block) (c.args.start + c.args.width)) (let none : c.args.width - c.args.width ≡ 0 = omega arith in none)
    ∙ field_none _ _)

all : (n s w : ℕ) {i : ℕ} → i ≡ 0 → field n (s + i) (w - i) ≡ field n s w
all n s w {i} e = ap₂ (field n) (let start : s + i ≡ s = omega arith in start) (let whole : w - i ≡ w = omega arith in whole)

-- the sum so far is below 256
small : (c : In-loop-next) → c.loop-next.sum < 256
small c = sum_small _ _ (c.args.width - c.loop-next.next) (omega (arith, c.requires.short)) c.loop-next.invariant

one : (n s : ℕ) {b : ℕ} → b ≡ field n s 1 → b < 2
one n s e = omega (arith, e, field_lt n s 1)

pub overflow_mul-sum : goal.overflow_mul-sum
overflow_mul-sum c = omega (arith, small c)

pub overflow_add-sum : goal.overflow_add-sum
overflow_add-sum c = omega (arith, small (goal.at.overflow_add-sum c).In-loop-next, one _ _ c.bit.ensures)

pub loop-next-preserved : goal.loop-next-preserved
loop-next-preserved c =
    sum_next (number c.args.block) c.args.start c.args.width c.loop-next.next c.loop-next-test.true c.loop-next.auto.next c.loop-next.invariant
    c.bit.ensures

pub returns : goal.returns
returns c =
    c.loop-next.invariant ∙ all (number c.args.block) c.args.start c.args.width (let z : c.loop-next.next ≡ 0 = omega arith in z)
