-- `row_floats` meets its contract: the loop fills the row from its first float to its last.
-- Assumes nothing.
use mathlib.Core.Path.{◌≡◌, sym, ◌∙◌}
use native.Mathlib.Omega.{arith}
use lib.ListN.{length}
use Rattle.laws.proofs.Filled.{filled_all, filled_next, filled_none}
use Rattle.laws.specs.Refusals.{accepted, here, then}
use Rattle.float_rules.specs.Floats.{floats_of, floats_refusal}
use Rattle.float_rules.proofs.Theorems.{row_accepted, row_left, row_refused_when}
use Rattle.floats.proofs.row_floats.Goals as goal

pub returns-then-count-floats : goal.returns-then-count-floats
returns-then-count-floats c =
    let s = c in
    let other : floats_refusal (length s.args.pixels.now) (length s.args.floats.now) ≡ 11
    = (row_refused_when _ _ 11).1 (here (λ e. c.if-count-floats.true (sym e))) in
    (sym other, sym (row_left s.args.pixels.now s.args.floats.now (λ z. let never : ⊥ = omega arith in never)))

pub loop-i-init : goal.loop-i-init
loop-i-init c = (omega arith, filled_none (sym c.if-count-floats.false))

pub bounds-pixels-i : goal.bounds-pixels-i
bounds-pixels-i c = omega arith

pub offset_bounds-floats-i : goal.offset_bounds-floats-i
offset_bounds-floats-i c = omega arith

pub bounds-floats-i : goal.bounds-floats-i
bounds-floats-i c = omega (arith, c.loop-i.invariant.1.long)

pub overflow_step-i : goal.overflow_step-i
overflow_step-i c = omega arith

pub loop-i-smaller : goal.loop-i-smaller
loop-i-smaller c = omega arith

pub loop-i-preserved : goal.loop-i-preserved
loop-i-preserved c =
    let l = c.loop-i in
    (omega arith, filled_next l.i c.channel_float.result l.invariant.1 (omega arith) c.channel_float.ensures)

pub shape_of-floats : goal.shape_of-floats
shape_of-floats c = omega (arith, c.loop-i.invariant.1.long)

pub returns : goal.returns
unfolding floats_of
returns c =
    let s = c in
    let same : length s.args.floats.now ≡ length s.args.pixels.now = sym c.if-count-floats.false in (
      sym ((row_refused_when _ _ 0).1 (then same accepted)),
      filled_all c.loop-i.invariant.1 (omega arith) ∙ sym (row_accepted s.args.pixels.now s.args.floats.now same),
    )
