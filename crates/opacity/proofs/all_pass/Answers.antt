-- `all_pass` meets its contract: up to a pixel all have passed.
-- Assumes nothing.
use mathlib.Core.Path.{◌≡◌, refl, ◌∙◌, sym}
use native.Mathlib.Omega.{arith}
use Rattle.laws.proofs.Scan.{scan_fails, scan_more}
use Rattle.opacity.specs.Drawn.{drawn_passes, opaque_drawn}
use Rattle.opacity.proofs.all_pass.Goals as goal

pub loop-q-init : goal.loop-q-init
loop-q-init c = refl

pub returns-then-not-passes : goal.returns-then-not-passes
unfolding opaque_drawn
returns-then-not-passes c =
    sym (scan_fails 16 (drawn_passes c.args.columns c.args.rows c.args.drawn) _ c.loop-q-test.true (sym c.passes.ensures ∙ c.if-not-passes.true))

pub loop-q-preserved : goal.loop-q-preserved
loop-q-preserved c =
    scan_more (drawn_passes c.args.columns c.args.rows c.args.drawn) c.loop-q.q c.loop-q.invariant (sym c.passes.ensures ∙ c.if-not-passes.false)

pub returns : goal.returns
unfolding opaque_drawn
returns c =
    let end : c.loop-q.q ≡ 16 = omega arith in
    sym (rw end at c.loop-q.invariant)
