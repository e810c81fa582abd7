-- `place` meets its contract.
-- Assumes nothing.
use mathlib.Core.Path.{◌≡◌, ap, sym, ◌∙◌}
use Prim.Native.Nat.{ℕ, ◌+◌}
use native.Mathlib.Nat.{add-zero, zero-add}
use native.Mathlib.Omega.{arith}
use lib.ListN.{drop, length}
use Rattle.pixel_rules.specs.Strings.{place_in}
use Rattle.bc7_plain.proofs.Walks.{at_dash, at_digit, at_end, past_digit}
use Rattle.bc7_plain.proofs.strings.place.Goals as goal
use Rattle.bc7_plain.proofs.strings.place.Goals.{then-letter-ne45+else-left-eq0, else-letter-ne45}

pub loop-k-init : goal.loop-k-init
loop-k-init c = sym (zero-add _)

pub returns-then-left-eq0 : goal.returns-then-left-eq0
returns-then-left-eq0 c =
    let cs = c.args.string.now in
    sym (c.loop-k.invariant ∙ ap (λ (x : ℕ). c.loop-k.k + place_in (drop c.loop-k.k cs) x) c.if-left-eq0.true
    ∙ ap (λ (x : ℕ). c.loop-k.k + x) (at_digit cs c.loop-k.k c.loop-k-test.true c.if-letter-ne45.true) ∙ add-zero _)

pub loop-k-preserved : goal.loop-k-preserved
loop-k-preserved c =
    let cs = c.args.string.now in
    c.loop-k.invariant ∙ elim c.if-letter-ne45.branch [
      | then-letter-ne45+else-left-eq0 w ↦
          past_digit cs c.loop-k.k c.loop-k-test.true c.loop-k.left w.if-letter-ne45.true w.if-left-eq0.false
          ∙ ap (λ (x : ℕ). (c.loop-k.k + 1) + place_in (drop (c.loop-k.k + 1) cs) x) (sym w.left-is)
      | else-letter-ne45 w ↦
          at_dash cs c.loop-k.k c.loop-k-test.true c.loop-k.left w.if-letter-ne45.false
          ∙ ap (λ (x : ℕ). (c.loop-k.k + 1) + place_in (drop (c.loop-k.k + 1) cs) x) (sym w.left-is)
    ]

pub returns : goal.returns
returns c =
    let cs = c.args.string.now in
    let end : c.loop-k.k ≡ length cs = omega (arith, c.loop-k.auto.k-end) in
    sym (c.loop-k.invariant ∙ ap (λ (x : ℕ). c.loop-k.k + x) (at_end cs c.loop-k.k c.loop-k.left end) ∙ add-zero _ ∙ end)
