-- The key of a pixel: of the even ones or of the odd.
-- Assumes nothing.
use mathlib.Core.Path.{◌≡◌, ap, ◌∙◌}
use Prim.Native.Nat.{ℕ, ◌+◌, ◌*◌, ◌/◌, ◌%◌, ◌^◌, ◌<◌}
use native.Mathlib.Omega.{arith}
use borrow.Author.Tests.{eq-eqb, ne_eqb}
use lib.Pow.{shl_exact}
use Rattle.drawing.specs.Keys.{key_at}
use Rattle.drawing.proofs.keys.Keys.key.Goals.{then-q-eq0, else-q-eq0}
use Rattle.drawing.proofs.keys.Keys.key.Goals as goal

pub returns : goal.returns
unfolding key_at
returns c =
    let bits = c.args.width + c.args.below in
    let many : 1 * 2 ^ bits % 2 ^ 64 ≡ 2 ^ bits = shl_exact 1 bits 64 (omega arith) (omega (arith, c.requires.width, c.requires.subsets)) ∙ omega arith in
    let is = c.key_of.ensures.is ∙ ap (λ (m : ℕ). c.if-q-eq0.half / 2 ^ (c.args.q / 2 * (2 * c.args.width)) % m) many in
    let found : c.key_of.result < 2 ^ bits = rw many at c.key_of.ensures.below in
    let word : ℕ → ℕ = λ half. half / 2 ^ (c.args.q / 2 * (2 * c.args.width)) % 2 ^ bits in
    elim c.if-q-eq0.branch [
      | then-q-eq0 w ↦ record { is = rw (eq-eqb (c.args.q % 2) 0 w.if-q-eq0.true) (is ∙ ap word w.half-is); below = found }
      | else-q-eq0 w ↦ record { is = rw (ne_eqb (c.args.q % 2) 0 w.if-q-eq0.false) (is ∙ ap word w.half-is); below = found }
    ]
