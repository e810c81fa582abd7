-- Sixteen pixels by their keys, whatever function answers them.
-- Assumes nothing.
use Rattle.std.proofs.Common.{◌≡◌, ◌<◌, ℕ}
use Rattle.bcn_format.proofs.Making.{Made}
use Rattle.bc6h.specs.Painting.{pixel_at}
use Rattle.bc6h.proofs.painting.paint.Given as goal

abbrev pub invariant-loop-i : goal.invariant-loop-i
invariant-loop-i g l =
    (key : ℕ → ℕ) → ((p k : ℕ) → p < 16 → goal.F-post g l.key p k → k ≡ key p) → Made (λ p. pixel_at l.q (key p)) l.i l.output
