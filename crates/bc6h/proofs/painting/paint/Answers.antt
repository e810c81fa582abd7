-- Sixteen pixels by their keys, whatever function answers them.
-- Assumes nothing.
use Rattle.std.proofs.Common.{ap, ◌∙◌, arith}
use Rattle.bcn_format.proofs.Making.{made_all, made_next}
use Rattle.bc6h.specs.Painting.{painted_by, pixel_at}
use Rattle.bc6h.proofs.painting.paint.Goals as goal

pub loop-i-preserved : goal.loop-i-preserved
loop-i-preserved g c =
    λ key e.
    made_next (c.loop-i.invariant key e) c.loop-i-test.true
    (c.pixel.ensures ∙ ap (pixel_at c.args.q) (e _ _ c.loop-i-test.true c.key-a.ensures))

pub returns : goal.returns
unfolding painted_by
returns g c = λ key e. made_all (c.loop-i.invariant key e) (omega arith)
