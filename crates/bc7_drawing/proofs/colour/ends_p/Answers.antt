-- Both endpoints in both words.
-- Assumes nothing.
use Rattle.bc7_drawing.specs.Words.{ends_p}
use Rattle.bc7_drawing.proofs.colour.ends_p.Goals as goal

pub returns : goal.returns
unfolding ends_p
returns c =
    λ i. record {
      rb0 = c.end_of_p.ensures i;
      ga0 = c.end_of_p-2.ensures i;
      rb1 = c.end_of_p-3.ensures i;
      ga1 = c.end_of_p-4.ensures i;
    }
