-- The colours of two subsets at a weight.
-- Assumes nothing.
use Rattle.bc7_drawing.proofs.palette.Keyed.{shades}
use Rattle.bc7_drawing.proofs.palette.mixed_colours.Goals as goal

pub returns : goal.returns
returns c =
    let s = c.before.before.before in
    shades s.args.weight s.args.e s.requires.weight s.requires.ends c.mixed.ensures c.mixed-2.ensures
    c.two_colours.ensures
