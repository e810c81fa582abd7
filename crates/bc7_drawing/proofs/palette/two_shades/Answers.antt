-- One colour at two weights.
-- Assumes nothing.
use borrow.Author.Rules.{rules}
use Rattle.bc7_drawing.proofs.palette.Keyed.{shades_2}
use Rattle.bc7_drawing.proofs.palette.two_shades.Goals as goal

pub returns : goal.returns
returns c =
    let s = c.before.before.before in
    shades_2 s.args.weights s.args.e s.requires (search rules) (search rules) (search rules) (search rules)
    c.mixed_2.ensures c.mixed_2-2.ensures c.two_colours.ensures
