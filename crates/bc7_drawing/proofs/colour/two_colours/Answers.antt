-- Two colours of four bytes.
-- Assumes nothing.
use Rattle.bc7_drawing.proofs.colour.Mixing.{two_woven, woven_fits}
use Rattle.bc7_drawing.proofs.colour.two_colours.Goals as goal

pub overflow_add-result : goal.overflow_add-result
overflow_add-result c =
    let s = c.before.before in
    record { fits = woven_fits s.args.rb s.args.ga c.parts.ensures c.parts-2.ensures }

pub returns : goal.returns
returns c =
    let s = c.before.before in
    two_woven s.args.rb s.args.ga c.parts.ensures c.parts-2.ensures
