-- The colours of three subsets, laid side by side, four places for each index.
-- Assumes nothing.
use Rattle.std.proofs.Common.{sym, ap, ◌∙◌, ℕ, ◌^◌, ◌<◌, arith}
use Rattle.laws.specs.Tables.{table}
use Rattle.bc7_drawing.specs.Colours.{endpoints, keyed}
use Rattle.bc7_drawing.proofs.palette.Keyed.{four_laid, high_is, indexed, laid_all, low_is}
use Rattle.bc7_drawing.proofs.palette.Weights.{of_256}
use Rattle.bc7_drawing.proofs.palette.palette_of_three.Goals as goal

pub mixed_colours-x-requires : goal.mixed_colours-x-requires
mixed_colours-x-requires g c =
    record {
      weight = of_256 g.row.W c.loop-k.k (indexed c.requires.colours (omega (arith, c.requires.colours.colours))) c.weight_256-weight.ensures;
      ends = c.requires.ends.two;
    }

pub mixed_colours-y-requires : goal.mixed_colours-y-requires
mixed_colours-y-requires g c =
    record {
      weight = of_256 g.row.W c.loop-k.k (indexed c.requires.colours (omega (arith, c.requires.colours.colours))) c.weight_256-weight.ensures;
      ends = c.requires.ends.third;
    }

pub loop-k-preserved : goal.loop-k-preserved
unfolding endpoints
loop-k-preserved g c =
    let k = c.loop-k.k in
    let w = g.row.W in
    let e = c.args.e in
    let f = c.args.f in
    let inside : k < 2 ^ w = omega (arith, c.requires.colours.colours) in
    let index = indexed c.requires.colours inside in
    let weight = c.weight_256-weight.ensures in
    four_laid (2 ^ w) w (endpoints e f) inside c.loop-k.invariant
    (low_is w k index weight e 0 1 _ c.mixed_colours-x.ensures c.low_colour.ensures)
    (high_is w k index weight e 1 0 _ c.mixed_colours-x.ensures c.high_colour.ensures)
    (low_is w k index weight f 0 1 _ c.mixed_colours-y.ensures c.low_colour-in-loop-k.ensures)
    (high_is w k index weight f 1 0 _ c.mixed_colours-y.ensures c.high_colour-in-loop-k.ensures)

pub returns : goal.returns
returns g c =
    laid_all (2 ^ g.row.W) g.row.W 4 (endpoints c.args.e c.args.f) c.loop-k.invariant (omega (arith, c.requires.colours.colours))
    ∙ ap (λ (n : ℕ). table n (keyed g.row.W 4 (endpoints c.args.e c.args.f))) (sym c.requires.colours.colours)
