-- The colours of two subsets, laid side by side.
-- Assumes nothing.
use Rattle.std.proofs.Common.{sym, ap, ◌∙◌, ℕ, ◌^◌, ◌<◌, arith}
use Rattle.laws.specs.Tables.{table}
use Rattle.bc7_drawing.specs.Colours.{keyed}
use Rattle.bc7_drawing.specs.Words.{endpoint}
use Rattle.bc7_drawing.proofs.palette.Keyed.{high_is, indexed, laid_all, low_is, two_laid}
use Rattle.bc7_drawing.proofs.palette.Weights.{of_256}
use Rattle.bc7_drawing.proofs.palette.palette_of_two.Goals as goal

pub mixed_colours-x-requires : goal.mixed_colours-x-requires
mixed_colours-x-requires g c =
    record {
      weight = of_256 g.row.W c.loop-k.k (indexed c.requires.colours (omega (arith, c.requires.colours.colours))) c.weight_256.ensures;
      ends = c.requires.ends;
    }

pub loop-k-preserved : goal.loop-k-preserved
loop-k-preserved g c =
    let k = c.loop-k.k in
    let w = g.row.W in
    let e = c.args.e in
    let inside : k < 2 ^ w = omega (arith, c.requires.colours.colours) in
    let index = indexed c.requires.colours inside in
    let weight = c.weight_256.ensures in
    two_laid (2 ^ w) w (endpoint e) inside c.loop-k.invariant
    (low_is w k index weight e 0 1 _ c.mixed_colours-x.ensures c.low_colour.ensures)
    (high_is w k index weight e 1 0 _ c.mixed_colours-x.ensures c.high_colour.ensures)

pub returns : goal.returns
returns g c =
    laid_all (2 ^ g.row.W) g.row.W 2 (endpoint c.args.e) c.loop-k.invariant (omega (arith, c.requires.colours.colours))
    ∙ ap (λ (n : ℕ). table n (keyed g.row.W 2 (endpoint c.args.e))) (sym c.requires.colours.colours)
