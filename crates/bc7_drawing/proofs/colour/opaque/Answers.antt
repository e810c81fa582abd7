-- Two colours without p bits and alpha.
-- Assumes nothing.
use mathlib.Core.Path.{◌∙◌}
use mathlib.Core.List.{map, [], ◌∷◌}
use native.Mathlib.Omega.{arith}
use lib.Dec.{eqb}
use Rattle.laws.specs.Tables.{pick}
use Rattle.bc7_fields.specs.Painting.{end_of, solid}
use Rattle.bc7_drawing.specs.Words.{ends_of, laned, plain}
use Rattle.bc7_drawing.proofs.colour.Words.{end_lt, full, holds, lanes_four, solid_lt}
use Rattle.bc7_drawing.proofs.colour.opaque.Goals as goal

pub returns : goal.returns
unfolding ends_of
returns c =
    let g = c.before.before.before.before in
    let r = g.before.before.before in
    let s = r.before in
    let n = s.args.bits in
    let x = s.args.x in
    let y = s.args.y in
    let hx = s.requires.first in
    let hy = s.requires.second in
    let one = g.all_ones.ensures in
    let two = g.all_ones-2.ensures in
    let rb = lanes_four r.lanes-rb.ensures hx.red hx.blue hy.red hy.blue in
    let ga = lanes_four g.lanes-ga.ensures hx.green one.fits hy.green two.fits in
    let alpha = full n s.requires.width one.is in
    let alpha' = full n s.requires.width two.is in
    let g1 = c.end_of-4.ensures in
    let r1 = c.end_of-3.ensures in
    let g0 = c.end_of-2.ensures in
    let r0 = c.end_of.ensures in
    holds (λ l. solid (plain n (pick (eqb l 0) x y))) (λ l. solid_lt (λ k c. end_lt n k _ s.requires.width))
    ((λ i. record { rb0 = r0 i; ga0 = g0 i; rb1 = r1 i; ga1 = g1 i })
    ∙ (λ i. record {
      rb0 = laned (map (end_of n 0) (rb i));
      ga0 = laned (map (end_of n 0) (ga i));
      rb1 = laned (map (end_of n 1) (rb i));
      ga1 = laned
          (map (end_of n 1) (ga i));
    })
    ∙ (λ i. record {
      rb0 = laned (plain n x 0 0 ∷ plain n x 0 2 ∷ plain n y 0 0 ∷ plain n y 0 2 ∷ []);
      ga0 = laned (plain n x 0 1 ∷ alpha 0 (omega arith) i ∷ plain n y 0 1 ∷ alpha' 0 (omega arith) i ∷ []);
      rb1 = laned (plain n x 1 0 ∷ plain n x 1 2 ∷ plain n y 1 0 ∷ plain n y 1 2 ∷ []);
      ga1 = laned (plain n x 1 1 ∷ alpha 1 (omega arith) i ∷ plain n y 1 1 ∷ alpha' 1 (omega arith) i ∷ []);
    }))
