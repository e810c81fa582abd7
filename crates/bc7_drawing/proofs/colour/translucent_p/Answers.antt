-- Two colours with alpha and p bits.
-- Assumes nothing.
use mathlib.Core.Path.{◌∙◌}
use mathlib.Core.List.{zip_with}
use lib.Dec.{eqb}
use Rattle.laws.specs.Tables.{pick}
use Rattle.bc7_drawing.specs.Words.{ends_of, ends_p, with_p}
use Rattle.bc7_drawing.proofs.colour.Words.{end_p_lt, holds, lanes_four}
use Rattle.bc7_drawing.proofs.colour.translucent_p.Goals as goal

pub returns : goal.returns
unfolding ends_of ends_p zip_with
returns c =
    let p = c.before in
    let g = p.before in
    let r = g.before in
    let s = r.before in
    let n = s.args.bits in
    let x = s.requires.first in
    let y = s.requires.second in
    let rb = lanes_four r.lanes-rb.ensures x.red x.blue y.red y.blue in
    let ga = lanes_four g.lanes-ga.ensures x.green x.alpha y.green y.alpha in
    let ps = lanes_four p.lanes-p.ensures x.ps x.ps y.ps y.ps in
    holds (λ l. with_p n (pick (eqb l 0) s.args.x s.args.y)) (λ l k c. end_p_lt n k _ _ s.requires.width)
    (c.ends_p.ensures ∙ (λ i. ends_p n (rb i) (ga i) (ps i) (ps i)))
