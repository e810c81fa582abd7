-- Two colours with p bits and without alpha.
-- Assumes nothing.
use mathlib.Core.Path.{◌∙◌}
use mathlib.Core.List.{zip_with, [], ◌∷◌}
use native.Mathlib.Omega.{arith}
use lib.Dec.{eqb}
use Rattle.laws.specs.Tables.{pick}
use Rattle.bc7_fields.specs.Painting.{solid}
use Rattle.bc7_drawing.specs.Words.{ends_of, ends_p, laned, with_p}
use Rattle.bc7_drawing.proofs.colour.Words.{end_p_lt, full_p, holds, lanes_four, solid_lt}
use Rattle.bc7_drawing.proofs.colour.opaque_p.Goals as goal

pub returns : goal.returns
unfolding ends_of ends_p zip_with
returns c =
    let q = c.before in
    let p = q.before in
    let g = p.before in
    let r = g.before.before.before in
    let s = r.before in
    let n = s.args.bits in
    let x = s.args.x in
    let y = s.args.y in
    let hx = s.requires.first in
    let hy = s.requires.second in
    let one = g.all_ones.ensures in
    let two = g.all_ones-2.ensures in
    let rb = lanes_four r.lanes-rb.ensures hx.red hx.blue hy.red hy.blue in
    let ga = lanes_four g.lanes-ga.ensures hx.green one.fits hy.green two.fits in
    let ps = lanes_four p.lanes-p.ensures hx.ps hx.ps hy.ps hy.ps in
    let qs = lanes_four q.lanes-q.ensures hx.ps (omega arith) hy.ps (omega arith) in
    let alpha = full_p n s.requires.width one.is in
    let alpha' = full_p n s.requires.width two.is in
    holds (λ l. solid (with_p n (pick (eqb l 0) x y))) (λ l. solid_lt (λ k c. end_p_lt n k _ _ s.requires.width))
    (c.ends_p.ensures
    ∙ (λ i. ends_p n (rb i) (ga i) (ps i) (qs i))
    ∙ (λ i. record {
      rb0 = laned (with_p n x 0 0 ∷ with_p n x 0 2 ∷ with_p n y 0 0 ∷ with_p n y 0 2 ∷ []);
      ga0 = laned (with_p n x 0 1 ∷ alpha 0 (omega arith) i ∷ with_p n y 0 1 ∷ alpha' 0 (omega arith) i ∷ []);
      rb1 = laned (with_p n x 1 0 ∷ with_p n x 1 2 ∷ with_p n y 1 0 ∷ with_p n y 1 2 ∷ []);
      ga1 = laned (with_p n x 1 1 ∷ alpha 1 (omega arith) i ∷ with_p n y 1 1 ∷ alpha' 1 (omega arith) i ∷ []);
    }))
