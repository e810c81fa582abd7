-- Sixteen pixels, each looked up by its key.
-- Assumes nothing.
use Rattle.std.proofs.Common.{rules, ◌≡◌, [], get_or, refl}
use Rattle.laws.proofs.FromFn.{made}
use Rattle.bc7_fields.specs.Painting.{painted}
use Rattle.drawing.specs.Keys.{key_at}
use Rattle.bc7_drawing.proofs.painting.paint.Goals as goal

pub returns : goal.returns
unfolding painted
returns g c =
    made (λ f. (f.0.now ≡ c.args.p) × (f.1.now ≡ c.args.keys)) (λ q. get_or c.args.p (key_at g.row.W g.row.S c.args.keys q) [])
    (λ i y p q s k. (let e = s in search rules, (cc, cc))) (refl, refl) c.from_fn.ensures.items
