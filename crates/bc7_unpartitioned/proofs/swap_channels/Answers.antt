-- Sixteen pixels with two channels exchanged.
-- Assumes nothing.
use Rattle.std.proofs.Common.{rules, [], get_or, refl, ◌≡◌}
use Rattle.laws.proofs.FromFn.{made}
use Rattle.bc7_format.specs.Lines.{rotated}
use Rattle.bc7_fields.specs.Painting.{four}
use Rattle.bc7_fields.specs.Rotating.{swapped}
use Rattle.bc7_unpartitioned.proofs.swap_channels.Goals as goal

pub returns : goal.returns
unfolding swapped
returns c =
    made (λ f. (f.0.now ≡ c.args.pixels) × (f.1.now ≡ c.args.rotation))
    (λ q. four (λ i. get_or (get_or c.args.pixels q []) (rotated c.args.rotation i) 0))
    (λ i y p q s k. (let e = s in search rules, (cc, cc))) (refl, refl) c.from_fn.ensures.items
