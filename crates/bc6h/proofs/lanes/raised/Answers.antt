-- Endpoints of sixteen bits.
-- Assumes nothing.
use Rattle.std.proofs.Common.{refl, rules, get_or, ◌≡◌}
use Rattle.bc6h_format.specs.Widening.{widened}
use Rattle.bc6h.proofs.Calls.{made}
use Rattle.bc6h.proofs.lanes.raised.Goals as goal

pub returns : goal.returns
returns g c =
    made (λ p. p.0.now ≡ c.args.v) (λ i. widened g.S.Sign.signed 16 (get_or c.args.v i 0)) 0 (λ i y p q l s k. (search rules, cc)) refl c.from_fn.ensures.items
