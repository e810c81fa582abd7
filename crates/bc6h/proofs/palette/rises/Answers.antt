-- Eight rises.
-- Assumes nothing.
use Rattle.std.proofs.Common.{refl, rules, get_or, ◌≡◌, ◌+◌}
use Rattle.bc6h.specs.Lanes.{rise}
use Rattle.bc6h.proofs.Calls.{made}
use Rattle.bc6h.proofs.palette.rises.Goals as goal

pub returns : goal.returns
returns c = made (λ p. (p.0.now ≡ c.args.weight) × (p.1.now ≡ c.args.e)) (λ k. rise c.args.weight (get_or c.args.e k 0) (get_or c.args.e (k + 8) 0)) 0 (λ i y p q l s k. (search rules, (cc, cc))) (refl, refl) c.from_fn.ensures.items
