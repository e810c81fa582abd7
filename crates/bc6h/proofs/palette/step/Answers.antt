-- Eight sums that wrap.
-- Assumes nothing.
use Rattle.std.proofs.Common.{refl, rules, get_or, ◌≡◌, ◌+◌, ◌%◌, ◌^◌}
use Rattle.bc6h.proofs.Calls.{made}
use Rattle.bc6h.proofs.palette.step.Goals as goal

pub returns : goal.returns
returns c = made (λ p. (p.0.now ≡ c.args.v) × (p.1.now ≡ c.args.d)) (λ k. (get_or c.args.v k 0 + get_or c.args.d k 0) % 2 ^ 32) 0 (λ i y p q l s k. (search rules, (cc, cc))) (refl, refl) c.from_fn.ensures.items
