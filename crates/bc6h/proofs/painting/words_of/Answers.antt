-- Two lanes a word.
-- Assumes nothing.
use Rattle.std.proofs.Common.{refl, rules, get_or, ◌≡◌, ◌+◌, ◌*◌, ◌^◌}
use Rattle.bc6h.proofs.Calls.{made}
use Rattle.bc6h.proofs.painting.words_of.Goals as goal

pub returns : goal.returns
returns c =
    made (λ p. p.0.now ≡ c.args.m) (λ i. get_or c.args.m (2 * i) 0 + get_or c.args.m (2 * i + 1) 0 * 2 ^ 16) 0
    (λ i y p q l s k. (search rules, cc)) refl c.from_fn.ensures.items
