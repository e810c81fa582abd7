-- Sixteen pixels, each the sum of two words.
-- Assumes nothing.
use Rattle.std.proofs.Common.{rules, ◌≡◌, ◌+◌, refl, get_or, take}
use Rattle.bcn_format.specs.Indexes.{part}
use Rattle.laws.proofs.FromFn.{made}
use Rattle.bc7_drawing.specs.Words.{word_bytes}
use Rattle.bc7_unpartitioned.proofs.paint_2_and_3.Goals as goal

pub returns : goal.returns
returns c =
    made (λ f. (f.0.now ≡ c.args.p) × (f.1.now ≡ c.args.x) × (f.2.now ≡ c.args.q) × (f.3.now ≡ c.args.y))
    (λ i. take 4 (word_bytes (get_or c.args.p (part c.args.x.uncompressed 2 i) 0 + get_or c.args.q (part c.args.y.uncompressed 3 i) 0)))
    (λ i y p q s k. (let e = s in search rules, (cc, cc, cc, cc))) (refl, refl, refl, refl) c.from_fn.ensures.items
