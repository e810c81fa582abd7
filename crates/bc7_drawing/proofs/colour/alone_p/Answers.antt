-- One colour with alpha and p bits.
-- Assumes nothing.
use mathlib.Core.Path.{ap, ◌∙◌}
use Prim.Native.Nat.{ℕ}
use Rattle.bc7_fields.specs.Painting.{end_of_p}
use Rattle.bc7_drawing.specs.Words.{with_p}
use Rattle.bc7_drawing.proofs.colour.Words.{end_p_lt, end_p_none, ends_first, holds_one, nothing}
use Rattle.bc7_drawing.proofs.colour.alone_p.Goals as goal

pub returns : goal.returns
returns c =
    let s = c.before in
    let n = s.args.bits in
    let w = s.requires.width in
    holds_one (with_p n s.args.x) (λ k c. end_p_lt n k _ _ w)
    (c.translucent_p.ensures.same ∙ ends_first _ (λ k c. ap (λ (v : ℕ). end_of_p n k v 0) (nothing c) ∙ end_p_none n k w))
