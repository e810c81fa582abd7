-- `sets::parts_of` meets its contract.
-- Assumes nothing.
use mathlib.Core.Path.{◌≡◌, ap, ◌∙◌}
use Prim.Native.Nat.{ℕ, ◌+◌, ◌*◌, ◌/◌, ◌^◌}
use native.Mathlib.Omega.{arith}
use lib.Pow.{shr-shr}
use Rattle.laws.proofs.Filled.{filled_all, filled_next}
use Rattle.bcn_format.specs.Block.{field}
use Rattle.laws.proofs.Words.{one_shl}
use Rattle.indexes.proofs.sets.parts_of.Goals as goal

-- what is left, one part on
one_on : (x w i : ℕ) → x / 2 ^ (i * w) / 2 ^ w ≡ x / 2 ^ ((i + 1) * w)
one_on x w i = shr-shr x (i * w) w ∙ ap (λ (n : ℕ). x / 2 ^ n) (let e : i * w + w ≡ (i + 1) * w = omega arith in e)

pub loop-part-preserved : goal.loop-part-preserved
unfolding field
loop-part-preserved c =
    let loop = c in
    let w = c.args.width in
    let e = loop.loop-part.invariant.1 in (
      filled_next _ _ loop.loop-part.invariant.0 (omega arith) (rw (one_shl w (omega arith), e)),
      rw e (one_on c.args.word w loop.loop-part.part-index),
    )

pub returns : goal.returns
returns c = filled_all c.loop-part.invariant.0 (omega arith)
