-- `in_blocks` meets its contract.
-- Assumes nothing.
use mathlib.Core.Path.{◌∙◌}
use Prim.Native.Nat.{◌-◌}
use native.Mathlib.Omega.{arith}
use Rattle.head_rules.specs.Answers.{known}
use Rattle.head_rules.specs.Geometry.{blocks_of}
use Rattle.listing_rules.specs.Machine.{in_blocks}
use Rattle.listing_rules.proofs.Rounds.{no_blocks, some_blocks}
use Rattle.listing.proofs.in_blocks.Goals as goal

pub returns-then-from-blocks_of : goal.returns-then-from-blocks_of
unfolding in_blocks
returns-then-from-blocks_of c = rw (no_blocks _ _ (c.if-from-blocks_of.true ∙ c.blocks_of.ensures.same))

pub returns : goal.returns
unfolding in_blocks
returns c =
    let all = c.blocks_of.ensures.same in
    let s = c in
    rw (some_blocks (blocks_of (known s.args.reader.head) - s.args.from) (λ z. c.if-from-blocks_of.false (omega (arith, z, all, s.requires.within))))
