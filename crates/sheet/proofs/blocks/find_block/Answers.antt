-- `blocks::find_block` meets its contract.
-- Assumes nothing.
use mathlib.Core.Path.{◌∙◌, ap, refl}
use native.Mathlib.Omega.{arith}
use Rattle.refusals.specs.Answers.{answer_of}
use Rattle.refusals.proofs.Answers.{number_not_0}
use Rattle.head_rules.proofs.Answers.{passed_up}
use Rattle.sheet.specs.Found.{found_at}
use Rattle.sheet.proofs.blocks.Finding.{block_found, no_such, not_whole, size_is}
use Rattle.sheet.proofs.blocks.find_block.Goals as goal

pub returns-in_err-head : goal.returns-in_err-head
returns-in_err-head c = ap (answer_of 0) (passed_up _ c.from_residual.ensures.1) ∙ not_whole _ _ c.in_err-head.ensures (number_not_0 _)

pub blocks_of-requires : goal.blocks_of-requires
blocks_of-requires c = size_is _ 0 c.in_ok-head.ensures refl

pub returns-then-block-blocks_of : goal.returns-then-block-blocks_of
returns-then-block-blocks_of c =
    no_such _ _ c.in_ok-head.ensures refl (λ l. omega (arith, c.if-block-blocks_of.true, c.blocks_of.ensures.same, l))

pub place_of-requires : goal.place_of-requires
place_of-requires c = record {
  size = size_is _ 0 c.in_ok-head.ensures refl;
  number = omega (arith, c.if-block-blocks_of.false, c.blocks_of.ensures.same);
}

pub returns : goal.returns
returns c =
    ap (found_at 0) c.place_of.ensures
    ∙ block_found _ _ c.in_ok-head.ensures refl (omega (arith, c.if-block-blocks_of.false, c.blocks_of.ensures.same))
