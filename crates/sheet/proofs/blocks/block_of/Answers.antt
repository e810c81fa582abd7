-- `blocks::block_of` meets its contract.
-- Assumes nothing.
use mathlib.Core.Path.{◌∙◌, ap}
use native.Mathlib.Omega.{arith}
use Rattle.head_rules.specs.Answers.{known}
use Rattle.head_rules.proofs.Orders.{blocks_within}
use Rattle.bcn_format.specs.Block.{block_at}
use Rattle.sheet_rules.specs.Sheets.{block_by}
use Rattle.sheet.proofs.blocks.block_of.Goals as goal

pub load-requires : goal.load-requires
load-requires c =
    let a = c in
    omega (arith, c.place_of.ensures, a.requires.whole, blocks_within (known a.args.head) a.args.number a.requires.asked.number)

pub returns : goal.returns
unfolding block_by
returns c = c.load.ensures ∙ ap (block_at _) c.place_of.ensures
