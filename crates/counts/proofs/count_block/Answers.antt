-- `count_block` meets its contract.
-- Assumes nothing.
use mathlib.Core.Path.{◌∙◌, ap}
use native.Mathlib.Omega.{arith}
use Rattle.bc7_format.specs.Modes.{mode_of}
use Rattle.counts.proofs.Counting.{byte_small, mode_in_is, mode_small, one_more, opaque_as, opaque_small}
use Rattle.counts.proofs.count_block.Goals as goal

pub bounds-modes-mode : goal.bounds-modes-mode
bounds-modes-mode c = omega (arith, mode_in_is _ c.mode_of-mode.ensures)

pub overflow_add-modes : goal.overflow_add-modes
overflow_add-modes c = omega (arith, mode_small c.requires _ (mode_in_is _ c.mode_of-mode.ensures))

pub bounds-modes-mode-2 : goal.bounds-modes-mode-2
bounds-modes-mode-2 c = omega (arith, mode_in_is _ c.mode_of-mode.ensures)

pub overflow_add-result : goal.overflow_add-result
overflow_add-result c = omega (arith, opaque_small c.requires, byte_small c.is_opaque_at.result, c.from.ensures)

pub returns : goal.returns
returns c =
    one_more c.requires (c.mode_of-mode.ensures ∙ ap mode_of c.block_of-block.ensures)
    (opaque_as c.requires c.block_of-block.ensures c.is_opaque_at.ensures) c.from.ensures
