-- `Packing::block` meets its contract.
-- Assumes nothing.
use mathlib.Core.Path.{◌∙◌}
use Rattle.record.proofs.writing.Pushing.{all_written}
use Rattle.record.proofs.writing.Packing.block.Goals as goal

pub returns : goal.returns
returns c = c.finish.ensures ∙ all_written c.args.self.packs.packs c.push_indexes.ensures
