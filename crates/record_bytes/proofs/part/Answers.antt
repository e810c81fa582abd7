-- `part` meets its contract.
-- Assumes nothing.
use mathlib.Core.Path.{◌∙◌}
use Rattle.record_bytes.proofs.Laying.{copied_part}
use Rattle.record_bytes.proofs.part.Goals as goal

pub returns : goal.returns
returns g c = c.copy_from_slice.ensures.after ∙ copied_part c.args.from.now g.row.N c.args.at c.requires
