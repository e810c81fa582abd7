-- `stored_by` meets its contract.
-- Assumes nothing.
use mathlib.Core.Path.{◌∙◌, ap, sym}
use Rattle.head_rules.specs.declared.Form.{Form}
use Rattle.head_rules.specs.Geometry.{stored_by}
use Rattle.moves.proofs.Steps.{stored_there}
use Rattle.moves.proofs.stored_by.Goals as goal

pub returns-in-Tiles : goal.returns-in-Tiles
returns-in-Tiles c =
    stored_there c.requires _ (c.stored_in_tiles.ensures
    ∙ sym (ap (λ (f : Form). stored_by f c.args.columns c.args.rows c.args.block) c.in-Tiles.is))
