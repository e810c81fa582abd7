-- `rinchovek_pixel_floats`: the four floats that `pixel_floats` answers, in their order.
-- Assumes nothing.
use mathlib.Core.Path.{ap}
use mathlib.Core.List.{[], ◌∷◌}
use Rattle.float_rules.specs.declared.FloatPixel.{FloatPixel}
use Rattle.laws.specs.Tables.{table, table_from}
use Rattle.float_rules.specs.Floats.{floats_of}
use Rattle.rinchovek.proofs.rinchovek_pixel_floats.Goals as goal

pub returns : goal.returns
unfolding floats_of table table_from
returns c = ap (λ (p : FloatPixel). p.red ∷ p.green ∷ p.blue ∷ p.alpha ∷ []) c.pixel_floats-made.ensures
