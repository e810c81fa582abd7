-- `column` meets its contract.
-- Assumes nothing.
use mathlib.Core.Path.{refl}
use native.Mathlib.Omega.{arith}
use Rattle.pixel_rules.specs.Columns.{column_of, printed_rows}
use Rattle.bc7_plain.proofs.Rows.{column_le}
use Rattle.bc7_plain.proofs.column.Goals as goal

pub overflow_cast-result : goal.overflow_cast-result
unfolding column_of printed_rows
overflow_cast-result c = omega (arith, column_le c.args.mode.number c.args.name c.args.mode.in_table c.requires)

pub returns : goal.returns
unfolding column_of printed_rows
returns c = record { is = refl; few = column_le c.args.mode.number c.args.name c.args.mode.in_table c.requires }
