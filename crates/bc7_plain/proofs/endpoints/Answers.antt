-- `endpoints` meets its contract.
-- Assumes nothing.
use native.Mathlib.Omega.{arith}
use Rattle.pixel_rules.proofs.Rows.{row}
use Rattle.bc7_plain.proofs.endpoints.Goals as goal

pub returns : goal.returns
returns c =
    let s = c.before in
    record { is = omega (arith, c.column.ensures.is, (row _ s.args.mode.in_table).ends); few = omega (arith, c.column.ensures.few) }
