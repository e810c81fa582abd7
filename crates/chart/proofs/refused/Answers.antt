-- `refused` meets its contract.
-- Assumes nothing.
use native.Mathlib.Omega.{arith}
use Rattle.chart_rules.specs.Charts.{text_room}
use Rattle.text.proofs.Puts.{puts_within}
use Rattle.std.specs.Prelude.{Some}
use Rattle.chart.proofs.Answers.{answered}
use Rattle.chart.proofs.refused.Goals as goal

pub returns : goal.returns
returns c = answered (Some c.args.refusal) (puts_within (rw c.number.ensures at c.refused_text-length.ensures) text_room (omega arith))
