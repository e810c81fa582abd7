-- `chart` meets its contract.
-- Assumes nothing.
use mathlib.Core.Path.{◌∙◌}
use native.Mathlib.Omega.{arith}
use Rattle.bc7_format.proofs.Modes.{mode_le_8}
use Rattle.chart.proofs.Answers.{says_1, says_10, says_fields}
use Rattle.chart.proofs.chart.Goals as goal

pub returns-then-input-ne16 : goal.returns-then-input-ne16
returns-then-input-ne16 c =
    let told = c.refused.ensures in
    record { is = told.is ∙ says_10 _ c.if-input-ne16.true; within = told.within }

pub returns-then-mode-eq8 : goal.returns-then-mode-eq8
returns-then-mode-eq8 c =
    let told = c.refused-then-mode-eq8.ensures in
    record {
      is = told.is ∙ says_1 _ c.if-input-ne16.false c.load-block.ensures c.mode_of-mode.ensures c.if-mode-eq8.true;
      within = told.within;
    }

pub accepted-requires : goal.accepted-requires
accepted-requires c =
    record { is = c.mode_of-mode.ensures; low = omega (arith, c.if-mode-eq8.false, c.mode_of-mode.ensures, mode_le_8 c.load-block.result) }

pub returns : goal.returns
returns c =
    let told = c.accepted.ensures in
    record {
      is = told.is ∙ says_fields _ c.if-input-ne16.false c.load-block.ensures c.mode_of-mode.ensures c.if-mode-eq8.false;
      within = told.within;
    }
