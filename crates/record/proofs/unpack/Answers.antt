-- `unpack` meets its contract.
-- Assumes nothing.
use mathlib.Core.Path.{◌∙◌, ap}
use Rattle.record_rules.specs.Records.{unpacked_as}
use Rattle.record.proofs.Steps.{accepted, mode_low, reserved}
use Rattle.record.proofs.unpack.Goals as goal

pub returns-then-mode-eq8 : goal.returns-then-mode-eq8
returns-then-mode-eq8 c = reserved _ c.mode_of-mode.ensures c.if-mode-eq8.true

pub mode_row-requires : goal.mode_row-requires
mode_row-requires c = mode_low _ c.mode_of-mode.ensures c.if-mode-eq8.false

pub read_record-requires : goal.read_record-requires
read_record-requires c =
    record {
      mode_is = c.mode_of-mode.ensures;
      low = mode_low _ c.mode_of-mode.ensures c.if-mode-eq8.false;
      mode_row_is = c.mode_row.ensures;
    }

pub returns : goal.returns
returns c = ap (unpacked_as 0) c.read_record.ensures ∙ accepted _ c.mode_of-mode.ensures c.if-mode-eq8.false
