-- Bits of a block from a place on.
-- Assumes nothing.
use mathlib.Core.Path.{◌∙◌}
use Rattle.bits.proofs.On.{got}
use Rattle.bc6h_modes.specs.Words.{whole}
use Rattle.bc6h_modes.proofs.Runs.{one_run}
use Rattle.bc6h_modes.proofs.Words.bits.Goals as goal

pub returns : goal.returns
returns c =
    record {
      is = got c.stream_at.ensures c.args.count c.take.ensures.same ∙ one_run (whole c.args.self) c.args.at c.args.count;
      small = c.take.ensures.small;
    }
