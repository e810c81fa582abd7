-- `record_of_bytes`: each array is a part of the bytes.
-- Assumes nothing.
use Rattle.record_rules.specs.Wire.{record_of_bytes}
use lib.ListN.{get_or}
use Rattle.record_bytes.proofs.record_of_bytes.Goals as goal

pub returns : goal.returns
unfolding record_of_bytes
returns c =
    λ j. record {
      mode = get_or c.args.bytes 0 0;
      split = c.split_of_kind.ensures j;
      endpoints = c.part.ensures j;
      p = c.part-2.ensures j;
      first = c.part-3.ensures j;
      second = c.part-4.ensures j;
    }
