-- `replacement_of`: each array is a part of the bytes.
-- Assumes nothing.
use Rattle.line_rules.specs.Read.{replacement_of}
use mathlib.Core.Path.{◌∙◌}
use mathlib.Core.List.{[], ◌∷◌}
use lib.ListN.{get_or}
use Rattle.record_bytes.proofs.Laying.{from_0}
use Rattle.record_bytes.proofs.replacement_of.Goals as goal

pub returns : goal.returns
unfolding replacement_of
returns c =
    let bytes = c.args.bytes in
    λ j. record {
      endpoints = (c.part.ensures ∙ from_0 bytes 8) j;
      p = get_or bytes 8 0 ∷ get_or bytes 9 0 ∷ [];
      indexes = c.part-2.ensures j;
    }
