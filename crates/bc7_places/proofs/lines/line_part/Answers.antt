-- `lines::line_part` meets its contract.
-- Assumes nothing.
use Rattle.bc7_places.proofs.splits.AnchorPixels.{anchors_low}
use Rattle.bc7_places.proofs.splits.SubsetMaps.{map_bits}
use Rattle.bc7_places.proofs.lines.line_part.Goals as goal

pub anchor-requires : goal.anchor-requires
anchor-requires c =
    let s = c in
    record {
      bits = rw c.pixels_of-pixels.ensures (map_bits s.args.split);
      pixel = rw c.anchors_of-anchors.ensures (anchors_low s.args.split s.requires.partition).second;
    }
