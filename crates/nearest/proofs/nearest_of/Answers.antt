-- `nearest_of` meets its contract.
-- Assumes nothing.
use lib.Dec.{lit<}
use Rattle.bc7_format.proofs.Meaning.{rotated_lt}
use Rattle.nearest.proofs.nearest_of.Goals as goal

pub channel_of-requires : goal.channel_of-requires
channel_of-requires c = rw c.rotated.ensures (c.requires.channels _ (rotated_lt _ 0 c.requires.rotation (lit< tt)))

pub channel_of-requires-2 : goal.channel_of-requires-2
channel_of-requires-2 c =
    rw c.rotated-2.ensures (c.requires.channels _ (rotated_lt _ 1 c.requires.rotation (lit< tt)))

pub channel_of-requires-3 : goal.channel_of-requires-3
channel_of-requires-3 c =
    rw c.rotated-3.ensures (c.requires.channels _ (rotated_lt _ 2 c.requires.rotation (lit< tt)))

pub channel_of-requires-4 : goal.channel_of-requires-4
channel_of-requires-4 c =
    rw c.rotated-4.ensures (c.requires.channels _ (rotated_lt _ 3 c.requires.rotation (lit< tt)))
