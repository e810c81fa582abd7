-- `put` meets its contract.
-- Assumes nothing.
use Rattle.counts.proofs.Recounting.{asked_there, recount_asked, room_there}
use Rattle.counts.proofs.put.Goals as goal

pub store-requires : goal.store-requires
store-requires c = room_there _ _ _ c.requires

pub is_opaque_at-is-requires : goal.is_opaque_at-is-requires
is_opaque_at-is-requires c = asked_there _ _ _ c.requires

pub recount-requires : goal.recount-requires
recount-requires c = recount_asked _ _ _ c.requires _ c.mode_of.ensures
