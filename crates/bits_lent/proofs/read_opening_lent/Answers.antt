-- `read_opening_lent`: the same reads, from a local that is lent. Assumes nothing.
use Rattle.bits_lent.proofs.Openings.{opens_at}
use Rattle.bits_lent.proofs.read_opening_lent.Goals as goal

pub returns : goal.returns
returns c =
    opens_at _ _ c.skip.ensures c.consume_bits-rotation.ensures c.consume_bit-index_mode.ensures c.consume_bits_64-endpoints.ensures.answer
