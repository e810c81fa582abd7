-- `read_opening`: the reads one after the other, by value. Assumes nothing.
use Rattle.bits_lent.proofs.Openings.{as_lent, opens_at}
use Rattle.bits_lent.proofs.read_opening.Goals as goal

pub returns : goal.returns
returns c =
    let x = as_lent _ _ c.consume_bits-rotation.ensures.same c.behind-t.ensures in
    let y = as_lent _ _ c.consume_bit-index_mode.ensures.same c.behind-u.ensures in
    opens_at _ _ c.skip-s.ensures x y c.consume_bits_64-endpoints.ensures.same
