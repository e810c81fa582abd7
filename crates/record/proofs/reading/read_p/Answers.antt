-- `reading::read_p` meets its contract.
-- Assumes nothing.
use native.Mathlib.Omega.{arith}
use Rattle.bc7_modes.proofs.Bounds.{small}
use Rattle.record.proofs.reading.Groups.{p_read_is}
use Rattle.record.proofs.reading.read_p.Goals as goal

pub overflow_cast-row : goal.overflow_cast-row
overflow_cast-row c = omega (arith, (small c.requires.of_mode_is).p)

pub take-bits-requires : goal.take-bits-requires
take-bits-requires c = record { narrow = omega (arith, (small c.requires.of_mode_is).p); inside = c.requires.inside }

pub returns : goal.returns
returns c =
    p_read_is _ _ c.take-bits.ensures.same
    c.part_of.ensures c.part_of-2.ensures
    c.part_of-3.ensures c.part_of-4.ensures c.part_of-5.ensures c.part_of-6.ensures
