-- `splits::read_split` meets its contract.
-- Assumes nothing.
use native.Mathlib.Nat.{lt_of_lt_of_le}
use native.Mathlib.Omega.{arith}
use lib.Pow.{pow_mono}
use Rattle.bc7_modes.proofs.Bounds.{small}
use Rattle.bc7_places.proofs.splits.read_split.Goals as goal

pub take-bits-requires : goal.take-bits-requires
take-bits-requires c =
    let s = c.before.before in
    record { narrow = omega (arith, (small s.requires.of_mode_is).split); inside = omega (arith, s.requires.inside) }

pub overflow_cast-value : goal.overflow_cast-value
overflow_cast-value c =
    let narrow = (small c.requires.of_mode_is).split in
    record { fits = lt_of_lt_of_le c.take-bits.ensures.small (pow_mono {j = 8} (omega (arith, narrow))) }
