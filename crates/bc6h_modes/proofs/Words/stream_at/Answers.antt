-- A reader of a block, from a bit on.
-- Assumes nothing.
use mathlib.Core.Path.{refl}
use Rattle.bits.specs.Stream.{held}
use Rattle.bc6h_modes.specs.Words.{whole}
use Rattle.bc6h_modes.proofs.Words.stream_at.Goals as goal

pub returns : goal.returns
unfolding held whole
returns c = record { of = refl; stands = refl }
