-- `places::set_start` meets its contract.
-- Assumes nothing.
use native.Mathlib.Omega.{arith}
use Rattle.bc7_modes.proofs.Bounds.{small}
use Rattle.bc7_places.proofs.places.set_start.Goals as goal

pub overflow_mul-result : goal.overflow_mul-result
overflow_mul-result c = let r = small c.requires.of_mode_is in record { fits = omega arith }

pub overflow_sub-result : goal.overflow_sub-result
overflow_sub-result c = let r = small c.requires.of_mode_is in omega arith

pub overflow_add-result : goal.overflow_add-result
overflow_add-result c = let r = small c.requires.of_mode_is in record { fits = omega arith }
