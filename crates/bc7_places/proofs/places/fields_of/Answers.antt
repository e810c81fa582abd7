-- `places::fields_of` meets its contract.
-- Assumes nothing.
use native.Mathlib.Omega.{arith}
use Rattle.bc7_places.specs.Places.{fields_of}
use Rattle.bc7_places.proofs.places.Room.{Room, room}
use Rattle.bc7_places.proofs.places.fields_of.Goals as goal
use Rattle.bc7_places.proofs.places.fields_of.Goals.{After-pair_of-pair}

rooms : (c : After-pair_of-pair) → Room c.args.row c.pair_of-pair.result
rooms c = room c.args.line c.requires.of_mode_is c.requires.line c.pair_of-pair.ensures

pub overflow_cast-ends : goal.overflow_cast-ends
overflow_cast-ends c = let r = rooms c.before in record { fits = omega arith }

pub overflow_mul-channel : goal.overflow_mul-channel
overflow_mul-channel c = let r = rooms c.before.before in record { fits = omega arith }

pub overflow_mul-red : goal.overflow_mul-red
overflow_mul-red c = let r = rooms c.before.before.before in record { fits = omega arith }

pub overflow_add-red : goal.overflow_add-red
overflow_add-red c = let r = rooms c.before.before.before in record { fits = omega arith }

pub overflow_mul-p : goal.overflow_mul-p
overflow_mul-p c = let r = rooms c.before.before.before in record { fits = omega arith }

pub overflow_add-p : goal.overflow_add-p
overflow_add-p c = let r = rooms c.before.before.before in record { fits = omega arith }

pub overflow_mul-p-2 : goal.overflow_mul-p-2
overflow_mul-p-2 c = let r = rooms c.before.before.before.before in record { fits = omega arith }

pub overflow_add-p-2 : goal.overflow_add-p-2
overflow_add-p-2 c = let r = rooms c.before.before.before.before in record { fits = omega arith }

pub overflow_cast-first : goal.overflow_cast-first
overflow_cast-first c = let r = rooms c.before.before.before.before.before in record { fits = omega arith }

pub overflow_add-first : goal.overflow_add-first
overflow_add-first c = let r = rooms c.before.before.before.before.before in record { fits = omega arith }

pub overflow_add-result : goal.overflow_add-result
overflow_add-result c = let r = rooms c.before.before.before.before.before in record { fits = omega arith }

pub overflow_mul-result : goal.overflow_mul-result
overflow_mul-result c = let r = rooms c.before.before.before.before.before in record { fits = omega arith }

pub overflow_add-result-2 : goal.overflow_add-result-2
overflow_add-result-2 c = let r = rooms c.before.before.before.before.before in record { fits = omega arith }

pub overflow_mul-result-2 : goal.overflow_mul-result-2
overflow_mul-result-2 c = let r = rooms c.before.before.before.before.before in record { fits = omega arith }

pub overflow_add-result-3 : goal.overflow_add-result-3
overflow_add-result-3 c = let r = rooms c.before.before.before.before.before in record { fits = omega arith }

pub overflow_mul-result-3 : goal.overflow_mul-result-3
overflow_mul-result-3 c = let r = rooms c.before.before.before.before.before.before in record { fits = omega arith }

pub overflow_add-result-4 : goal.overflow_add-result-4
overflow_add-result-4 c = let r = rooms c.before.before.before.before.before.before in record { fits = omega arith }

pub set_start-requires : goal.set_start-requires
set_start-requires c =
    let r = rooms c.before.before.before.before.before.before in
    record { of_mode_is = c.requires.of_mode_is; within = omega arith }

pub returns : goal.returns
unfolding fields_of
returns c = rw (c.set_start.ensures, c.pair_of-pair.ensures)
