-- `reading::endpoints_of` meets its contract.
-- Assumes nothing.
use native.Mathlib.Omega.{arith}
use Rattle.bc7_modes.proofs.Bounds.{small}
use Rattle.record.proofs.reading.Groups.{values_all, values_next, values_none}
use Rattle.record.proofs.reading.endpoints_of.Goals as goal

pub loop-e-init : goal.loop-e-init
loop-e-init c = values_none c.args.row _ _ _ _

pub part_of-requires : goal.part_of-requires
part_of-requires c = ((small c.requires).colour, omega (arith, (small c.requires).endpoints))

pub overflow_mul-endpoints : goal.overflow_mul-endpoints
overflow_mul-endpoints c = omega (arith, (small c.requires).endpoints)

pub bounds-endpoints-e : goal.bounds-endpoints-e
bounds-endpoints-e c = omega (arith, (small c.requires).endpoints, c.loop-e.invariant.long)

pub part_of-requires-in-loop-e : goal.part_of-requires-in-loop-e
part_of-requires-in-loop-e c = ((small c.requires).colour, omega (arith, (small c.requires).endpoints))

pub overflow_mul-endpoints-in-loop-e : goal.overflow_mul-endpoints-in-loop-e
overflow_mul-endpoints-in-loop-e c = omega (arith, (small c.requires).endpoints)

pub overflow_add-endpoints : goal.overflow_add-endpoints
overflow_add-endpoints c = omega (arith, (small c.requires).endpoints)

pub bounds-endpoints-e-in-loop-e : goal.bounds-endpoints-e-in-loop-e
bounds-endpoints-e-in-loop-e c = omega (arith, (small c.requires).endpoints, c.loop-e.invariant.long)

pub part_of-requires-in-loop-e-2 : goal.part_of-requires-in-loop-e-2
part_of-requires-in-loop-e-2 c =
    ((small c.requires).colour, omega (arith, (small c.requires).endpoints))

pub overflow_mul-endpoints-in-loop-e-2 : goal.overflow_mul-endpoints-in-loop-e-2
overflow_mul-endpoints-in-loop-e-2 c = omega (arith, (small c.requires).endpoints)

pub overflow_add-endpoints-in-loop-e : goal.overflow_add-endpoints-in-loop-e
overflow_add-endpoints-in-loop-e c = omega (arith, (small c.requires).endpoints)

pub bounds-endpoints-e-in-loop-e-2 : goal.bounds-endpoints-e-in-loop-e-2
bounds-endpoints-e-in-loop-e-2 c =
    omega (arith, (small c.requires).endpoints, c.loop-e.invariant.long)

pub part_of-requires-in-loop-e-3 : goal.part_of-requires-in-loop-e-3
part_of-requires-in-loop-e-3 c =
    ((small c.requires).alpha, omega (arith, (small c.requires).endpoints))

pub overflow_mul-endpoints-in-loop-e-3 : goal.overflow_mul-endpoints-in-loop-e-3
overflow_mul-endpoints-in-loop-e-3 c = omega (arith, (small c.requires).endpoints)

pub overflow_add-endpoints-in-loop-e-2 : goal.overflow_add-endpoints-in-loop-e-2
overflow_add-endpoints-in-loop-e-2 c = omega (arith, (small c.requires).endpoints)

pub bounds-endpoints-e-in-loop-e-3 : goal.bounds-endpoints-e-in-loop-e-3
bounds-endpoints-e-in-loop-e-3 c =
    omega (
      arith,
      (small c.requires).endpoints,
      c.loop-e.invariant.long,
    )

pub loop-e-preserved : goal.loop-e-preserved
loop-e-preserved c =
    values_next c.args.row _ _ _ _ _ c.loop-e-test.true (small c.requires).endpoints c.loop-e.invariant
    c.part_of.ensures c.part_of-in-loop-e.ensures c.part_of-in-loop-e-2.ensures c.part_of-in-loop-e-3.ensures

pub returns : goal.returns
returns c = values_all _ _ _ _ _ _ c.loop-e-test.false c.loop-e.invariant
