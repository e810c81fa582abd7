-- `reading::read_endpoints` meets its contract.
-- Assumes nothing.
use native.Mathlib.Omega.{arith}
use borrow.Author.Rules.{rules}
use Rattle.bc7_modes.proofs.Bounds.{small}
use Rattle.record.proofs.reading.Groups.{endpoints_read_is}
use Rattle.record.proofs.reading.read_endpoints.Goals as goal

pub overflow_cast-count : goal.overflow_cast-count
overflow_cast-count c = omega (arith, (small c.requires.of_mode_is).endpoints)

pub overflow_mul-count : goal.overflow_mul-count
overflow_mul-count c = omega (arith, (small c.requires.of_mode_is).colours)

pub take-red-requires : goal.take-red-requires
take-red-requires c =
    let s = c in
    record { narrow = omega (arith, (small s.requires.of_mode_is).colours); inside = search rules }

pub overflow_mul-count-2 : goal.overflow_mul-count-2
overflow_mul-count-2 c = omega (arith, (small c.requires.of_mode_is).colours)

pub take-green-requires : goal.take-green-requires
take-green-requires c =
    let s = c in
    record { narrow = omega (arith, (small s.requires.of_mode_is).colours); inside = search rules }

pub overflow_mul-count-3 : goal.overflow_mul-count-3
overflow_mul-count-3 c = omega (arith, (small c.requires.of_mode_is).colours)

pub take-blue-requires : goal.take-blue-requires
take-blue-requires c =
    let s = c in
    record { narrow = omega (arith, (small s.requires.of_mode_is).colours); inside = search rules }

pub overflow_mul-count-4 : goal.overflow_mul-count-4
overflow_mul-count-4 c =
    let s = c in
    omega (arith, (small s.requires.of_mode_is).alphas)

pub take-alpha-requires : goal.take-alpha-requires
take-alpha-requires c =
    let s = c in
    record { narrow = omega (arith, (small s.requires.of_mode_is).alphas); inside = search rules }

pub endpoints_of-endpoints-requires : goal.endpoints_of-endpoints-requires
endpoints_of-endpoints-requires c = c.requires.of_mode_is

pub returns : goal.returns
returns c =
    endpoints_read_is _ _ c.take-red.ensures.same
    c.take-green.ensures.same
    c.take-blue.ensures.same
    c.take-alpha.ensures.same c.endpoints_of-endpoints.ensures
