-- `list_sheet` meets its contract. The measure is the rounds that the machine still takes.
-- Assumes nothing.
use native.Mathlib.Omega.{arith}
use Rattle.listing.proofs.Whole.{fed_start, fed_round, fed_whole}
use Rattle.listing.proofs.list_sheet.Goals as goal

pub loop-machine-init : goal.loop-machine-init
loop-machine-init c = fed_start _ _ c.start-machine.ensures.same (omega arith)

pub loop-machine-preserved : goal.loop-machine-preserved
loop-machine-preserved c = fed_round c.loop-machine.invariant
    (rw c.wanted-in-loop-machine.ensures.wants at c.end_of-end.ensures) c.list-said.ensures c.next-machine.ensures

pub returns : goal.returns
returns c =
    let f = c.loop-machine.invariant in
    record { says = fed_whole f (omega (arith, c.wanted.ensures.wants, c.loop-machine-test.false)); fits = omega (arith, f.room, f.long) }
