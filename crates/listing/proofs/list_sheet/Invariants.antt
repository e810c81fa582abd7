-- `list_sheet` meets its contract. The measure is the rounds that the machine still takes.
-- Assumes nothing.
use Rattle.listing_rules.specs.Machine.{machine_known, rounds_of}
use Rattle.listing.proofs.Whole.{Fed}
use Rattle.listing.proofs.list_sheet.Given as goal

abbrev pub invariant-loop-machine : goal.invariant-loop-machine
invariant-loop-machine l = Fed l.sheet l.initial.out l.out (machine_known l.machine) l.at l.said

abbrev pub decreases-loop-machine : goal.decreases-loop-machine
decreases-loop-machine l = rounds_of (machine_known l.machine)
