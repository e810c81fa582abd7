-- Eight lanes, divided.
-- Assumes nothing.
use Rattle.bc6h.proofs.Steps.{Laying}
use Rattle.bc6h.proofs.palette.lay.Given as goal

abbrev pub invariant-loop-i : goal.invariant-loop-i
invariant-loop-i l = Laying l.initial.r l.at l.v l.i l.r
