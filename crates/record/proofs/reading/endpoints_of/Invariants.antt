-- `reading::endpoints_of` meets its contract.
-- Assumes nothing.
use Rattle.record.proofs.reading.Groups.{Values}
use Rattle.record.proofs.reading.endpoints_of.Given as goal

abbrev pub invariant-loop-e : goal.invariant-loop-e
invariant-loop-e l = Values l.row l.red l.green l.blue l.alpha l.e l.endpoints
