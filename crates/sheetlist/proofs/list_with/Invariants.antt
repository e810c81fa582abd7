-- What the loop of `list_with` keeps, and why it ends: the measure is the rounds that the machine still takes.
-- Assumes nothing.
use Rattle.std.proofs.Common.{length, ◌≡◌}
use Rattle.listing_rules.specs.Machine.{Ready, machine_known, rounds_of}
use Rattle.sheetlist.proofs.list_with.Given as goal

abbrev pub invariant-loop-from : goal.invariant-loop-from
invariant-loop-from g l = Ready (machine_known l.machine) × (length l.buffer ≡ length l.initial.buffer) × (length l.text ≡ length l.initial.text)

abbrev pub decreases-loop-from : goal.decreases-loop-from
decreases-loop-from g l = rounds_of (machine_known l.machine)
