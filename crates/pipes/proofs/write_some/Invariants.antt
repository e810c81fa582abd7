-- What the loop of `write_some` keeps: a write that failed has appended nothing.
-- Assumes nothing.
use Rattle.std.specs.Io.KnownBytes.{Keeps}
use Rattle.pipes.proofs.write_some.Given as goal

abbrev pub invariant-loop : goal.invariant-loop
invariant-loop g l = Keeps (g.W.Write.contents l.initial.to) (g.W.Write.contents l.to)
