-- `candidate` meets its contract.
-- Assumes nothing.
use borrow.Author.Tests.{le-ltb, lt-ltb}
use Rattle.floats.specs.Candidates.{candidate_of, times255}
use Rattle.floats.proofs.candidate.Goals as goal

pub returns-then-bits-lt998244352 : goal.returns-then-bits-lt998244352
unfolding candidate_of
returns-then-bits-lt998244352 c = simp (lt-ltb _ _ c.if-bits-lt998244352.true)

pub returns-then-bits-gt1065353216 : goal.returns-then-bits-gt1065353216
unfolding candidate_of
returns-then-bits-gt1065353216 c = simp (le-ltb _ _ c.if-bits-lt998244352.false, lt-ltb _ _ c.if-bits-gt1065353216.true)

pub returns : goal.returns
unfolding candidate_of times255
returns c = simp (le-ltb _ _ c.if-bits-lt998244352.false, le-ltb _ _ c.if-bits-gt1065353216.false)
