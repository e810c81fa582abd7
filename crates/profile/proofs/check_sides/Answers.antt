-- `check_sides` meets its contract.
-- Assumes nothing.
use borrow.Author.Tests.{eq-eqb, ne_eqb}
use Rattle.profile_rules.specs.Profile.{sides_refusal}
use Rattle.profile.proofs.check_sides.Goals as goal
use Rattle.profile.proofs.check_sides.Goals.{then-head-ne0-via-then-head-ne0, then-head-ne0-via-else-head-ne0+then-head-ne0-2}

pub returns-then-head-ne0 : goal.returns-then-head-ne0
unfolding sides_refusal
returns-then-head-ne0 c = elim c.then-head-ne0.branch [
  | then-head-ne0-via-then-head-ne0 w ↦ rw (ne_eqb _ 0 w.if-head-ne0.true)
  | then-head-ne0-via-else-head-ne0+then-head-ne0-2 w ↦ rw (eq-eqb _ 0 w.if-head-ne0.false, ne_eqb _ 0 w.if-head-ne0-2.true)
]

pub returns : goal.returns
unfolding sides_refusal
returns c = rw (eq-eqb _ 0 c.if-head-ne0.false, eq-eqb _ 0 c.if-head-ne0-2.false)
