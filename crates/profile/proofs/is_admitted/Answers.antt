-- `is_admitted` meets its contract.
-- Assumes nothing.
use mathlib.Core.Path.{sym}
use borrow.Author.Tests.{le-leb, lt-leb}
use Rattle.profile_rules.specs.Profile.{admits}
use Rattle.profile.proofs.is_admitted.Goals as goal

pub returns-then-mode-ge4 : goal.returns-then-mode-ge4
unfolding admits
returns-then-mode-ge4 c = rw (sym c.mode_of-mode.ensures, le-leb 4 c.mode_of-mode.result c.if-mode-ge4.true)

pub returns-else-mode-ge4 : goal.returns-else-mode-ge4
unfolding admits
returns-else-mode-ge4 c = rw (sym c.mode_of-mode.ensures, lt-leb 4 c.mode_of-mode.result c.if-mode-ge4.false)
