-- `check_size` meets its contract.
-- Assumes nothing.
use mathlib.Core.Path.{sym}
use native.Mathlib.Omega.{arith}
use Rattle.head_rules.proofs.Heading.{size_0, size_9}
use Rattle.sheet_head.proofs.check_size.Goals.{then-width-lt1-via-then-width-lt1, then-width-lt1-via-else-width-lt1+then-width-gt-LIMIT, then-width-lt1-via-else-width-lt1+else-width-gt-LIMIT+then-height-lt1, then-width-lt1-via-else-width-lt1+else-width-gt-LIMIT+else-height-lt1+then-height-gt-LIMIT}
use Rattle.sheet_head.proofs.check_size.Goals as goal

pub returns-then-width-lt1 : goal.returns-then-width-lt1
returns-then-width-lt1 c = sym (size_9 _ _ _ (λ s. elim c.then-width-lt1.branch [
  | then-width-lt1-via-then-width-lt1 w ↦ omega (arith, s.wide, w.if-width-lt1.true)
  | then-width-lt1-via-else-width-lt1+then-width-gt-LIMIT w ↦ omega (arith, s.within_wide, w.if-width-gt-LIMIT.true)
  | then-width-lt1-via-else-width-lt1+else-width-gt-LIMIT+then-height-lt1 w ↦ omega (arith, s.high, w.if-height-lt1.true)
  | then-width-lt1-via-else-width-lt1+else-width-gt-LIMIT+else-height-lt1+then-height-gt-LIMIT w ↦ omega (arith, s.within_high, w.if-height-gt-LIMIT.true)
]))

pub returns : goal.returns
returns c = sym (size_0 _ _ _ (record { wide = omega arith; within_wide = omega arith; high = omega arith; within_high = omega arith }))
