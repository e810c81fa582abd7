-- `one_group` meets its contract.
-- Assumes nothing.
use native.Mathlib.Omega.{arith}
use Rattle.head_rules.proofs.Reading.{cut_off, last_group, no_group}
use Rattle.sheet_head.proofs.one_group.Goals as goal

pub returns-then-at-s : goal.returns-then-at-s
returns-then-at-s c = cut_off _ _ 1 (omega arith)

pub returns-then-byte-lt128 : goal.returns-then-byte-lt128
returns-then-byte-lt128 c = last_group _ _ 0 (omega arith) (omega arith) c.wide.ensures

pub returns : goal.returns
returns c = no_group _ _ (omega arith) (omega arith)
