-- `two_groups` meets its contract.
-- Assumes nothing.
use mathlib.Core.Path.{◌∙◌, ap}
use native.Mathlib.Omega.{arith}
use Rattle.refusals.proofs.Answers.{number_not_0}
use Rattle.head_rules.specs.Answers.{number_answered}
use Rattle.head_rules.proofs.Answers.{passed_up}
use Rattle.head_rules.proofs.Reading.{above_small, cut_off, last_group, more_groups, no_more}
use Rattle.sheet_head.proofs.two_groups.Goals as goal

pub returns-then-at-s : goal.returns-then-at-s
returns-then-at-s c = cut_off _ _ 2 (omega arith)

pub returns-then-byte-lt128 : goal.returns-then-byte-lt128
returns-then-byte-lt128 c = last_group _ _ 1 (omega arith) (omega arith) c.wide.ensures

pub returns-in_err-one_group : goal.returns-in_err-one_group
returns-in_err-one_group c =
    ap number_answered (passed_up _ c.from_residual.ensures.1) ∙ no_more _ _ 1 (omega arith) (omega arith) c.in_err-one_group.ensures (number_not_0 _)

pub raise-requires : goal.raise-requires
raise-requires c = above_small 1 _ _ c.in_ok-one_group.ensures (omega arith)

pub returns : goal.returns
returns c = c.raise.ensures ∙ more_groups _ _ 1 (omega arith) (omega arith) c.in_ok-one_group.ensures
