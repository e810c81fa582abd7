-- `read_number` meets its contract.
-- Assumes nothing.
use mathlib.Core.Path.{◌∙◌, ap}
use native.Mathlib.Omega.{arith}
use Rattle.refusals.proofs.Answers.{number_not_0}
use Rattle.head_rules.specs.Answers.{number_answered}
use Rattle.head_rules.specs.Numbers.{read_number}
use Rattle.head_rules.proofs.Answers.{passed_up}
use Rattle.head_rules.proofs.Reading.{above_small, cut_off, last_group, more_groups, no_more}
use Rattle.sheet_head.proofs.read_number.Goals as goal

pub returns-then-at-s : goal.returns-then-at-s
unfolding read_number
returns-then-at-s c = cut_off _ _ 3 (omega arith)

pub returns-then-byte-lt128 : goal.returns-then-byte-lt128
unfolding read_number
returns-then-byte-lt128 c = last_group _ _ 2 (omega arith) (omega arith) c.wide.ensures

pub returns-in_err-two_groups : goal.returns-in_err-two_groups
unfolding read_number
returns-in_err-two_groups c =
    ap number_answered (passed_up _ c.from_residual.ensures.1) ∙ no_more _ _ 2 (omega arith) (omega arith) c.in_err-two_groups.ensures (number_not_0 _)

pub raise-requires : goal.raise-requires
raise-requires c = above_small 2 _ _ c.in_ok-two_groups.ensures (omega arith)

pub returns : goal.returns
unfolding read_number
returns c = c.raise.ensures ∙ more_groups _ _ 2 (omega arith) (omega arith) c.in_ok-two_groups.ensures
