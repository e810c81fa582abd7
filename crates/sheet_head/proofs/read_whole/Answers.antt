-- `read_whole` meets its contract.
-- Assumes nothing.
use mathlib.Core.Path.{◌∙◌, ap}
use Rattle.head_rules.specs.Answers.{Head}
use Rattle.head_rules.specs.Whole.{whole_head}
use Rattle.head_rules.proofs.Whole.{read_sized}
use Rattle.sheet_head.proofs.read_whole.Goals as goal

pub whole-requires : goal.whole-requires
whole-requires c = read_sized _ c.read_head.ensures

pub returns : goal.returns
returns c = c.whole.ensures ∙ ap (λ (h : Head). whole_head h c.args.sheet.now) c.read_head.ensures
