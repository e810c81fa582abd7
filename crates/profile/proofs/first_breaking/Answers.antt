-- `first_breaking` meets its contract: the blocks that were looked at are those stored first, up to all.
-- Assumes nothing.
use mathlib.Core.Path.{◌∙◌, refl}
use Rattle.std.proofs.Common.{rules}
use Rattle.std.proofs.lemmas.Iterator.{YieldsList-from_range}
use Rattle.std.proofs.lemmas.Iterator.Consumers.{fold_from_yields_List}
use Rattle.head_rules.specs.Answers.{known}
use Rattle.profile.proofs.Looking.{look, looked_at_all}
use Rattle.profile.proofs.first_breaking.Goals as goal

pub returns : goal.returns
returns c =
    let h = known c.args.head in
    let s = c.args.sheet.now in
    fold_from_yields_List _ (look h s) _ _ c.fold.ensures.ran (YieldsList-from_range 0 c.blocks_of-blocks.result _ refl refl)
    (λ a x b q e. (search (rules, e), search (rules, e)))
    ∙ looked_at_all h s c.blocks_of-blocks.ensures.same
