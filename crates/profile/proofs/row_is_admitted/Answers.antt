-- `row_is_admitted` meets its contract: each block of the row may be asked, and the chain asks the test of each.
-- Assumes nothing.
use mathlib.Core.Path.{refl, ◌∙◌}
use Rattle.std.proofs.Common.{rules}
use Rattle.std.proofs.lemmas.Iterator.{YieldsList-from_range, serves_from_Range}
use Rattle.std.proofs.lemmas.Iterator.Search.{all_from_yields_List}
use Rattle.head_rules.specs.Answers.{known}
use Rattle.profile.proofs.Looking.{row_all, row_asked, row_few, row_room, row_test, told_in_row}
use Rattle.profile.proofs.row_is_admitted.Goals as goal

pub all-requires-clause-callable : goal.all-requires-clause-callable
all-requires-clause-callable c =
    serves_from_Range (λ x q e. search rules) (λ x low l. search (rules, row_few c.requires c.blocks_across-columns.ensures l, row_asked c.requires c.blocks_across-columns.ensures l, row_room c.requires c.blocks_across-columns.ensures l))

pub returns : goal.returns
returns c =
    let n = c.args.row in
    let columns = c.blocks_across-columns in
    all_from_yields_List (row_test (known c.args.head) c.args.sheet.now n) _ _ _ c.all.ensures.ran (YieldsList-from_range 0 columns.result _ refl refl)
    (λ x b q e. (search (rules, e), search (rules, e, told_in_row (known c.args.head) c.args.sheet.now n columns.ensures)))
    ∙ row_all (known c.args.head) c.args.sheet.now n columns.ensures
