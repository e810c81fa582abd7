-- `replace_block_counted` meets its contract.
-- Assumes nothing.
use mathlib.Core.Path.{refl}
use Rattle.refusals.proofs.Answers.{number_not_0}
use Rattle.head_rules.proofs.Answers.{passed_up}
use Rattle.counts.proofs.Naming.{block_put, not_named_as}
use Rattle.counts.proofs.replace_block_counted.Goals as goal

pub returns-in_err-named : goal.returns-in_err-named
returns-in_err-named c =
    rw (passed_up _ c.from_residual.ensures.1) (not_named_as _ _ _ _ c.in_err-named.ensures (number_not_0 _) refl)

pub returns : goal.returns
returns c = block_put _ _ _ _ (c.in_ok-named.ensures.here _ refl) refl c.put.ensures refl
