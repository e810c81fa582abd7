-- `next_in_blocks` meets its contract.
-- Assumes nothing.
use native.Mathlib.Omega.{arith}
use Rattle.head_rules.specs.Answers.{known}
use Rattle.listing_rules.proofs.Rounds.{few_in_all}
use Rattle.listing.proofs.next_in_blocks.Goals as goal

pub overflow_add-from : goal.overflow_add-from
overflow_add-from c =
    let s = c in
    omega (arith, c.run_of-run.ensures.inside, few_in_all (known s.args.reader.head) s.requires.sized)
