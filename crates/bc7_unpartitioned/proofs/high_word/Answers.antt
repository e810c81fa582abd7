-- The high half of a word.
-- Assumes nothing.
use borrow.Author.Rules.{rules}
use Rattle.bc7_unpartitioned.proofs.Crossing.{high_half}
use Rattle.bc7_unpartitioned.proofs.high_word.Goals as goal

pub returns : goal.returns
returns c = high_half (search rules)
