-- One alpha in two colours.
-- Assumes nothing.
use borrow.Author.Rules.{rules}
use Rattle.bc7_unpartitioned.proofs.Crossing.{alphas_bytes, alphas_fit}
use Rattle.bc7_unpartitioned.proofs.with_alphas.Goals as goal

pub overflow_add-result : goal.overflow_add-result
overflow_add-result c = record { fits = alphas_fit (search rules) (search rules) c.requires.colours c.requires.alpha }

pub returns : goal.returns
returns c = alphas_bytes (search rules) (search rules) c.requires.colours c.requires.alpha
