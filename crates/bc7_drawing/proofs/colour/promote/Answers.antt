-- The four lanes of a word from n bits to eight.
-- Assumes nothing.
use borrow.Author.Rules.{rules}
use Rattle.bc7_drawing.proofs.colour.Words.{promoted_word, promoted_word_fits}
use Rattle.bc7_drawing.proofs.colour.promote.Goals as goal

pub overflow_add-result : goal.overflow_add-result
overflow_add-result c =
    let s = c.before in
    record { fits = promoted_word_fits s.args.bits s.args.x (search rules) s.requires c.parts.ensures }

pub returns : goal.returns
returns c =
    let s = c.before in
    promoted_word s.args.bits s.args.x (search rules) s.requires c.parts.ensures
