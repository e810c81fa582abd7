-- `take_next` meets its contract.
-- Assumes nothing.
use mathlib.Core.Path.{◌∙◌}
use Rattle.head_rules.specs.Answers.{reader_known}
use Rattle.listing_rules.proofs.Rounds.{head_sized, taken_one}
use Rattle.listing.proofs.take_next.Goals as goal

pub returns : goal.returns
returns c =
    let a = c.args in
    let taken = c.take_byte.ensures ∙ taken_one (reader_known a.reader) a.came.now c.if-came-eq0.false in
    record { same = taken; sized = head_sized a.came.now c.requires taken }
