-- `list_at_head` meets its contract.
-- Assumes nothing.
use native.Mathlib.Omega.{arith}
use borrow.Author.Tests.{ne_eqb}
use Rattle.refusals.specs.Answers.{number}
use Rattle.refusals.proofs.Answers.{number_not_0}
use Rattle.head_rules.specs.Reader.{refused_with}
use Rattle.head_rules.specs.Answers.{reader_known}
use Rattle.listing_rules.specs.Machine.{head_text}
use Rattle.listing_rules.proofs.Room.{spare_begun}
use Rattle.listing.proofs.list_at_head.Goals as goal

pub returns-then-has_ended : goal.returns-then-has_ended
unfolding head_text
returns-then-has_ended c =
    rw (← c.in-Ok.ensures.same, ← c.has_ended.ensures, c.if-has_ended.true)
    (record { text = c.sheet_text.ensures.text; room = omega (arith, c.sheet_text.ensures, spare_begun (reader_known c.in-Ok.taken)) })

pub returns-in-Err : goal.returns-in-Err
unfolding head_text
returns-in-Err c =
    let told = rw c.number.ensures at c.refused_text.ensures in
    rw (← c.in-Err.ensures.same, ne_eqb _ 0 (number_not_0 c.in-Err.refusal))
    (record { text = told.text; room = omega (arith, told, spare_begun (refused_with (number c.in-Err.refusal))) })
