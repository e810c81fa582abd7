-- `list_run` meets its contract.
-- Assumes nothing.
use native.Mathlib.Omega.{arith}
use Rattle.laws.proofs.Padding.{written_then}
use Rattle.listing.proofs.list_run.Goals as goal

pub returns : goal.returns
returns c =
    let refused = c in
    let whole = refused in
    let lines = refused in
    let told = rw whole.run_of.ensures.same at refused.refuse_unless.ensures in
    record { text = written_then lines.list_blocks-texts.ensures.text told.text; room = omega (arith, told, lines.list_blocks-texts.ensures) }
