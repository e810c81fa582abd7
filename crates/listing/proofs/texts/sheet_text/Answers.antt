-- `texts::sheet_text` meets its contract.
-- Assumes nothing.
use native.Mathlib.Omega.{arith}
use Rattle.laws.specs.Text.{ascii}
use Rattle.listing_rules.specs.Text.{sheet_text}
use Rattle.text.proofs.Puts.{puts_then, puts_within}
use Rattle.listing.proofs.texts.sheet_text.Goals as goal

pub returns : goal.returns
unfolding sheet_text ascii
returns c =
    let ended = c in
    let high = ended in
    let space = high in
    let wide = space in
    let told = puts_then (puts_then wide.put_word.ensures wide.put_number-wide.ensures) space.put.ensures in
    puts_within (puts_then (puts_then told high.put_number-high.ensures) ended.put-2.ensures) 40 (omega arith)
