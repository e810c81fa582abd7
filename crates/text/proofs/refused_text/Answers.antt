-- `text::refused_text` meets its contract.
-- Assumes nothing.
use native.Mathlib.Omega.{arith}
use Rattle.laws.specs.Text.{ascii, refused_text}
use Rattle.text.proofs.Puts.{puts_then, puts_within}
use Rattle.text.proofs.refused_text.Goals as goal

pub returns : goal.returns
unfolding refused_text ascii
returns c =
    let told = puts_then c.put_word.ensures c.put_spaced-said.ensures in
    puts_within (puts_then told c.put.ensures) 40 (omega arith)
