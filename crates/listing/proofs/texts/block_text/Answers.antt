-- `texts::block_text` meets its contract.
-- Assumes nothing.
use Rattle.listing_rules.specs.Text.{block_text}
use Rattle.text.proofs.Puts.{puts_then}
use Rattle.listing.proofs.texts.block_text.Goals as goal

pub returns : goal.returns
unfolding block_text
returns c =
    let ended = c in
    let mark = ended in
    let space = mark in
    let drawn = space in
    let mode = drawn in
    let number = mode in
    let told = puts_then (puts_then number.put_number-numbered.ensures mode.put_spaced.ensures) drawn.put_pixel-drawn.ensures in
    let marked = puts_then (puts_then told space.put.ensures)
    (rw space.opacity_mark.ensures at mark.put-marked.ensures) in
    puts_then marked ended.put-2.ensures
