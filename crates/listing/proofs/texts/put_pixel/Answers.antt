-- `texts::put_pixel` meets its contract.
-- Assumes nothing.
use Rattle.listing_rules.specs.Text.{channels}
use Rattle.text.proofs.Puts.{puts_then}
use Rattle.listing.proofs.texts.put_pixel.Goals as goal

pub returns : goal.returns
unfolding channels
returns c =
    let alpha = c in
    let blue = alpha in
    let green = blue in
    let red = green in
    let both = puts_then red.put_spaced-green.ensures green.put_spaced-blue.ensures in
    puts_then (puts_then both blue.put_spaced-alpha.ensures) alpha.put_spaced.ensures
