-- `list_block` meets its contract.
-- Assumes nothing.
use Rattle.listing_rules.specs.Listing.{block_listed}
use Rattle.listing.proofs.list_block.Goals as goal

pub returns : goal.returns
unfolding block_listed
returns c =
    let told = c in
    let mode = told in
    let mark = mode in
    rw (mode.mode_of.ensures, mark.is_opaque_in-opaque.ensures, mark.decode_bc7_block-pixels.ensures) at told.block_text.ensures
