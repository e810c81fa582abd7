-- `texts::opacity_mark` meets its contract.
-- Assumes nothing.
use Rattle.listing_rules.specs.Text.{opacity_mark}
use Rattle.listing.proofs.texts.opacity_mark.Goals as goal

pub returns-then-opaque : goal.returns-then-opaque
unfolding opacity_mark
returns-then-opaque c = rw c.if-opaque.true

pub returns-else-opaque : goal.returns-else-opaque
unfolding opacity_mark
returns-else-opaque c = rw c.if-opaque.false
