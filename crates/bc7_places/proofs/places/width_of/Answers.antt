-- `places::width_of` meets its contract.
-- Assumes nothing.
use mathlib.Core.Path.{◌∙◌}
use Rattle.bc7_format.specs.Places.{width}
use Rattle.bc7_places.proofs.places.width_of.Goals as goal

pub returns-in-Lead : goal.returns-in-Lead
unfolding width
returns-in-Lead c = rw c.in-Lead.is c.lead_width.ensures

pub returns-in-Value : goal.returns-in-Value
unfolding width
returns-in-Value c = rw c.in-Value.is (c.value_width.ensures ∙ rw c.requires.is)

pub returns-in-PBit : goal.returns-in-PBit
unfolding width
returns-in-PBit c = rw c.in-PBit.is (c.p_bit_width.ensures ∙ rw c.requires.is)

pub returns-in-Index : goal.returns-in-Index
unfolding width
returns-in-Index c =
    let full = c in
    let arm = full in
    rw arm.in-Index.is (c.stored_width.ensures ∙ rw (full.index_width.ensures, arm.requires.is))
