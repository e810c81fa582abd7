-- `rinchovek_bc7_is_opaque`: 1 where `is_opaque` answers yes.
-- Assumes nothing.
use Rattle.rinchovek.proofs.rinchovek_bc7_is_opaque.Goals as goal

pub returns-then-is_opaque : goal.returns-then-is_opaque
returns-then-is_opaque c = rw (← c.is_opaque.ensures, c.if-is_opaque.true)

pub returns : goal.returns
returns c = rw (← c.is_opaque.ensures, c.if-is_opaque.false)
