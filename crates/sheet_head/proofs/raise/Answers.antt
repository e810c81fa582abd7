-- `raise` meets its contract.
-- Assumes nothing.
use mathlib.Core.Path.{sym}
use Rattle.head_rules.proofs.Reading.{raised_none, raised_some}
use Rattle.sheet_head.proofs.raise.Goals as goal

pub returns-then-above-eq0 : goal.returns-then-above-eq0
returns-then-above-eq0 c = sym (raised_none _ _ c.if-above-eq0.true)

pub returns : goal.returns
returns c = rw c.wide.ensures (sym (raised_some _ _ c.if-above-eq0.false))
