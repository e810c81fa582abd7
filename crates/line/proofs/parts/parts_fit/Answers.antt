-- `parts::parts_fit` meets its contract.
-- Assumes nothing.
use mathlib.Core.Path.{sym, ◌∙◌}
use mathlib.Core.Bool.{true≢false}
use Rattle.line.proofs.parts.Asks.{by_values, no_index, no_p}
use Rattle.line.proofs.parts.parts_fit.Goals as goal
use Rattle.line.proofs.parts.parts_fit.Goals.{then-indexes_fit, else-indexes_fit}

pub returns-then-p_fits : goal.returns-then-p_fits
returns-then-p_fits c = elim c.if-indexes_fit.branch [
  | then-indexes_fit w ↦
      by_values _ _ c.indexes_fit.ensures w.if-indexes_fit.true w.p_fits.ensures (sym w.value-is ∙ c.if-p_fits.true) c.endpoints_fit.ensures
  | else-indexes_fit w ↦ absurd (true≢false (sym c.if-p_fits.true ∙ w.value-is ∙ w.if-indexes_fit.false))
]

pub returns-else-p_fits : goal.returns-else-p_fits
returns-else-p_fits c = elim c.if-indexes_fit.branch [
  | then-indexes_fit w ↦
      c.if-p_fits.false
      ∙ no_p _ _ c.indexes_fit.ensures w.if-indexes_fit.true w.p_fits.ensures (sym w.value-is ∙ c.if-p_fits.false)
  | else-indexes_fit w ↦ c.if-p_fits.false ∙ no_index _ _ c.indexes_fit.ensures w.if-indexes_fit.false
]
