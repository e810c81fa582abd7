-- `fits::pair` meets its contract.
-- Assumes nothing.
use mathlib.Core.Path.{◌∙◌}
use native.Mathlib.Nat.{add-zero}
use Rattle.laws.specs.Tables.{table, table_from}
use Rattle.record.proofs.fits.pair.Goals as goal

pub returns : goal.returns
unfolding table table_from
returns c = c.word.ensures ∙ rw (add-zero c.args.at)
