-- `all_pass` meets its contract: up to a pixel all have passed.
-- Assumes nothing.
use mathlib.Core.Path.{◌≡◌}
use mathlib.Core.Bool.{true}
use Rattle.laws.specs.Tables.{below}
use Rattle.opacity.specs.Drawn.{drawn_passes}
use Rattle.opacity.proofs.all_pass.Given as goal

abbrev pub invariant-loop-q : goal.invariant-loop-q
invariant-loop-q l = below l.q (drawn_passes l.fn.columns l.fn.rows l.fn.drawn) ≡ true
