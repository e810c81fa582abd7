-- Four channels in the proportion of a weight.
-- Assumes nothing.
use native.Mathlib.Omega.{arith}
use borrow.Author.Rules.{rules}
use Rattle.bc7_drawing.proofs.colour.Mixing.{mixed_word, Steps, steps}
use Rattle.bc7_drawing.proofs.colour.mixed.Goals as goal
use Rattle.bc7_drawing.proofs.colour.mixed.Goals.{Start}

on : (s : Start) → Steps 256 s.args.weight s.args.e0 s.args.e1
on s = steps s.args.weight s.requires.weight s.args.e0 s.args.e1 (search rules) (search rules) s.requires.first s.requires.second

pub overflow_mul-result : goal.overflow_mul-result
overflow_mul-result c = omega (arith, on c)

pub overflow_add-result : goal.overflow_add-result
overflow_add-result c = record { fits = (on c).halves }

pub overflow_mul-result-2 : goal.overflow_mul-result-2
overflow_mul-result-2 c = omega (arith, on c)

pub overflow_mul-result-3 : goal.overflow_mul-result-3
overflow_mul-result-3 c = record { fits = (on c).times }

pub overflow_add-result-2 : goal.overflow_add-result-2
overflow_add-result-2 c = record { fits = (on c).whole }

pub returns : goal.returns
returns c = mixed_word c.args.weight c.requires.weight c.args.e0 c.args.e1 (search rules) (search rules) c.requires.first c.requires.second
