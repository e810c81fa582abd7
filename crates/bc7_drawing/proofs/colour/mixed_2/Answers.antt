-- One colour at two weights.
-- Assumes nothing.
use native.Mathlib.Omega.{arith}
use borrow.Author.Rules.{rules}
use Rattle.bc7_drawing.proofs.colour.Mixing.{mixed_2_word, Steps, steps_2}
use Rattle.bc7_drawing.proofs.colour.mixed_2.Goals as goal
use Rattle.bc7_drawing.proofs.colour.mixed_2.Goals.{Start}

on : (s : Start) → Steps 0x0100_0000_0100 s.args.weights s.args.e0 s.args.e1
on s = steps_2 s.args.weights s.args.e0 s.args.e1 (search rules) (search rules) s.requires

pub overflow_mul-result : goal.overflow_mul-result
overflow_mul-result c = omega (arith, on c)

pub overflow_add-result : goal.overflow_add-result
overflow_add-result c = record { fits = (on c).halves }

pub overflow_mul-result-2 : goal.overflow_mul-result-2
overflow_mul-result-2 c = omega (arith, on c)

pub overflow_mul-result-3 : goal.overflow_mul-result-3
overflow_mul-result-3 c = record { fits = (on c).times }

pub overflow_add-result-2 : goal.overflow_add-result-2
overflow_add-result-2 c = record { fits = (on c).whole }

pub returns : goal.returns
returns c = mixed_2_word c.args.weights c.args.e0 c.args.e1 (search rules) (search rules) c.requires
