-- `sets::word_of` meets its contract.
-- Assumes nothing.
use mathlib.Core.Path.{◌≡◌}
use native.Mathlib.Omega.{arith}
use Rattle.indexes.proofs.sets.Words.{Next, upper_all, upper_next}
use Rattle.indexes.proofs.sets.word_of.Goals as goal
use Rattle.indexes.proofs.sets.word_of.Goals.{In-loop-i}

step : (c : In-loop-i)
    → Next c.args.width c.args.indexes c.loop-i.i c.loop-i.word
step c =
    let s = c.before in
    upper_next _ _ s.requires.fits s.requires.most c.loop-i.i c.loop-i.word (omega arith) c.loop-i.invariant.0
    c.loop-i.invariant.1

pub overflow_add-word : goal.overflow_add-word
overflow_add-word c = record { fits = (step c).0 }

pub loop-i-preserved : goal.loop-i-preserved
loop-i-preserved c = (omega arith, (step c).1)

pub returns : goal.returns
returns c = upper_all _ _ c.requires.fits _ (let z : c.loop-i.i ≡ 0 = omega arith in rw z at c.loop-i.invariant.1)
