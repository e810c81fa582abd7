-- `writing::joined` meets its contract.
-- Assumes nothing.
use mathlib.Core.Path.{◌≡◌}
use Prim.Native.Nat.{◌+◌, ◌*◌}
use native.Mathlib.Omega.{arith}
use lib.ListN.{get_or}
use Rattle.bcn_format.proofs.Expanding.{times_width}
use Rattle.laws.proofs.Downwards.{Step, down_all, down_next}
use Rattle.record.proofs.writing.joined.Goals as goal
use Rattle.record.proofs.writing.joined.Goals.{In-loop-k}

step : (c : In-loop-k)
    → Step c.args.width c.args.count
    (λ i. get_or c.args.values.now (c.args.step * i + c.args.from) 0) c.loop-k.k c.loop-k.word
step c =
    down_next _ _ _ c.requires.values (omega (arith, times_width c.args.width c.args.count 6 c.requires.count)) c.loop-k.k
    c.loop-k.word (omega arith) c.loop-k.auto.k c.loop-k.invariant

pub overflow_add-word-in-loop-k : goal.overflow_add-word-in-loop-k
overflow_add-word-in-loop-k c = record { fits = (step (goal.at.overflow_add-word-in-loop-k c).In-loop-k).0 }

pub loop-k-preserved : goal.loop-k-preserved
loop-k-preserved c = (step (goal.at.loop-k-preserved c).In-loop-k).1

pub returns : goal.returns
returns c = down_all _ _ _ c.requires.values _ (let z : c.loop-k.k ≡ 0 = omega arith in rw z at c.loop-k.invariant)
