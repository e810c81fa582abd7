-- `writing::joined` meets its contract.
-- Assumes nothing.
use Prim.Native.Nat.{◌+◌, ◌*◌}
use lib.ListN.{get_or}
use Rattle.laws.proofs.Downwards.{Down}
use Rattle.record.proofs.writing.joined.Given as goal

abbrev pub invariant-loop-k : goal.invariant-loop-k
invariant-loop-k l = Down l.width l.count (λ i. get_or l.values (l.step * i + l.from) 0) l.k l.word
