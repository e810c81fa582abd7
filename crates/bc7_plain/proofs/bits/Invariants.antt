-- `bits` meets its contract by taking one bit after the other from the top.
-- Assumes nothing.
use mathlib.Core.Path.{◌≡◌}
use Prim.Native.Nat.{◌+◌, ◌-◌}
use Rattle.bcn_format.specs.Block.{field, number}
use Rattle.bc7_plain.proofs.bits.Given as goal

abbrev pub invariant-loop-next : goal.invariant-loop-next
invariant-loop-next l = l.sum ≡ field (number l.block) (l.start + l.next) (l.width - l.next)
