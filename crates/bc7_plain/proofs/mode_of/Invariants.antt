-- `mode_of` meets its contract.
-- Assumes nothing.
use mathlib.Core.Path.{◌≡◌}
use Prim.Native.Nat.{◌+◌, ◌-◌, ◌/◌, ◌^◌}
use lib.ListN.{get_or}
use Rattle.bcn_format.specs.Block.{trailing}
use Rattle.bc7_plain.proofs.mode_of.Given as goal

abbrev pub invariant-loop-number : goal.invariant-loop-number
invariant-loop-number l = trailing 8 (get_or l.block 0 0) ≡ l.number + trailing (8 - l.number) (get_or l.block 0 0 / 2 ^ l.number)
