-- `bytes_of` meets its contract.
-- Assumes nothing.
use Prim.Native.Nat.{◌*◌}
use Rattle.laws.proofs.Filled.{Filled}
use Rattle.dds_rules.specs.Header.{bytes_in}
use Rattle.dds.proofs.bytes_of.Given as goal

abbrev pub invariant-loop-i : goal.invariant-loop-i
invariant-loop-i l = Filled 148 0 (bytes_in l.fn.numbers) (4 * l.i) l.bytes
