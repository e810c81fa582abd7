-- `place` meets its contract.
-- Assumes nothing.
use mathlib.Core.Path.{◌≡◌}
use Prim.Native.Nat.{◌+◌}
use lib.ListN.{drop}
use Rattle.pixel_rules.specs.Strings.{place_in}
use Rattle.bc7_plain.proofs.strings.place.Given as goal

abbrev pub invariant-loop-k : goal.invariant-loop-k
invariant-loop-k l = place_in l.string l.pixel ≡ l.k + place_in (drop l.k l.string) l.left
