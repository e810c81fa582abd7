-- `fits::p_fits` meets its contract.
-- Assumes nothing.
use mathlib.Core.Path.{◌≡◌}
use mathlib.Core.Bool.{Bool, true}
use mathlib.Core.List.{List}
use Prim.Native.Nat.{ℕ, ◌^◌}
use lib.Dec.{ltb}
use lib.ListN.{get_or}
use Rattle.laws.specs.Tables.{below, pick}
use Rattle.bc7_modes.specs.declared.ModeRow.{ModeRow}
use Rattle.record.proofs.fits.p_fits.Given as goal

-- p bit k fits
abbrev pub test : ModeRow → List ℕ → ℕ → Bool
test row p k = ltb (get_or p k 0) (2 ^ pick (ltb k row.p) 1 0)

abbrev pub invariant-loop-k : goal.invariant-loop-k
invariant-loop-k l = below l.k (test l.row l.fn.p) ≡ true
