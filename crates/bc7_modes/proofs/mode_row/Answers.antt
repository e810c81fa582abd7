-- `mode_row` meets its contract.
-- Assumes nothing.
use mathlib.Core.Path.{◌≡◌, ◌∙◌, ap, sym}
use Prim.Native.Nat.{ℕ, suc, ◌<◌, ◌≤◌}
use native.Mathlib.Omega.{arith}
use lib.Arith.{lt_of_le-ne}
use Rattle.bc7_format.specs.Modes.{endpoint_count, kind_of_mode, mode_row}
use Rattle.bc7_modes.specs.declared.ModeRow.{ModeRow}
use Rattle.bc7_modes.specs.Modes.{mode_row_of}
use Rattle.bc7_modes.proofs.mode_row.Goals as goal

-- the row of the mode that was asked for
of : {m k : ℕ} {r : ModeRow} → r ≡ mode_row_of k → m ≡ k → r ≡ mode_row_of m
of e is = e ∙ sym (ap mode_row_of is)

past : {i m : ℕ} → i ≤ m → (m ≡ i → ⊥) → suc i ≤ m
past h ne = lt_of_le-ne h (λ e. ne (sym e))

seven : {m : ℕ} → 7 ≤ m → m < 8 → m ≡ 7
seven a b = omega arith

pub returns-in-0 : goal.returns-in-0
unfolding mode_row kind_of_mode endpoint_count
returns-in-0 c = of {k = 0} c.columns.ensures c.in-0.is

pub returns-in-1 : goal.returns-in-1
unfolding mode_row kind_of_mode endpoint_count
returns-in-1 c = of {k = 1} c.columns-in-1.ensures c.in-1.is

pub returns-in-2 : goal.returns-in-2
unfolding mode_row kind_of_mode endpoint_count
returns-in-2 c = of {k = 2} c.columns-in-2.ensures c.in-2.is

pub returns-in-3 : goal.returns-in-3
unfolding mode_row kind_of_mode endpoint_count
returns-in-3 c = of {k = 3} c.columns-in-3.ensures c.in-3.is

pub returns-in-4 : goal.returns-in-4
unfolding mode_row kind_of_mode endpoint_count
returns-in-4 c = of {k = 4} c.columns-in-4.ensures c.in-4.is

pub returns-in-5 : goal.returns-in-5
unfolding mode_row kind_of_mode endpoint_count
returns-in-5 c = of {k = 5} c.columns-in-5.ensures c.in-5.is

pub returns-in-6 : goal.returns-in-6
unfolding mode_row kind_of_mode endpoint_count
returns-in-6 c = of {k = 6} c.columns-in-6.ensures c.in-6.is

-- the last arm: no other mode is left
pub returns-in_default : goal.returns-in_default
unfolding mode_row kind_of_mode endpoint_count
returns-in_default c =
    let not = c.in_default.in_default-own.rest in
    let from-3 = past (past (past {i = 0} (omega arith) not.0.0.0.0.0.0.1) not.0.0.0.0.0.1) not.0.0.0.0.1 in
    of {k = 7} c.columns-in_default.ensures (seven (past (past (past (past from-3 not.0.0.0.1) not.0.0.1) not.0.1) not.1)
    c.requires)
