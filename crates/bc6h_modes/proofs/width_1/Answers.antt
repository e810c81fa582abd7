-- How many bits the endpoints of a mode have.
-- Assumes nothing.
use mathlib.Core.Path.{refl}
use native.Mathlib.Omega.{arith}
use Rattle.bc6h_format.specs.Modes.{row_of, rows}
use Rattle.bc6h_modes.proofs.Numbers.{is_15}
use Rattle.bc6h_modes.proofs.width_1.Goals as goal

pub returns-in-3 : goal.returns-in-3
unfolding row_of rows
returns-in-3 c = rw c.in-3.is refl

pub returns-in-7 : goal.returns-in-7
unfolding row_of rows
returns-in-7 c = rw c.in-7.is refl

pub returns-in-11 : goal.returns-in-11
unfolding row_of rows
returns-in-11 c = rw c.in-11.is refl

pub returns-in_default : goal.returns-in_default
unfolding row_of rows
returns-in_default c = rw (is_15 c.args.mode c.requires (omega arith) (omega arith) (omega arith)) refl
