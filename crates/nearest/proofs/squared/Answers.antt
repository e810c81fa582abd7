-- `squared` meets its contract.
-- Assumes nothing.
use Prim.Native.Nat.{◌-◌}
use native.Mathlib.Omega.{arith}
use Rattle.nearest.proofs.Numbers.{square_lt, squared_down, squared_up}
use Rattle.nearest.proofs.squared.Goals as goal

pub returns-then-a-b : goal.returns-then-a-b
returns-then-a-b c = record { is = squared_up _ _ c.if-a-b.true; low = square_lt (c.args.b - c.args.a) (omega arith) }

pub returns : goal.returns
returns c = record { is = squared_down _ _ c.if-a-b.false; low = square_lt (c.args.a - c.args.b) (omega arith) }
