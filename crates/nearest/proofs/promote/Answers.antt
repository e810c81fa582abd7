-- `promote` meets its contract.
-- Assumes nothing.
use mathlib.Core.Path.{◌≡◌, refl}
use Prim.Native.Nat.{◌-◌, ◌*◌, ◌%◌, ◌^◌, ◌<◌}
use native.Mathlib.Omega.{arith}
use Rattle.bcn_format.specs.Drawing.{promoted}
use Rattle.bcn_format.proofs.Drawing.{promoted_lt}
use Rattle.nearest.proofs.Numbers.{shifted}
use Rattle.nearest.proofs.promote.Goals as goal
use Rattle.nearest.proofs.promote.Goals.{Start}

top : (c : Start) → (c.args.value * 2 ^ (8 - c.args.bits)) % 2 ^ 32 ≡ c.args.value * 2 ^ (8 - c.args.bits)
top c = shifted c.args.bits c.args.value (8 - c.args.bits) (omega arith) c.requires.value

byte : (c : Start) → promoted c.args.bits c.args.value < 256
byte c = promoted_lt c.args.bits c.args.value c.requires.most c.requires.value

pub returns : goal.returns
unfolding promoted
returns c = rw (top c) (record { is = refl; low = byte c })
