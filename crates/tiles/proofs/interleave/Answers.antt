-- `tiles::interleave` meets its contract.
-- Assumes nothing.
use mathlib.Core.Path.{◌∙◌, ap₂}
use Prim.Native.Nat.{ℕ, ◌*◌, ◌%◌, ◌^◌}
use lib.Bits.{bit_or}
use Rattle.tiles.proofs.Bits.{woven_is, woven_slot}
use Rattle.tiles.proofs.interleave.Goals as goal

pub returns : goal.returns
returns c =
    ap₂ (λ (y x : ℕ). bit_or (y * 2 ^ 1 % 2 ^ 8) x) c.apart.ensures c.apart-2.ensures
    ∙ woven_is c.args.column c.args.row
    ∙ woven_slot c.args.column c.args.row
