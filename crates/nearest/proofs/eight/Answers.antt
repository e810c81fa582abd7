-- `eight` meets its contract.
-- Assumes nothing.
use mathlib.Core.Path.{◌≡◌}
use Prim.Native.Nat.{◌+◌, ◌*◌, ◌%◌, ◌^◌, ◌<◌}
use Rattle.nearest.proofs.Numbers.{with_p_holds, shifted}
use Rattle.nearest.proofs.eight.Goals as goal
use Rattle.nearest.proofs.eight.Goals.{Start}

left : (c : Start) → (c.args.value * 2 ^ c.args.p_width) % 2 ^ 32 ≡ c.args.value * 2 ^ c.args.p_width
left c = shifted c.args.width c.args.value c.args.p_width c.requires.most c.requires.value

whole : (c : Start) → c.args.value * 2 ^ c.args.p_width + c.args.p < 2 ^ (c.args.width + c.args.p_width)
whole c = with_p_holds c.args.width c.args.value c.args.p_width c.args.p c.requires.value c.requires.p

pub promote-requires : goal.promote-requires
promote-requires c = record { least = c.requires.least; most = c.requires.most; value = rw (left c) (whole c) }
