-- `float_of`: the bits are no pattern of a NaN.
-- Assumes nothing.
use Prim.Native.Nat.{◌%◌, ◌^◌}
use borrow.Author.Tests.{le-ltb}
use lib.Ieee.{binary32}
use lib.Ieee.Bits.{nan_bits_above}
use Rattle.replay.proofs.float_of.Goals as goal

pub float_from_bits-result : goal.float_from_bits-result
float_from_bits-result c =
    let b = c.args.bits in
    rw (nan_bits_above binary32 b, le-ltb 0x7f80_0000 (b % 2 ^ 31) c.if-bits-gt2139095040.false) tt
