-- `row_floats_call`: the parts that are lent are as long as the call says.
-- Assumes nothing.
use Rattle.std.proofs.Common.{◌*◌, rules, arith}
use lib.Ieee.{binary32, of_bits}
use Rattle.replay.proofs.Prefix.{lent_length, lent_of}
use Rattle.replay.proofs.row_floats_call.Goals as goal

pub slice_bounds-row_floats_of-end-2 : goal.slice_bounds-row_floats_of-end-2
slice_bounds-row_floats_of-end-2 g c = lent_length _ 262144 (search rules)

pub row_floats_of-requires : goal.row_floats_of-requires
row_floats_of-requires g c =
    let m = c.before.before.before.before.before.in_ok-m.m in
    omega (arith, lent_length (4 * m) 262144 (search rules), lent_of (of_bits binary32 0) m 65536 (search rules))
