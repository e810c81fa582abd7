-- A value of fewer bits as sixteen.
-- Assumes nothing.
use Rattle.std.proofs.Common.{◌-◌, arith, pow_pos}
use Rattle.bc6h_format.specs.Widening.{widened}
use Rattle.bc6h_values.proofs.Widths.{halves, room, unsigned_law}
use Rattle.bc6h_values.proofs.UnsignedSign.widen.Goals as goal

pub lifted-requires : goal.lifted-requires
lifted-requires c =
    let r = room c.args.width c.args.v (let m = c.requires.most in omega arith) c.requires.fits in
    let p = pow_pos (16 - c.args.width) in
    let l = c.requires.least in
    (omega (arith, l), omega (arith, r, p))

pub overflow_add-moved : goal.overflow_add-moved
overflow_add-moved c =
    let r = room c.args.width c.args.v (let m = c.requires.most in omega arith) c.requires.fits in
    let q = halves c.args.width (let m = c.requires.most in omega arith) in
    let p = pow_pos (15 - c.args.width) in
    record { fits = omega (arith, r, q, p, c.lifted.ensures, c.power-half.ensures) }

pub returns : goal.returns
unfolding widened
returns c =
    rw (c.chosen-2.ensures, c.chosen.ensures, c.lifted.ensures, c.power-last.ensures, c.power-half.ensures)
    (unsigned_law c.args.v c.args.width c.requires)
