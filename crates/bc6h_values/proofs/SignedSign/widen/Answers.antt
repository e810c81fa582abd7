-- A signed value of fewer bits as sixteen.
-- Assumes nothing.
use Rattle.std.proofs.Common.{◌-◌, ◌^◌, ◌≤◌, arith, pow_pos, pow_mono}
use Rattle.bc6h_format.specs.Widening.{widened}
use Rattle.bc6h_values.proofs.Widths.{half_there, halves, room, signed_law, whole, within}
use Rattle.bc6h_values.proofs.SignedSign.widen.Goals as goal

pub from_lowest-x-requires : goal.from_lowest-x-requires
from_lowest-x-requires c =
    let w = c.args.width in
    let p : 2 ^ (w - 1) ≤ 16384 = pow_mono {i = w - 1} {j = 14} (let m = c.requires.most in omega arith) in
    let q = whole c.args.v w c.requires 0 in
    let f = c.requires.fits in
    (omega (arith, p, c.power-zero.ensures), omega (arith, q, f, c.power-zero.ensures))

pub lifted-moved-requires : goal.lifted-moved-requires
lifted-moved-requires c =
    let w = c.args.width in
    let x = c.from_lowest-x.result in
    let r = room w x (let m = c.requires.most in omega arith)
    (within c.args.v w c.requires x (rw c.power-zero.ensures at c.from_lowest-x.ensures)) in
    let p = pow_pos (16 - w) in
    let l = c.requires.least in
    (omega (arith, l), omega (arith, r, p))

pub overflow_sub-below : goal.overflow_sub-below
overflow_sub-below c =
    rw (c.chosen.ensures, c.lifted-moved.ensures, c.power-half.ensures)
    (half_there _ _ _ (let q = halves c.args.width (let m = c.requires.most in omega arith) in omega (arith, q)))

pub overflow_add-zero : goal.overflow_add-zero
overflow_add-zero c =
    let w = c.args.width in
    let p : 2 ^ (w - 1) ≤ 16384 = pow_mono {i = w - 1} {j = 14} (let m = c.requires.most in omega arith) in
    record { fits = omega (arith, p, c.power-zero.ensures) }

pub overflow_sub-zero : goal.overflow_sub-zero
overflow_sub-zero c =
    let p = pow_pos (c.args.width - 1) in
    omega (arith, p, c.power-zero.ensures)

pub overflow_add-moved : goal.overflow_add-moved
overflow_add-moved c =
    let w = c.args.width in
    let x = c.from_lowest-x.result in
    let r = room w x (let m = c.requires.most in omega arith)
    (within c.args.v w c.requires x (rw c.power-zero.ensures at c.from_lowest-x.ensures)) in
    let q = halves w (let m = c.requires.most in omega arith) in
    let p = pow_pos (15 - w) in
    record { fits = omega (arith, r, q, p, c.lifted-moved.ensures, c.power-half.ensures) }

pub returns : goal.returns
unfolding widened
returns c =
    let w = c.args.width in
    rw (
      c.chosen-3.ensures,
      c.chosen-2.ensures,
      c.chosen-away.ensures,
      c.chosen-above.ensures,
      c.chosen.ensures,
      c.lifted-moved.ensures,
      c.power-zero.ensures,
      c.power-half.ensures,
    )
    (signed_law c.args.v w c.requires c.from_lowest-x.result (rw c.power-zero.ensures at c.from_lowest-x.ensures))
