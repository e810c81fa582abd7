-- The colours of two indexes.
-- Assumes nothing.
use Rattle.bc7_unpartitioned.proofs.Crossing.{pair, two_between}
use Rattle.bc7_unpartitioned.proofs.shades.Goals as goal
use Rattle.bc7_unpartitioned.proofs.shades.Goals.{Start}

pub overflow_add-weight_256 : goal.overflow_add-weight_256
overflow_add-weight_256 c =
    let s = c in
    let w = pair s.args.bits s.args.k s.requires.indexes c.weight_256.ensures c.weight_256-2.ensures in
    record { fits = w.fits }

pub two_shades-requires : goal.two_shades-requires
two_shades-requires c =
    let s = c in
    let w = pair s.args.bits s.args.k s.requires.indexes c.weight_256.ensures c.weight_256-2.ensures in
    record { weights = record { low = w.low_256; high = w.high_256 }; ends = s.requires.ends }

pub returns : goal.returns
returns c =
    let s = c in
    two_between s.args.bits s.args.k s.requires.indexes c.weight_256.ensures c.weight_256-2.ensures
    s.args.e c.two_shades.ensures
