-- `storing::compressed` meets its contract.
-- Assumes nothing.
use native.Mathlib.Omega.{arith}
use Rattle.indexes.proofs.Remove.{store_1, store_2, store_3}
use Rattle.indexes.proofs.storing.compressed.Goals as goal

pub returns-in-1 : goal.returns-in-1
returns-in-1 c =
    let s = c.requires in
    store_2 _ _ s.width.least s.small s.rising s.fits c.in-1.is c.compress_single_index-second.ensures c.compress_single_index.ensures

pub returns-in-2 : goal.returns-in-2
returns-in-2 c =
    let s = c.requires in
    store_3 _ _ s.width.least s.small s.rising s.fits c.in-2.is c.compress_single_index-third.ensures
    c.compress_single_index-second-in-2.ensures c.compress_single_index-in-2.ensures

pub returns-in_default : goal.returns-in_default
returns-in_default c =
    let s = c.requires in
    store_1 _ _ s.width.least s.small s.rising s.fits (λ e. omega arith) (λ e. omega arith) c.compress_single_index-in_default.ensures
