-- `Indexes::from_compressed` meets its contract.
-- Assumes nothing.
use mathlib.Core.Path.{refl}
use native.Mathlib.Omega.{arith}
use Rattle.std.proofs.lemmas.List.{drop_more}
use lib.ListN.{drop_of_length-le, length}
use Prim.Native.Nat.{◌≤◌}
use Rattle.indexes.proofs.Anchoring.{all_inserted, insert_next, insertable}
use Rattle.indexes.proofs.Indexes.from_compressed.Goals as goal

pub loop-fixup-init : goal.loop-fixup-init
loop-fixup-init g c =
    let s = c in
    insert_next s.args.bits s.requires.anchors.width 0 s.args.fixups (omega arith) s.requires.anchors.rising s.requires.enough refl
    c.decompress_single_index-uncompressed.ensures

pub decompress_single_index-uncompressed-requires-in-loop-fixup :
    goal.decompress_single_index-uncompressed-requires-in-loop-fixup
decompress_single_index-uncompressed-requires-in-loop-fixup g c =
    let s = c in
    let a = rw (drop_more s.args.fixups c.loop-fixup.fixup-index 0 (omega arith)) at c.loop-fixup.invariant in
    insertable s.args.bits s.requires.anchors.width _ _ a.rising.1 a.rising.2 a.room

pub loop-fixup-preserved : goal.loop-fixup-preserved
loop-fixup-preserved g c =
    let s = c in
    let a = rw (drop_more s.args.fixups c.loop-fixup.fixup-index 0 (omega arith)) at c.loop-fixup.invariant in
    insert_next s.args.bits s.requires.anchors.width _ _ a.rising.1 a.rising.2 a.room a.same
    c.decompress_single_index-uncompressed-in-loop-fixup.ensures

pub returns : goal.returns
returns g c =
    let all : length c.args.fixups ≤ c.loop-fixup.fixup-index = omega arith in
    let a = rw (drop_of_length-le c.args.fixups all) at c.loop-fixup.invariant in
    rw (all_inserted c.args.bits c.requires.anchors.width a)
