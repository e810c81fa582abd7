-- `move_blocks` meets its contract.
-- Assumes nothing.
use mathlib.Core.Path.{◌≡◌, ◌∙◌, subst}
use Prim.Native.Nat.{ℕ, ◌*◌, ◌<◌}
use native.Mathlib.Omega.{arith}
use Rattle.head_rules.specs.Geometry.{across}
use Rattle.head_rules.specs.Answers.{Head, known}
use Rattle.moves.specs.Rooms.{MovesBlocks}
use Rattle.moves.proofs.Steps.{Counted, Moved, all_moved, all_of, block_there, moved_on, stored_within}
use Rattle.moves.proofs.move_blocks.Goals as goal

-- columns and rows are counted
counted : {h : Head} {n m x y : ℕ} → MovesBlocks h n m → x ≡ across h.width → y ≡ across h.height → Counted h x y
counted k x y = record { size = k.size; columns_are = x; rows_are = y }

pub load-block-requires : goal.load-block-requires
load-block-requires c =
    let k = counted c.requires c.blocks_across-columns.ensures c.blocks_across-rows.ensures in
    block_there k c.requires.whole c.stored_by.ensures.inside

pub store-requires : goal.store-requires
store-requires c =
    let k = counted c.requires c.blocks_across-columns.ensures c.blocks_across-rows.ensures in
    omega (arith, c.loop-b.invariant.1.long, stored_within k c.stored_by-in-loop-b.ensures.inside)

pub loop-b-preserved : goal.loop-b-preserved
loop-b-preserved c =
    let k = counted c.requires c.blocks_across-columns.ensures c.blocks_across-rows.ensures in
    let h : c.loop-b.b < c.blocks_across-rows.result * c.blocks_across-columns.result = omega arith in (
      omega (arith, h),
      moved_on k c.args.sheet.now h c.stored_by.ensures c.args.form c.load-block.ensures
          c.stored_by-in-loop-b.ensures c.loop-b.invariant.1 c.store.ensures,
    )

pub returns : goal.returns
returns c =
    let k = counted c.requires c.blocks_across-columns.ensures c.blocks_across-rows.ensures in
    let e : c.loop-b.b ≡ c.blocks_across-rows.result * c.blocks_across-columns.result = omega arith in
    all_moved c.args.form (known c.args.head) c.args.sheet.now
    (subst (λ (b : ℕ). Moved c.args.form (known c.args.head) c.args.sheet.now b c.loop-b.to) (e ∙ all_of k)
    c.loop-b.invariant.1)
