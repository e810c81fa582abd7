-- `lay` meets its contract.
-- Assumes nothing.
use mathlib.Core.Path.{◌∙◌, ap, sym}
use mathlib.Core.List.{List, ◌++◌}
use Prim.Native.Nat.{ℕ}
use lib.ListN.{drop}
use Rattle.head_rules.specs.Answers.{known}
use Rattle.moves.proofs.Laying.{blocks_room, count_in, count_room, head_fits, laid, part_long, room_long}
use Rattle.moves.proofs.lay.Goals as goal

pub slice_bounds-copy_from_slice-end : goal.slice_bounds-copy_from_slice-end
slice_bounds-copy_from_slice-end c = head_fits _ _ c.write_form-written.ensures c.args.sheet.now c.args.out.now c.requires

pub slice_bounds-copy_from_slice-end-2 : goal.slice_bounds-copy_from_slice-end-2
slice_bounds-copy_from_slice-end-2 c = room_long _ _ c.write_form-written.ensures c.args.sheet.now c.args.out.now c.requires

pub slice_bounds-bytes-end : goal.slice_bounds-bytes-end
slice_bounds-bytes-end c = count_room _ (known c.args.head) c.write_form-written.ensures

pub slice_bounds-copy_from_slice-end-3 : goal.slice_bounds-copy_from_slice-end-3
slice_bounds-copy_from_slice-end-3 c = part_long _ (known c.args.head) c.write_form-written.ensures

pub copy_from_slice-requires : goal.copy_from_slice-requires
copy_from_slice-requires c =
    sym (room_long _ _ c.write_form-written.ensures c.args.sheet.now c.args.out.now c.requires)
    ∙ part_long _ (known c.args.head) c.write_form-written.ensures

pub slice_bounds-move_blocks-count : goal.slice_bounds-move_blocks-count
slice_bounds-move_blocks-count c =
    count_in _ _ c.write_form-written.ensures c.args.sheet.now c.args.out.now c.requires
    (ap (λ (t : List ℕ). t ++ drop c.write_form-written.result.count c.args.out.now) c.copy_from_slice.ensures.after)

pub slice_bounds-move_blocks-start : goal.slice_bounds-move_blocks-start
slice_bounds-move_blocks-start c =
    count_in _ _ c.write_form-written.ensures c.args.sheet.now c.args.out.now c.requires
    (ap (λ (t : List ℕ). t ++ drop c.write_form-written.result.count c.args.out.now) c.copy_from_slice.ensures.after)

pub move_blocks-requires : goal.move_blocks-requires
move_blocks-requires c =
    blocks_room _ _ c.write_form-written.ensures c.args.sheet.now c.args.out.now c.requires
    (ap (λ (t : List ℕ). t ++ drop c.write_form-written.result.count c.args.out.now) c.copy_from_slice.ensures.after)

pub returns : goal.returns
returns c =
    laid _ _ c.write_form-written.ensures c.args.sheet.now c.args.out.now c.requires
    (ap (λ (t : List ℕ). t ++ drop c.write_form-written.result.count c.args.out.now) c.copy_from_slice.ensures.after) c.move_blocks.ensures
