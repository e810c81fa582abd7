-- Mode 7: two subsets with alpha.
-- Assumes nothing.
use mathlib.Core.Path.{◌≡◌, refl, sym, ap}
use native.Mathlib.Omega.{arith}
use Rattle.bc7_format.specs.declared.Split.TheVariants.{Two}
use Rattle.bcn_format.specs.Block.{field}
use Rattle.bc7_format.specs.Modes.{endpoint_count, kind_of_mode, mode_row}
use Rattle.bc7_format.specs.Splits.{split_at}
use Rattle.bits.specs.Stream.{held}
use Rattle.bits.proofs.On.{On, got, on_read}
use Rattle.bc7_fields.specs.Fields.{lead_end, p_start, value_start}
use Rattle.bc7_drawing.specs.Words.{with_p}
use Rattle.bc7_fields.proofs.Ends.{translucent_p_shown, two_ps}
use Rattle.bc7_subsets.proofs.Palettes.{two_palette}
use Rattle.bc7_subsets.proofs.Laws.{anchored_2, two_keys}
use Rattle.bc7_subsets.proofs.two.mode_7.Goals as goal
use Rattle.bc7_subsets.proofs.two.mode_7.Goals.{After-extract_partition_set_id-id, After-take-b1, After-take-p1}

-- where the stream stands behind the sixth read of values, and behind the last
behind_6 : (c : After-take-b1) → c.take-b1.result.stream.at ≡ 74
behind_6 c = omega arith

behind : (c : After-take-p1) → c.take-p1.result.stream.at ≡ 98
behind c = omega (arith, behind_6 c.before.before.before.before.before.before.before.before)

-- the number of the partition
abbrev number : After-take-p1 → After-extract_partition_set_id-id
number c = c.before.before.before.before.before.before.before.before.before.before.before.before.before.before.before.before.before.before.before.before

pub indexes_2-x-requires : goal.indexes_2-x-requires
indexes_2-x-requires c =
    let last = c in
    let id = (number c.before.before.before.before.before).extract_partition_set_id-id.ensures in
    anchored_2 (omega (arith, id.small)) (omega arith) (omega arith) c.partition_word_2_2-set.ensures (omega (arith, behind c.before.before.before.before.before))

pub returns : goal.returns
unfolding split_at kind_of_mode mode_row endpoint_count field value_start p_start lead_end
returns c =
    let set = c in
    let colours = set in
    let at-p1 = colours in
    let at-p0 = at-p1 in
    let at-a1 = at-p0 in
    let at-a0 = at-a1 in
    let at-b1 = at-a0 in
    let at-b0 = at-b1 in
    let at-g1 = at-b0 in
    let at-g0 = at-g1 in
    let at-r1 = at-g0 in
    let at-r0 = at-r1 in
    let at-id = at-r0 in
    let id = at-id.extract_partition_set_id-id.ensures in
    let s = at-id in
    let n = held s.args.stream in
    let start : On n 8 s.args.stream = record { of = refl; stands = s.requires } in
    let on-r0 = on_read start 6 id.same in
    let r0 = at-r0.take-r0.ensures.same in
    let on-r1 = on_read on-r0 10 r0 in
    let r1 = at-r1.take-r1.ensures.same in
    let on-g0 = on_read on-r1 10 r1 in
    let g0 = at-g0.take-g0.ensures.same in
    let on-g1 = on_read on-g0 10 g0 in
    let g1 = at-g1.take-g1.ensures.same in
    let on-b0 = on_read on-g1 10 g1 in
    let b0 = at-b0.take-b0.ensures.same in
    let on-b1 = on_read on-b0 10 b0 in
    let b1 = at-b1.take-b1.ensures.same in
    let on-a0 = on_read on-b1 10 b1 in
    let a0 = at-a0.take-a0.ensures.same in
    let on-a1 = on_read on-a0 10 a0 in
    let a1 = at-a1.take-a1.ensures.same in
    let on-p0 = on_read on-a1 10 a1 in
    let p0 = at-p0.take-p0.ensures.same in
    let on-p1 = on_read on-p0 2 p0 in
    let p1 = at-p1.take-p1.ensures.same in
    let on-x = on_read on-p1 2 p1 in
    two_keys 7 n 2 (omega arith) refl (omega arith) (omega arith) (omega (arith, id.small)) on-x (ap Two (sym (got start 6 id.same)))
    set.partition_word_2_2-set.ensures c.indexes_2-x.ensures c.both_keys.ensures
    (two_palette 7 n 2 (with_p 5) _ _ colours.translucent_p.ensures
    (translucent_p_shown 7 n {l = 0} refl
    (record { red = got on-r0 10 r0; green = got on-g0 10 g0; blue = got on-b0 10 b0 })
    refl (two_ps 7 n 0 refl (got on-p0 2 p0)) refl (got on-a0 10 a0))
    (translucent_p_shown 7 n {l = 1} refl
    (record { red = got on-r1 10 r1; green = got on-g1 10 g1; blue = got on-b1 10 b1 })
    refl (two_ps 7 n 1 refl (got on-p1 2 p1)) refl (got on-a1 10 a1))
    colours.palette_of_two-colours.ensures)
    c.paint.ensures
