-- Mode 0: three subsets, and a p bit for each endpoint.
-- Assumes nothing.
use mathlib.Core.Path.{◌≡◌, refl, sym, ap}
use native.Mathlib.Omega.{arith}
use Rattle.bc7_format.specs.declared.Split.TheVariants.{Three}
use Rattle.bcn_format.specs.Block.{field}
use Rattle.bc7_format.specs.Modes.{endpoint_count, kind_of_mode, mode_row}
use Rattle.bc7_format.specs.Splits.{split_at}
use Rattle.bits.specs.Stream.{held}
use Rattle.bits.proofs.On.{On, got, on_read}
use Rattle.bc7_fields.specs.Fields.{lead_end, p_start, value_start}
use Rattle.bc7_fields.specs.Painting.{solid}
use Rattle.bc7_drawing.specs.Words.{with_p}
use Rattle.bc7_fields.proofs.Ends.{opaque_p_shown, two_ps}
use Rattle.bc7_subsets.proofs.Palettes.{three_palette}
use Rattle.bc7_subsets.proofs.Laws.{anchored_3, three_keys}
use Rattle.bc7_subsets.proofs.three.mode_0.Goals as goal
use Rattle.bc7_subsets.proofs.three.mode_0.Goals.{After-extract_partition_set_id-id, After-take-g2, After-take-p2}

-- where the stream stands behind the sixth read of values, and behind the last
behind_6 : (c : After-take-g2) → c.take-g2.result.stream.at ≡ 53
behind_6 c = omega arith

behind : (c : After-take-p2) → c.take-p2.result.stream.at ≡ 83
behind c = omega (arith, behind_6 c.before.before.before.before.before.before.before.before.before.before.before.before)

-- the number of the partition
abbrev number : After-take-p2 → After-extract_partition_set_id-id
number c = c.before.before.before.before.before.before.before.before.before.before.before.before.before.before.before.before.before.before.before.before.before.before.before.before

pub indexes_3-x-requires : goal.indexes_3-x-requires
indexes_3-x-requires c =
    let last = c in
    let id = (number c.before.before.before.before.before.before).extract_partition_set_id-id.ensures in
    anchored_3 (omega (arith, id.small)) (omega arith) (omega arith) c.partition_word_3_3-set.ensures (omega (arith, behind c.before.before.before.before.before.before))

pub returns : goal.returns
unfolding split_at kind_of_mode mode_row endpoint_count field value_start p_start lead_end
returns c =
    let set = c in
    let colours = set in
    let at-p2 = colours in
    let at-p1 = at-p2 in
    let at-p0 = at-p1 in
    let at-b2 = at-p0 in
    let at-b1 = at-b2 in
    let at-b0 = at-b1 in
    let at-g2 = at-b0 in
    let at-g1 = at-g2 in
    let at-g0 = at-g1 in
    let at-r2 = at-g0 in
    let at-r1 = at-r2 in
    let at-r0 = at-r1 in
    let at-id = at-r0 in
    let id = at-id.extract_partition_set_id-id.ensures in
    let s = at-id in
    let n = held s.args.stream in
    let start : On n 1 s.args.stream = record { of = refl; stands = s.requires } in
    let on-r0 = on_read start 4 id.same in
    let r0 = at-r0.take-r0.ensures.same in
    let on-r1 = on_read on-r0 8 r0 in
    let r1 = at-r1.take-r1.ensures.same in
    let on-r2 = on_read on-r1 8 r1 in
    let r2 = at-r2.take-r2.ensures.same in
    let on-g0 = on_read on-r2 8 r2 in
    let g0 = at-g0.take-g0.ensures.same in
    let on-g1 = on_read on-g0 8 g0 in
    let g1 = at-g1.take-g1.ensures.same in
    let on-g2 = on_read on-g1 8 g1 in
    let g2 = at-g2.take-g2.ensures.same in
    let on-b0 = on_read on-g2 8 g2 in
    let b0 = at-b0.take-b0.ensures.same in
    let on-b1 = on_read on-b0 8 b0 in
    let b1 = at-b1.take-b1.ensures.same in
    let on-b2 = on_read on-b1 8 b1 in
    let b2 = at-b2.take-b2.ensures.same in
    let on-p0 = on_read on-b2 8 b2 in
    let p0 = at-p0.take-p0.ensures.same in
    let on-p1 = on_read on-p0 2 p0 in
    let p1 = at-p1.take-p1.ensures.same in
    let on-p2 = on_read on-p1 2 p1 in
    let p2 = at-p2.take-p2.ensures.same in
    let on-x = on_read on-p2 2 p2 in
    three_keys 0 n 3 (omega arith) refl (omega arith) (omega arith) (omega (arith, id.small)) on-x (ap Three (sym (got start 4 id.same)))
    set.partition_word_3_3-set.ensures c.indexes_3-x.ensures c.both_keys.ensures
    (three_palette 0 n 3 (λ x. solid (with_p 4 x)) _ _ colours.opaque_p.ensures
    (opaque_p_shown 0 n {l = 0} refl
    (record { red = got on-r0 8 r0; green = got on-g0 8 g0; blue = got on-b0 8 b0 })
    refl (two_ps 0 n 0 refl (got on-p0 2 p0)) refl)
    (opaque_p_shown 0 n {l = 1} refl
    (record { red = got on-r1 8 r1; green = got on-g1 8 g1; blue = got on-b1 8 b1 })
    refl (two_ps 0 n 1 refl (got on-p1 2 p1)) refl)
    _ _ colours.opaque_p-2.ensures
    (opaque_p_shown 0 n {l = 2} refl
    (record { red = got on-r2 8 r2; green = got on-g2 8 g2; blue = got on-b2 8 b2 })
    refl (two_ps 0 n 2 refl (got on-p2 2 p2)) refl)
    colours.palette_of_three-colours.ensures)
    c.paint.ensures
