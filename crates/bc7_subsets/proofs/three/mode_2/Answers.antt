-- Mode 2: three subsets, no p bits.
-- Assumes nothing.
use mathlib.Core.Path.{◌≡◌, refl, sym, ap}
use native.Mathlib.Omega.{arith}
use Rattle.bc7_format.specs.declared.Split.TheVariants.{Three}
use Rattle.bcn_format.specs.Block.{field}
use Rattle.bc7_format.specs.Modes.{endpoint_count, kind_of_mode, mode_row}
use Rattle.bc7_format.specs.Splits.{split_at}
use Rattle.bits.specs.Stream.{held}
use Rattle.bits.proofs.On.{On, got, on_read}
use Rattle.bc7_fields.specs.Fields.{lead_end, p_start, value_start}
use Rattle.bc7_fields.specs.Painting.{solid}
use Rattle.bc7_drawing.specs.Words.{plain}
use Rattle.bc7_fields.proofs.Ends.{opaque_shown}
use Rattle.bc7_subsets.proofs.Palettes.{three_palette}
use Rattle.bc7_subsets.proofs.Laws.{anchored_3, three_keys}
use Rattle.bc7_subsets.proofs.three.mode_2.Goals as goal
use Rattle.bc7_subsets.proofs.three.mode_2.Goals.{After-extract_partition_set_id-id, After-take-b2, After-take-g2}

-- where the stream stands behind the sixth read of values, and behind the last
behind_6 : (c : After-take-g2) → c.take-g2.result.stream.at ≡ 69
behind_6 c = omega arith

behind : (c : After-take-b2) → c.take-b2.result.stream.at ≡ 99
behind c = omega (arith, behind_6 c.before.before.before.before.before.before)

-- the number of the partition
abbrev number : After-take-b2 → After-extract_partition_set_id-id
number c = c.before.before.before.before.before.before.before.before.before.before.before.before.before.before.before.before.before.before

pub indexes_3-x-requires : goal.indexes_3-x-requires
indexes_3-x-requires c =
    let last = c in
    let id = (number c.before.before.before.before.before.before).extract_partition_set_id-id.ensures in
    anchored_3 (omega (arith, id.small)) (omega arith) (omega arith) c.partition_word_3_2-set.ensures (omega (arith, behind c.before.before.before.before.before.before))

pub returns : goal.returns
unfolding split_at kind_of_mode mode_row endpoint_count field value_start p_start lead_end
returns c =
    let set = c in
    let colours = set in
    let at-b2 = colours in
    let at-b1 = at-b2 in
    let at-b0 = at-b1 in
    let at-g2 = at-b0 in
    let at-g1 = at-g2 in
    let at-g0 = at-g1 in
    let at-r2 = at-g0 in
    let at-r1 = at-r2 in
    let at-r0 = at-r1 in
    let at-id = at-r0 in
    let id = at-id.extract_partition_set_id-id.ensures in
    let s = at-id in
    let n = held s.args.stream in
    let start : On n 3 s.args.stream = record { of = refl; stands = s.requires } in
    let on-r0 = on_read start 6 id.same in
    let r0 = at-r0.take-r0.ensures.same in
    let on-r1 = on_read on-r0 10 r0 in
    let r1 = at-r1.take-r1.ensures.same in
    let on-r2 = on_read on-r1 10 r1 in
    let r2 = at-r2.take-r2.ensures.same in
    let on-g0 = on_read on-r2 10 r2 in
    let g0 = at-g0.take-g0.ensures.same in
    let on-g1 = on_read on-g0 10 g0 in
    let g1 = at-g1.take-g1.ensures.same in
    let on-g2 = on_read on-g1 10 g1 in
    let g2 = at-g2.take-g2.ensures.same in
    let on-b0 = on_read on-g2 10 g2 in
    let b0 = at-b0.take-b0.ensures.same in
    let on-b1 = on_read on-b0 10 b0 in
    let b1 = at-b1.take-b1.ensures.same in
    let on-b2 = on_read on-b1 10 b1 in
    let b2 = at-b2.take-b2.ensures.same in
    let on-x = on_read on-b2 10 b2 in
    three_keys 2 n 2 (omega arith) refl (omega arith) (omega arith) (omega (arith, id.small)) on-x (ap Three (sym (got start 6 id.same)))
    set.partition_word_3_2-set.ensures c.indexes_3-x.ensures c.both_keys.ensures
    (three_palette 2 n 2 (λ x. solid (plain 5 x)) _ _ colours.opaque.ensures
    (opaque_shown 2 n {l = 0} {a = 0} {p = 0} refl
    (record { red = got on-r0 10 r0; green = got on-g0 10 g0; blue = got on-b0 10 b0 })
    refl refl)
    (opaque_shown 2 n {l = 1} {a = 0} {p = 0} refl
    (record { red = got on-r1 10 r1; green = got on-g1 10 g1; blue = got on-b1 10 b1 })
    refl refl)
    _ _ colours.opaque-2.ensures
    (opaque_shown 2 n {l = 2} {a = 0} {p = 0} refl
    (record { red = got on-r2 10 r2; green = got on-g2 10 g2; blue = got on-b2 10 b2 })
    refl refl)
    colours.palette_of_three-colours.ensures)
    c.paint.ensures
