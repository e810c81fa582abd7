-- `put_places` meets its contract.
-- Assumes nothing.
use native.Mathlib.Omega.{arith}
use Rattle.laws.proofs.Padding.{written_long}
use Rattle.bc7_format.proofs.Places.{inside_place_at}
use Rattle.chart.proofs.Walk.{at_most, bit_low, few, next_low, walked_all, walked_more, walked_none}
use Rattle.chart.proofs.put_places.Goals as goal

pub anchors_of-anchors-requires : goal.anchors_of-anchors-requires
anchors_of-anchors-requires c = few _ _ c.requires.of_mode_is

pub loop-number-init : goal.loop-number-init
loop-number-init c = λ t o e. walked_none _ t _

pub put_field-at-requires : goal.put_field-at-requires
put_field-at-requires c =
    let w = c.loop-number.invariant c.args.split c.requires.of_mode_is c.anchors_of-anchors.ensures in
    let there = inside_place_at c.loop-number.number (omega arith) in
    record {
      there = rw c.place_at-place.ensures there;
      starts = omega (arith, w.stands, bit_low _ _ c.requires.of_mode_is _ w.within);
      ends =
          omega (
            arith,
            next_low _ _ _ c.requires.of_mode_is (omega arith) w c.anchors_of-anchors.ensures c.place_at-place.ensures c.width_of-width.ensures,
          );
      fits = omega (arith, at_most _ _ _ c.requires.of_mode_is w, written_long w.text, c.requires.fits);
    }

pub overflow_add-bit : goal.overflow_add-bit
overflow_add-bit c =
    let w = c.loop-number.invariant c.args.split c.requires.of_mode_is c.anchors_of-anchors.ensures in
    omega (
      arith,
      next_low _ _ _ c.requires.of_mode_is (omega arith) w c.anchors_of-anchors.ensures c.place_at-place.ensures c.width_of-width.ensures,
    )

pub loop-number-preserved : goal.loop-number-preserved
loop-number-preserved c =
    λ t o e. walked_more _ t _ o (omega arith) (c.loop-number.invariant t o e) e c.place_at-place.ensures c.width_of-width.ensures
    c.put_field-at.ensures

pub returns : goal.returns
returns c =
    walked_all _ _ _ c.requires.of_mode_is (c.loop-number.invariant c.args.split c.requires.of_mode_is c.anchors_of-anchors.ensures)
    (omega arith)
