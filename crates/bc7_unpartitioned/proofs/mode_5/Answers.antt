-- Mode 5: a vector and its scalar.
-- Assumes nothing.
use mathlib.Core.Path.{◌≡◌, refl, ap₂, ◌∙◌}
use mathlib.Core.List.{List, [], ◌∷◌}
use Prim.Native.Nat.{ℕ, ◌+◌, ◌*◌, ◌<◌}
use native.Mathlib.Omega.{arith}
use Rattle.bcn_format.specs.Block.{field}
use Rattle.bc7_format.specs.Modes.{endpoint_count, kind_of_mode, mode_row}
use Rattle.bc7_format.specs.Splits.{split_at}
use Rattle.bc7_format.proofs.Starts.{index_start_is}
use Rattle.bits.specs.Stream.{held}
use Rattle.bits.proofs.On.{On, field_lt, got, on_read}
use Rattle.indexes.proofs.Reading.{got_indexes, on_indexes}
use Rattle.bc7_fields.specs.Fields.{end_byte, lead_end, value_start}
use Rattle.bc7_fields.specs.Painting.{four, between, painted}
use Rattle.bc7_fields.specs.Rotating.{swapped}
use Rattle.bc7_fields.proofs.Pictures.{four_ext}
use Rattle.bc7_fields.proofs.Fields.{second_5, split_5}
use Rattle.bc7_drawing.specs.declared.colour.Stored.{Stored}
use Rattle.bc7_drawing.specs.Words.{endpoint, with_alpha}
use Rattle.bc7_drawing.proofs.colour.Words.{endpoint_one}
use Rattle.drawing.specs.declared.keys.Keys.{Keys}
use Rattle.drawing.specs.Keys.{key_at}
use Rattle.bc7_fields.proofs.Ends.{translucent_shown}
use Rattle.bc7_unpartitioned.proofs.Laws.{by_set, paired, vector_either}
use Rattle.bc7_unpartitioned.proofs.mode_5.Goals as goal

pub returns : goal.returns
unfolding split_at kind_of_mode mode_row endpoint_count field value_start lead_end
returns c =
    let keys = c in
    let palette = keys in
    let y = palette in
    let x = y in
    let ends = x in
    let a = ends in
    let b = a in
    let g = b in
    let r = g in
    let rotation = r in
    let s = rotation in
    let n = held s.args.stream in
    let small = field_lt n 6 2 in
    let on_rotation : On n 6 s.args.stream = record { of = refl; stands = s.requires } in
    let on_r = on_read on_rotation 2 rotation.take-rotation.ensures.same in
    let on-g = on_read on_r 14 r.take-r.ensures.same in
    let on-b = on_read on-g 14 g.take-g.ensures.same in
    let on-a = on_read on-b 14 b.take-b.ensures.same in
    let on-x = on_read on-a 16 a.take-a.ensures.same in
    let e = ends.alone-e.result in
    let stored : Stored =
    record {
      r = r.take-r.result.value;
      g = g.take-g.result.value;
      b = b.take-b.result.value;
      a = a.take-a.result.value;
      p = 0;
    } in
    let shown =
    translucent_shown 5 n {l = 0} {p = 0} refl
    (record {
      red = got on_r 14 r.take-r.ensures.same;
      green = got on-g 14 g.take-g.ensures.same;
      blue = got on-b 14
          b.take-b.ensures.same;
    })
    refl (got on-a 16 a.take-a.ensures.same) refl in
    let end : (k : ℕ) → k < 2 → endpoint e 0 k ≡ four (end_byte 5 n (2 * 0 + k)) =
    λ k hk. endpoint_one (with_alpha 7 8 stored) ends.alone-e.ensures.each ends.alone-e.ensures.same k hk
    ∙ four_ext _ _ (λ c hc. shown k c hk hc) in
    let first = got_indexes on-x 2 (0 ∷ []) 31 x.new-x.ensures in
    let on-y = on_indexes on-x 2 (0 ∷ []) 31 x.new-x.ensures in
    let second = got_indexes on-y 2 (0 ∷ []) 31 y.new-y.ensures in
    c.swap_channels.ensures
    ∙ ap₂ swapped (got on_rotation 2 rotation.take-rotation.ensures.same)
    (c.paint.ensures ∙ ap₂ (λ (k : Keys) (p : List (List ℕ)). painted (key_at 2 2 k) p) keys.both_keys.ensures
    palette.palette_2_and_2.ensures
    ∙ paired x.new-x.result.indexes.uncompressed y.new-y.result.indexes.uncompressed (between 2 (endpoint e 0 0) (endpoint e 0 1)))
    ∙ vector_either 5 n (field n 6 2) 0 small (split_5 n) (omega arith) _ _
    (by_set 5 n _ 0 small (split_5 n) (end 0 (omega arith)) (end 1 (omega arith)) 0 2 66 (omega arith) refl (omega arith)
    (index_start_is 5 _ (omega arith)) first)
    (by_set 5 n _ 0 small (split_5 n) (end 0 (omega arith)) (end 1 (omega arith)) 1 2 97 (omega arith) refl (omega arith) (second_5 _ 0) second)
