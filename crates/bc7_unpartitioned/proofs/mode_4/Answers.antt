-- Mode 4: a vector and its scalar, and the index mode.
-- Assumes nothing.
use mathlib.Core.Path.{◌≡◌, refl, ap, ap₂, ◌∙◌}
use mathlib.Core.List.{List, [], ◌∷◌}
use Prim.Native.Nat.{ℕ, ◌+◌, ◌*◌, ◌<◌}
use native.Mathlib.Omega.{arith}
use lib.Dec.{eqb}
use Rattle.laws.specs.Tables.{pick, table}
use Rattle.bcn_format.specs.Block.{field}
use Rattle.bc7_format.specs.Modes.{endpoint_count, kind_of_mode, mode_row}
use Rattle.bc7_format.specs.Splits.{split_at}
use Rattle.bc7_format.proofs.Starts.{index_start_is}
use Rattle.bits.specs.Stream.{held}
use Rattle.bits.proofs.On.{On, field_lt, got, on_read}
use Rattle.bcn_format.specs.Indexes.{part}
use Rattle.indexes.proofs.Reading.{got_indexes, on_indexes}
use Rattle.bc7_fields.specs.Fields.{end_byte, lead_end, value_start}
use Rattle.bc7_fields.specs.Painting.{four, between}
use Rattle.bc7_fields.specs.Rotating.{swapped}
use Rattle.bc7_fields.proofs.Pictures.{four_ext}
use Rattle.bc7_fields.proofs.Fields.{second_4, split_4}
use Rattle.bc7_drawing.specs.declared.colour.Stored.{Stored}
use Rattle.bc7_drawing.specs.Words.{endpoint, with_alpha}
use Rattle.bc7_drawing.proofs.colour.Words.{endpoint_one}
use Rattle.bc7_fields.proofs.Ends.{translucent_shown}
use Rattle.bc7_unpartitioned.specs.Crossing.{crossed}
use Rattle.bc7_unpartitioned.proofs.Laws.{by_set, vector_either, words_apart, words_summed}
use Rattle.bc7_unpartitioned.proofs.mode_4.Goals as goal

pub paint_2_and_3-requires : goal.paint_2_and_3-requires
paint_2_and_3-requires c =
    let first = c in
    let y = first in
    let x = y in
    let ends = x in
    record {
      apart = words_apart _ ends.alone-e.result ends.alone-e.ensures.one first.words-first.ensures c.words-second.ensures;
      two = rw x.new-x.ensures refl;
      three = rw y.new-y.ensures refl;
    }

pub returns : goal.returns
unfolding split_at kind_of_mode mode_row endpoint_count field value_start lead_end
returns c =
    let third = c in
    let first = third in
    let y = first in
    let x = y in
    let ends = x in
    let a = ends in
    let b = a in
    let g = b in
    let r = g in
    let index_mode_is = r in
    let rotation = index_mode_is in
    let s = rotation in
    let n = held s.args.stream in
    let small = field_lt n 5 2 in
    let on_rotation : On n 5 s.args.stream = record { of = refl; stands = s.requires } in
    let on-mode = on_read on_rotation 2 rotation.take-rotation.ensures.same in
    let on_r = on_read on-mode 1 index_mode_is.take-index_mode.ensures.same in
    let on-g = on_read on_r 10 r.take-r.ensures.same in
    let on-b = on_read on-g 10 g.take-g.ensures.same in
    let on-a = on_read on-b 10 b.take-b.ensures.same in
    let on-x = on_read on-a 12 a.take-a.ensures.same in
    let e = ends.alone-e.result in
    let stored : Stored =
    record {
      r = r.take-r.result.value;
      g = g.take-g.result.value;
      b = b.take-b.result.value;
      a = a.take-a.result.value;
      p = 0;
    } in
    let shown =
    translucent_shown 4 n {l = 0} {p = 0} refl
    (record {
      red = got on_r 10 r.take-r.ensures.same;
      green = got on-g 10 g.take-g.ensures.same;
      blue = got on-b 10
          b.take-b.ensures.same;
    })
    refl (got on-a 12 a.take-a.ensures.same) refl in
    let end : (k : ℕ) → k < 2 → endpoint e 0 k ≡ four (end_byte 4 n (2 * 0 + k)) =
    λ k hk. endpoint_one (with_alpha 5 6 stored) ends.alone-e.ensures.each ends.alone-e.ensures.same k hk
    ∙ four_ext _ _ (λ c hc. shown k c hk hc) in
    let first_is = got_indexes on-x 2 (0 ∷ []) 31 x.new-x.ensures in
    let on-y = on_indexes on-x 2 (0 ∷ []) 31 x.new-x.ensures in
    let second_is = got_indexes on-y 3 (0 ∷ []) 47 y.new-y.ensures in
    let f : ℕ → List ℕ = λ q. between 2 (endpoint e 0 0) (endpoint e 0 1) (part x.new-x.result.indexes.uncompressed 2 q) in
    let h : ℕ → List ℕ = λ q. between 3 (endpoint e 0 0) (endpoint e 0 1) (part y.new-y.result.indexes.uncompressed 3 q) in
    c.swap_channels.ensures
    ∙ ap₂ swapped (got on_rotation 2 rotation.take-rotation.ensures.same)
    (c.paint_2_and_3.ensures ∙ words_summed _ e ends.alone-e.ensures.one first.words-first.ensures third.words-second.ensures
    x.new-x.result.indexes.uncompressed y.new-y.result.indexes.uncompressed
    ∙ ap (λ (i : ℕ). table 16 (λ q. pick (eqb i 0) (crossed (f q) (h q)) (crossed (h q) (f q))))
    (got on-mode 1 index_mode_is.take-index_mode.ensures.same))
    ∙ vector_either 4 n (field n 5 2) (field n 7 1) small (split_4 n) (field_lt n 7 1) f h
    (by_set 4 n _ _ small (split_4 n) (end 0 (omega arith)) (end 1 (omega arith)) 0 2 50 (omega arith) refl (omega arith)
    (index_start_is 4 _ (omega arith)) first_is)
    (by_set 4 n _ _ small (split_4 n) (end 0 (omega arith)) (end 1 (omega arith)) 1 3 81 (omega arith) refl (omega arith) (second_4 _ _) second_is)
