-- Mode 6: one subset.
-- Assumes nothing.
use mathlib.Core.Path.{◌≡◌, refl, ap, ◌∙◌}
use mathlib.Core.List.{[], ◌∷◌}
use Prim.Native.Nat.{ℕ, ◌+◌, ◌*◌, ◌<◌}
use native.Mathlib.Omega.{arith}
use Rattle.laws.specs.Tables.{table}
use Rattle.bcn_format.specs.Block.{field}
use Rattle.bc7_format.specs.Modes.{endpoint_count, kind_of_mode, mode_row}
use Rattle.bc7_format.specs.Splits.{split_at}
use Rattle.bits.specs.Stream.{held}
use Rattle.bits.proofs.On.{On, got, on_read}
use Rattle.bcn_format.specs.Indexes.{part}
use Rattle.indexes.proofs.Reading.{got_indexes}
use Rattle.bc7_fields.specs.Fields.{end_byte, lead_end, p_start, value_start}
use Rattle.bc7_fields.specs.Painting.{four, between, painted}
use Rattle.bc7_fields.proofs.Pictures.{drawn_each, four_ext, one_palette}
use Rattle.bc7_drawing.specs.Words.{endpoint, with_p}
use Rattle.bc7_drawing.proofs.colour.Words.{endpoint_one}
use Rattle.bc7_fields.proofs.Ends.{translucent_p_shown, two_ps}
use Rattle.bc7_unpartitioned.proofs.Laws.{whole_keys}
use Rattle.bc7_unpartitioned.proofs.mode_6.Goals as goal

pub returns : goal.returns
unfolding split_at kind_of_mode mode_row endpoint_count field value_start p_start lead_end
returns c =
    let ends = c.alone_p.ensures in
    let x = c in
    let p = x in
    let a = p in
    let b = a in
    let g = b in
    let r = g in
    let s = r in
    let n = held s.args.stream in
    let on_r : On n 7 s.args.stream = record { of = refl; stands = s.requires } in
    let on-g = on_read on_r 14 r.take-r.ensures.same in
    let on-b = on_read on-g 14 g.take-g.ensures.same in
    let on-a = on_read on-b 14 b.take-b.ensures.same in
    let on-p = on_read on-a 14 a.take-a.ensures.same in
    let on-x = on_read on-p 2 p.take-p.ensures.same in
    let shown =
    translucent_p_shown 6 n {l = 0} refl
    (record {
      red = got on_r 14 r.take-r.ensures.same;
      green = got on-g 14 g.take-g.ensures.same;
      blue = got on-b 14
          b.take-b.ensures.same;
    })
    refl (two_ps 6 n 0 refl (got on-p 2 p.take-p.ensures.same)) refl (got on-a 14 a.take-a.ensures.same) in
    let end : (k : ℕ) → k < 2 → endpoint c.alone_p.result 0 k ≡ four (end_byte 6 n (2 * 0 + k)) =
    λ k hk. endpoint_one (with_p 7 _) ends.each ends.same k hk ∙ four_ext _ _ (λ c hc. shown k c hk hc) in
    c.mix_16.ensures
    ∙ drawn_each 4 _ _ _
    ∙ ap (λ (y : ℕ). painted (part y 4)
    (table 16 (between 4 (endpoint c.alone_p.result 0 0) (endpoint c.alone_p.result 0 1))))
    (got_indexes on-x 4 (0 ∷ []) 63 x.new-x.ensures)
    ∙ whole_keys 6 n 4 (omega arith) refl (omega arith) refl (one_palette 6 n 4 (end 0 (omega arith)) (end 1 (omega arith)))
