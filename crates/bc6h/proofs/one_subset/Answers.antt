-- A mode with one subset.
-- Assumes nothing.
use Rattle.std.proofs.Common.{rules, ◌≡◌, ℕ, Bool, true, false, List, [], ◌∷◌, refl, ap, ◌∙◌, ap₂, arith}
use Rattle.bcn_format.specs.Block.{field}
use Rattle.bcn_format.specs.Indexes.{expanded, part}
use Rattle.indexes.specs.declared.NewIndexes.{NewIndexes}
use Rattle.bc6h_modes.specs.Words.{whole}
use Rattle.bits.proofs.On.{got}
use Rattle.bc6h_format.specs.Modes.{row_of}
use Rattle.bc6h.specs.Lanes.{colours, finished_lanes, widened_lanes}
use Rattle.bc6h.proofs.Pictures.{lanes_doubled, lanes_fit}
use Rattle.bc6h.proofs.Blocks.{one_picture, one_row}
use Rattle.bc6h_modes.specs.Lanes.{lanes}
use Rattle.bc6h.proofs.one_subset.Goals as goal
use Rattle.bc6h.proofs.one_subset.Goals.{else-signed, then-signed}

abbrev coloured : Bool → ℕ → ℕ → List ℕ
coloured signed m n = finished_lanes signed (colours 4 4 (widened_lanes signed (row_of m).base (lanes 0 (row_of m) n)))

by_parts : (b : Bool) {w x : ℕ} {v y : List ℕ} → w ≡ x → v ≡ y
    → finished_lanes b (colours 4 4 (widened_lanes b w v)) ≡ finished_lanes b (colours 4 4 (widened_lanes b x y))
by_parts b = ap₂ (λ (w : ℕ) (v : List ℕ). finished_lanes b (colours 4 4 (widened_lanes b w v)))

pub colours_1-q-requires : goal.colours_1-q-requires
colours_1-q-requires c =
    let row = one_row c.args.mode c.requires in
    rw (c.width_1-width.ensures, c.fields_1-v.ensures) (
      record { least = row.least; most = row.most; fit = λ i l. lanes_fit 0 c.args.mode _ (omega arith) i },
      lanes_doubled (row_of c.args.mode) _,
    )

pub colours_1-q-requires-else-signed : goal.colours_1-q-requires-else-signed
colours_1-q-requires-else-signed c =
    let row = one_row c.args.mode c.requires in
    rw (c.width_1-width.ensures, c.fields_1-v.ensures) (
      record { least = row.least; most = row.most; fit = λ i l. lanes_fit 0 c.args.mode _ (omega arith) i },
      lanes_doubled (row_of c.args.mode) _,
    )

pub returns : goal.returns
unfolding field
returns c =
    let m = c.args.mode in
    let n = whole c.args.words in
    let x_is : c.new-x.result.indexes.uncompressed ≡ expanded 4 (0 ∷ []) (field n 65 63) =
    ap (λ (r : NewIndexes). r.indexes.uncompressed) c.new-x.ensures ∙ ap (expanded 4 (0 ∷ [])) (got c.stream_at.ensures 63 refl) in
    -- where the ways of both signs meet
    let all_colours : c.if-signed.q ≡ coloured c.args.signed m n =
    elim c.if-signed.branch [
      | then-signed w ↦ rw w.if-signed.true (w.q-is ∙ (w.colours_1-q.ensures ∙ by_parts true c.width_1-width.ensures c.fields_1-v.ensures))
      | else-signed w ↦ rw w.if-signed.false (w.q-is ∙ (w.colours_1-q-else-signed.ensures ∙ by_parts false c.width_1-width.ensures c.fields_1-v.ensures))
    ] in
    one_picture c.args.signed m n (one_row m c.requires) c.new-x.result.indexes.uncompressed x_is all_colours c.words_of.ensures (c.paint.ensures (part c.new-x.result.indexes.uncompressed 4) (λ p k l g. search rules))
