-- A mode with two subsets.
-- Assumes nothing.
use Rattle.std.proofs.Common.{rules, ◌≡◌, ℕ, ◌<◌, Bool, true, false, List, [], ◌∷◌, refl, ap, ◌∙◌, ap₂, arith}
use Rattle.bcn_format.specs.Block.{field}
use Rattle.bcn_format.specs.Indexes.{expanded}
use Rattle.drawing.specs.Keys.{key_at}
use Rattle.indexes.specs.declared.NewIndexes.{NewIndexes}
use Rattle.bc6h_modes.specs.Words.{whole}
use Rattle.bits.proofs.On.{On, got, on_read}
use Rattle.bc6h_modes.specs.Lanes.{lanes}
use Rattle.bc6h_format.specs.Modes.{row_of}
use Rattle.bc6h.specs.Lanes.{colours, finished_lanes, widened_lanes}
use Rattle.partitions.specs.Words.{anchor_in2}
use Rattle.bc6h.proofs.Pictures.{lanes_fit}
use Rattle.partitions.proofs.PartitionWords.{fixes_2}
use Rattle.bc6h.proofs.Blocks.{two_picture, two_row}
use Rattle.bc6h.proofs.two_subsets.Goals as goal
use Rattle.bc6h.proofs.two_subsets.Goals.{else-signed, then-signed}

abbrev coloured : Bool → ℕ → ℕ → List ℕ
coloured signed m n = finished_lanes signed (colours 3 8 (widened_lanes signed (row_of m).base (lanes 1 (row_of m) n)))

by_parts : (b : Bool) {w x : ℕ} {v y : List ℕ} → w ≡ x → v ≡ y
    → finished_lanes b (colours 3 8 (widened_lanes b w v)) ≡ finished_lanes b (colours 3 8 (widened_lanes b x y))
by_parts b = ap₂ (λ (w : ℕ) (v : List ℕ). finished_lanes b (colours 3 8 (widened_lanes b w v)))

pub colours_2-q-requires : goal.colours_2-q-requires
colours_2-q-requires c =
    let row = two_row c.args.mode c.requires in
    rw (c.width_2-width.ensures, c.fields_2-v.ensures)
    (record { least = row.least; most = row.most; fit = λ i l. lanes_fit 1 c.args.mode _ (omega arith) i })

pub colours_2-q-requires-else-signed : goal.colours_2-q-requires-else-signed
colours_2-q-requires-else-signed c =
    let row = two_row c.args.mode c.requires in
    rw (c.width_2-width.ensures, c.fields_2-v.ensures)
    (record { least = row.least; most = row.most; fit = λ i l. lanes_fit 1 c.args.mode _ (omega arith) i })

pub new-x-requires : goal.new-x-requires
new-x-requires c =
    let id : c.take-id.result.value < 64 = omega (arith, c.take-id.ensures.small) in
    let f = fixes_2 id (omega arith) (omega arith) c.partition_word_2_3-set.ensures in (
      omega arith,
      record {
        anchors = record { width = search rules; rising = (f.fixup.above, f.fixup.pixel, tt) };
        inside = rw c.take-id.ensures.stands (omega (arith, c.stream_at.ensures.stands));
      },
    )

pub returns : goal.returns
returns c =
    let m = c.args.mode in
    let n = whole c.args.words in
    let at_82 : On n 82 c.take-id.result.stream = on_read c.stream_at.ensures 5 c.take-id.ensures.same in
    let set = c.partition_word_2_3-set.result in
    let anchors : List ℕ = 0 ∷ anchor_in2 set ∷ [] in
    let x_is : c.new-x.result.indexes.uncompressed ≡ expanded 3 anchors (field n 82 46) =
    ap (λ (r : NewIndexes). r.indexes.uncompressed) c.new-x.ensures ∙ ap (expanded 3 anchors) (got at_82 46 refl) in
    -- where the ways of both signs meet
    let all_colours : c.if-signed.q ≡ coloured c.args.signed m n =
    elim c.if-signed.branch [
      | then-signed w ↦ rw w.if-signed.true (w.q-is ∙ (w.colours_2-q.ensures ∙ by_parts true c.width_2-width.ensures c.fields_2-v.ensures))
      | else-signed w ↦ rw w.if-signed.false (w.q-is ∙ (w.colours_2-q-else-signed.ensures ∙ by_parts false c.width_2-width.ensures c.fields_2-v.ensures))
    ] in
    two_picture c.args.signed m n (two_row m c.requires) c.take-id.result.value set c.new-x.result.indexes.uncompressed
    (got c.stream_at.ensures 5 c.take-id.ensures.same) c.take-id.ensures.small c.partition_word_2_3-set.ensures x_is
    all_colours c.words_of.ensures c.both_keys-keys.ensures
    (c.paint.ensures (key_at 3 1 c.both_keys-keys.result) (λ p k l g. search rules))
