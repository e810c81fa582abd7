-- A record pushed group by group: after each group the writer holds all places up to there.
-- Assumes nothing.
use mathlib.Core.Path.{◌≡◌, refl, sym, ap, ap₂, ◌∙◌, subst}
use mathlib.Core.List.{List}
use Prim.Native.Nat.{ℕ, ◌+◌, ◌-◌, ◌*◌, ◌%◌, ◌^◌, ◌≤◌, ◌<◌}
use native.Mathlib.Nat.{add_assoc, le_of_eq, le_of_suc-le-suc, mul-one}
use native.Mathlib.Numerals.{add-one}
use native.Mathlib.Omega.{arith}
use borrow.Author.Tests.{le-ltb, lt-ltb}
use lib.Arith.{le-zero}
use lib.Dec.{eqb, ltb}
use lib.ListN.{get_or, length}
use Rattle.bc7_format.specs.declared.Place.TheVariants.{Lead, Value, PBit, Index}
use Rattle.record_rules.specs.declared.Record.{Record}
use Rattle.bc7_places.specs.declared.splits.Anchors.{Anchors}
use Rattle.bc7_modes.specs.declared.ModeRow.{ModeRow}
use Rattle.bits.specs.declared.writer.BitWriter.{BitWriter}
use Rattle.laws.specs.Digits.{Fit, join, evenly, total}
use Rattle.laws.specs.Tables.{pick, table}
use Rattle.laws.proofs.Cases.{pick_less, pick_lt}
use Rattle.laws.proofs.Digits.{join_lt}
use Rattle.laws.proofs.Joining.{table_same}
use Rattle.laws.proofs.Part.{table_is}
use Rattle.laws.proofs.RowParts.{rows_join, rows_total, tail_join, tail_total}
use Rattle.laws.proofs.Rows.{fit_table, total_same}
use Rattle.bc7_format.specs.Modes.{channel_bits, endpoint_count, index_bits, p_count, partition_bits, second_bits}
use Rattle.bcn_format.specs.Partitions.{among}
use Rattle.bc7_format.specs.Places.{block_of, list_of, place_at, pos, width, widths, values_from, ps_from, first_from, second_from}
use Rattle.bc7_format.specs.Places.{place_count}
use Rattle.bcn_format.specs.Block.{bytes_of}
use Rattle.bc7_format.specs.Splits.{anchors, index_mode, kind_of, partition, rotation}
use Rattle.bc7_format.proofs.Modes.{by_subset}
use Rattle.bc7_format.proofs.Places.{inside_index, inside_pbit, inside_place_at, inside_value, place_at_pos, total_128}
use Rattle.bcn_format.specs.Indexes.{Rising, anchor_count, anchors_with, index_widths}
use Rattle.indexes.proofs.Remove.{size_with}
use Rattle.bits.specs.Writer.{Pushable, pushed, writer_of, written}
use Rattle.bits.proofs.Puts.{pushes_ask, pushes_more, pushes_none, pushes_written, written_of}
use Rattle.laws.proofs.Words.{one_shl}
use Rattle.record_rules.specs.Records.{says}
use Rattle.bc7_modes.specs.Modes.{OfMode}
use Rattle.bc7_places.specs.Splits.{ArePixels, anchors_of}
use Rattle.bc7_modes.proofs.Bounds.{low_partition, small}
use Rattle.record.specs.Writing.{Packable, said_at, upto, wide}
use Rattle.bc7_places.proofs.splits.AnchorPixels.{anchors_kind, anchors_low, anchors_rise}

module _ {r : Record} {row : ModeRow} (p : Packable r row) where
  each : (k : ℕ) → k < place_count → said_at r k < 2 ^ wide r k
  each k l = p.fits (place_at k) (inside_place_at k l)

  part_fits : partition r.split < 2 ^ partition_bits r.mode
  unfolding says width
  part_fits = p.fits (Lead 1) tt

  pub part_64 : partition r.split < 64
  part_64 = low_partition r.mode _ p.low part_fits

  all_128 : total (table place_count (wide r)) ≡ 128
  unfolding widths
  all_128 = total_128 r.mode r.split p.low p.kind part_fits

  room_128 : (i : ℕ) → i ≤ place_count → total (table i (wide r)) ≤ 128
  room_128 i h =
      let e : i + (place_count - i) ≡ place_count = omega arith in
      let t : total (table place_count (wide r)) ≡ total (table i (wide r)) + total (table (place_count - i) (λ j. wide r (i + j))) =
      subst (λ (n : ℕ). total (table n (wide r)) ≡ total (table i (wide r)) + total (table (place_count - i) (λ j. wide r (i + j)))) e
      (rows_total i (place_count - i) (wide r) (said_at r)) in
      omega (arith, all_128)

  -- a group of k places from i on: what a push asks, and what it gives
  module _ (i k : ℕ) (room : i + k ≤ place_count) {b : BitWriter} (eb : b ≡ upto r i) {x n : ℕ}
      (ex : x ≡ join (table k (λ j. wide r (i + j))) (table k (λ j. said_at r (i + j)))) (en : n ≡ total (table k (λ j. wide r (i + j)))) where
    pub group_asks : Pushable b x n
    unfolding upto
    group_asks =
        rw (ex, en, eb)
        (record {
          fits = join_lt (fit_table k (λ j. wide r (i + j)) (λ j. said_at r (i + j)) (λ j l. each (i + j) (omega arith)));
          room = rw (← (rows_total i k (wide r) (said_at r))) (room_128 (i + k) room);
          below =
              rw (written_of (join (table i (wide r)) (table i (said_at r))) (total (table i (wide r))))
              (join_lt (fit_table i (wide r) (said_at r) (λ j l. each j (omega arith))));
        })

    pub group_next : {c : BitWriter} → c ≡ pushed b x n → c ≡ upto r (i + k)
    unfolding upto
    group_next ec =
        ec ∙ rw (
          eb,
          ex,
          en,
          written_of (join (table i (wide r)) (table i (said_at r))) (total (table i (wide r))),
          rows_total i k (wide r) (said_at r),
          rows_join i k (wide r) (said_at r) (λ j l. each j (omega arith)),
        )

  -- one place
  module _ (i : ℕ) (h : i < place_count) {b : BitWriter} (eb : b ≡ upto r i) {v w : ℕ} (ev : v ≡ said_at r i) (ew : w ≡ wide r i) where
    pub place_asks : Pushable b v w
    unfolding upto
    place_asks = rw (ev, ew) (pushes_ask (wide r) (said_at r) place_count each i h eb (le_of_eq all_128))

    pub place_next : {c : BitWriter} → c ≡ pushed b v w → c ≡ upto r (i + 1)
    unfolding upto
    place_next ec = pushes_more (wide r) (said_at r) place_count each i h eb (rw (ev, ew) at ec)

  pub begun : {b : BitWriter} → b ≡ writer_of 0 0 → b ≡ upto r 0
  unfolding upto
  begun e = e ∙ pushes_none (wide r) (said_at r)

  -- the lead
  pub marker_said : (1 * 2 ^ r.mode) % 2 ^ 64 ≡ said_at r 0
  unfolding says place_at
  marker_said = one_shl r.mode (omega (arith, p.low))

  pub marker_wide : r.mode + 1 ≡ wide r 0
  unfolding width place_at
  marker_wide = add-one r.mode

  pub lead_wide : (row.partition ≡ wide r 1) × (row.rotation ≡ wide r 2) × (row.index_mode ≡ wide r 3)
  unfolding width place_at
  lead_wide = rw p.is (refl, refl, refl)

  pub lead_said : {x y z : ℕ} → x ≡ partition r.split → y ≡ rotation r.split → z ≡ index_mode r.split
      → (x ≡ said_at r 1) × (y ≡ said_at r 2) × (z ≡ said_at r 3)
  unfolding says place_at
  lead_said a b c = (a, b, c)

  -- six places, of which the mode has the first `count`: the values of a channel, or the p bits
  module _ (i : ℕ) (room : i + 6 ≤ place_count) (count w : ℕ) (v : ℕ → ℕ) (six : count ≤ 6)
      (wides : (j : ℕ) → j < 6 → wide r (i + j) ≡ pick (ltb j count) w 0) (saids : (j : ℕ) → j < 6 → said_at r (i + j) ≡ v j) where
    abbrev some : ℕ → ℕ
    some j = pick (ltb j count) w 0

    some_fits : (j : ℕ) → j < 6 → v j < 2 ^ some j
    some_fits j h = rw (← (saids j h), ← (wides j h)) (each (i + j) (omega arith))

    pub run_fits : (k : ℕ) → k < count → v k < 2 ^ w
    run_fits k h = rw (lt-ltb k count h) at (some_fits k (omega arith))

    all_six : count + (6 - count) ≡ 6
    all_six = omega arith

    past : (k : ℕ) → count ≤ k → k < count + (6 - count) → some k ≡ 0
    past k a l = rw (le-ltb k count a)

    pub run_join : evenly count w v ≡ join (table 6 (λ j. wide r (i + j))) (table 6 (λ j. said_at r (i + j)))
    unfolding evenly
    run_join =
        ap (λ (l : List ℕ). join l (table count v)) (table_same 0 count _ some (λ k l. sym (rw (lt-ltb k count l))))
        ∙ sym (tail_join count some v (6 - count) (λ k l. some_fits k (omega arith)) past)
        ∙ ap (λ (n : ℕ). join (table n some) (table n v)) all_six
        ∙ ap₂ join (table_same 0 6 some _ (λ j l. sym (wides j l))) (table_same 0 6 v _ (λ j l. sym (saids j l)))

    pub run_size : count * w ≡ total (table 6 (λ j. wide r (i + j)))
    run_size =
        sym (total_same some w count (λ k l. rw (lt-ltb k count l)))
        ∙ sym (tail_total count some v (6 - count) past)
        ∙ ap (λ (n : ℕ). total (table n some)) all_six
        ∙ ap total (table_same 0 6 some _ (λ j l. sym (wides j l)))

  pub of_mode_is : OfMode row
  of_mode_is = record { mode = r.mode; low = p.low; is = p.is }

  -- the values of channel c
  module _ (c : ℕ) (hc : c < 4) where
    value_place_is : (j : ℕ) → j < 6 → place_at (values_from + 6 * c + j) ≡ Value c j
    unfolding pos
    value_place_is j h = rw (add_assoc values_from (6 * c) j) (place_at_pos (Value c j) (inside_value hc h))

    pub value_wide : (j : ℕ) → j < 6 → wide r (values_from + 6 * c + j) ≡ pick (ltb j (endpoint_count r.mode)) (channel_bits r.mode c) 0
    unfolding width
    value_wide j h = ap (width r.mode (anchors r.split)) (value_place_is j h)

    pub value_said : (j : ℕ) → j < 6 → said_at r (values_from + 6 * c + j) ≡ get_or r.endpoints (4 * j + c) 0
    unfolding says
    value_said j h = ap (says r) (value_place_is j h)

    abbrev values : ℕ → ℕ
    values k = get_or r.endpoints (4 * k + c) 0

    module _ {w : ℕ} (ew : w ≡ channel_bits r.mode c) where
      wides : (j : ℕ) → j < 6 → wide r (values_from + 6 * c + j) ≡ pick (ltb j row.endpoints) w 0
      wides j h = rw (ew, p.is) (value_wide j h)

      pub channel_bits_is : w ≤ 8
      channel_bits_is =
          rw (ew, ← (ap (λ (x : ModeRow). x.alpha) p.is), ← (ap (λ (x : ModeRow). x.colour) p.is))
          (le_of_suc-le-suc (pick_lt (eqb c 3) row.alpha row.colour 9 (omega (arith, (small of_mode_is).alpha))
          (omega (arith, (small of_mode_is).colour))))

      pub channel_fits : (k : ℕ) → k < row.endpoints → values k < 2 ^ w
      channel_fits = run_fits (values_from + 6 * c) (omega arith) row.endpoints w values (small of_mode_is).endpoints wides value_said

      module _ {b : BitWriter} (eb : b ≡ upto r (values_from + 6 * c)) {x : ℕ} (ex : x ≡ evenly row.endpoints w values) where
        joined : x ≡ join (table 6 (λ j. wide r (values_from + 6 * c + j))) (table 6 (λ j. said_at r (values_from + 6 * c + j)))
        joined = ex ∙ run_join (values_from + 6 * c) (omega arith) row.endpoints w values (small of_mode_is).endpoints wides value_said

        size : row.endpoints * w ≡ total (table 6 (λ j. wide r (values_from + 6 * c + j)))
        size = run_size (values_from + 6 * c) (omega arith) row.endpoints w values (small of_mode_is).endpoints wides value_said

        pub channel_asks : Pushable b x (row.endpoints * w)
        channel_asks = group_asks (values_from + 6 * c) 6 (omega arith) eb joined size

        pub channel_next : {d : BitWriter} → d ≡ pushed b x (row.endpoints * w) → d ≡ upto r (values_from + 6 * c + 6)
        channel_next = group_next (values_from + 6 * c) 6 (omega arith) eb joined size

  -- the p bits
  p_place_is : (j : ℕ) → j < 6 → place_at (ps_from + j) ≡ PBit j
  unfolding pos
  p_place_is j h = place_at_pos (PBit j) (inside_pbit h)

  pub p_wide : (j : ℕ) → j < 6 → wide r (ps_from + j) ≡ pick (ltb j (p_count r.mode)) 1 0
  unfolding width
  p_wide j h = ap (width r.mode (anchors r.split)) (p_place_is j h)

  pub p_said : (j : ℕ) → j < 6 → said_at r (ps_from + j) ≡ get_or r.p j 0
  unfolding says
  p_said j h = ap (says r) (p_place_is j h)

  bits_wide : (j : ℕ) → j < 6 → wide r (ps_from + j) ≡ pick (ltb j row.p) 1 0
  bits_wide j h = rw p.is (p_wide j h)

  pub bits_fit : (k : ℕ) → k < row.p → get_or r.p k 0 < 2 ^ 1
  bits_fit = run_fits ps_from (omega arith) row.p 1 (λ k. get_or r.p k 0) (small of_mode_is).p bits_wide p_said

  module _ {b : BitWriter} (eb : b ≡ upto r ps_from) {x : ℕ} (ex : x ≡ evenly row.p 1 (λ k. get_or r.p k 0)) where
    bits_joined : x ≡ join (table 6 (λ j. wide r (ps_from + j))) (table 6 (λ j. said_at r (ps_from + j)))
    bits_joined = ex ∙ run_join ps_from (omega arith) row.p 1 (λ k. get_or r.p k 0) (small of_mode_is).p bits_wide p_said

    bits_size : row.p ≡ total (table 6 (λ j. wide r (ps_from + j)))
    bits_size = sym (mul-one row.p) ∙ run_size ps_from (omega arith) row.p 1 (λ k. get_or r.p k 0) (small of_mode_is).p bits_wide p_said

    pub bits_ask : Pushable b x row.p
    bits_ask = group_asks ps_from 6 (omega arith) eb bits_joined bits_size

    pub bits_next : {d : BitWriter} → d ≡ pushed b x row.p → d ≡ upto r first_from
    bits_next = group_next ps_from 6 (omega arith) eb bits_joined bits_size

  -- the indexes of set a
  module _ (a : ℕ) (ha : a < 2) where
    index_place_is : (q : ℕ) → q < 16 → place_at (first_from + 16 * a + q) ≡ Index a q
    unfolding pos
    index_place_is q h = rw (add_assoc first_from (16 * a) q) (place_at_pos (Index a q) (inside_index ha h))

    abbrev stored : List ℕ
    stored = index_widths (index_bits r.mode a) (anchors r.split)

    pub set_wide : stored ≡ table 16 (λ q. wide r (first_from + 16 * a + q))
    unfolding width index_widths
    set_wide = table_same 0 16 _ _ (λ q h. sym (ap (width r.mode (anchors r.split)) (index_place_is q h)))

    module _ (vs : List ℕ) (long : length vs ≡ 16) (ev : (q : ℕ) → q < 16 → says r (Index a q) ≡ get_or vs q 0) where
      set_said : vs ≡ table 16 (λ q. said_at r (first_from + 16 * a + q))
      set_said = sym (table_is 16 _ vs long (λ q h. ap (says r) (index_place_is q h) ∙ ev q h))

      pub set_fit : Fit stored vs
      set_fit =
          rw (set_wide, set_said) (fit_table 16 (λ q. wide r (first_from + 16 * a + q)) (λ q. said_at r (first_from + 16 * a + q))
          (λ q h. each (first_from + 16 * a + q) (omega arith)))

      pub set_join : join stored vs ≡ join (table 16 (λ q. wide r (first_from + 16 * a + q))) (table 16 (λ q. said_at r (first_from + 16 * a + q)))
      set_join = ap₂ join set_wide set_said

    pub set_size : total stored ≡ total (table 16 (λ q. wide r (first_from + 16 * a + q)))
    set_size = ap total set_wide

  module _ {a : Anchors} (ea : a ≡ anchors_of r.split) where
    kind_is : row.kind ≡ kind_of r.split
    kind_is = ap (λ (x : ModeRow). x.kind) p.is ∙ sym p.kind

    pub rise : Rising row.kind a.b a.c
    rise = rw (kind_is, ea) (anchors_rise r.split part_64)

    pub pixels : ArePixels a
    pixels = rw ea (anchors_low r.split part_64)

    anchors_are : anchors_with row.kind a.b a.c ≡ anchors r.split
    anchors_are = rw (kind_is, ea) (anchors_kind r.split part_64)

    module _ (k : ℕ) (hk : k < 2) {w : ℕ} (ew : w ≡ index_bits r.mode k) (hw : 0 < w) (vs : List ℕ) (long : length vs ≡ 16)
        (ev : (q : ℕ) → q < 16 → says r (Index k q) ≡ get_or vs q 0) where
      abbrev at_anchors : List ℕ
      at_anchors = index_widths w (anchors_with row.kind a.b a.c)

      widths_are : at_anchors ≡ index_widths (index_bits r.mode k) (anchors r.split)
      widths_are = ap₂ index_widths ew anchors_are

      pub set_fits : Fit at_anchors vs
      set_fits = rw widths_are (set_fit k hk vs long ev)

      bits_are : 16 * w - anchor_count row.kind ≡ total (table 16 (λ q. wide r (first_from + 16 * k + q)))
      bits_are = sym (size_with row.kind w a.b a.c hw rise) ∙ ap total widths_are ∙ set_size k hk

      values_are : join at_anchors vs ≡ join (table 16 (λ q. wide r (first_from + 16 * k + q))) (table 16 (λ q. said_at r (first_from + 16 * k + q)))
      values_are = ap (λ (l : List ℕ). join l vs) widths_are ∙ set_join k hk vs long ev

      module _ {b : BitWriter} (eb : b ≡ upto r (first_from + 16 * k)) where
        pub set_asks : (b.at + (16 * w - anchor_count row.kind) ≤ 128) × (written b < 2 ^ b.at)
        set_asks = let g = group_asks (first_from + 16 * k) 16 (omega arith) eb values_are bits_are in (g.room, g.below)

        pub set_next : {d : BitWriter} → d ≡ pushed b (join at_anchors vs) (16 * w - anchor_count row.kind) → d ≡ upto r (first_from + 16 * k + 16)
        set_next = group_next (first_from + 16 * k) 16 (omega arith) eb values_are bits_are

  -- a second set that the mode hasn't got
  pub second_none : (row.kind ≡ 3 → ⊥) → second_bits r.mode ≡ 0
  second_none k = (by_subset r.mode p.low (λ z. k (ap (λ (x : ModeRow). x.kind) p.is ∙ z))).second

  pub set_none : second_bits r.mode ≡ 0 → upto r second_from ≡ upto r place_count
  unfolding upto width
  set_none e =
      let none : (k : ℕ) → second_from ≤ k → k < second_from + 16 → wide r k ≡ 0 =
      λ k h l.
      ap (wide r) (let z : k ≡ first_from + 16 * 1 + (k - second_from) = omega arith in z)
      ∙ ap (width r.mode (anchors r.split)) (index_place_is 1 (omega arith) (k - second_from) (omega arith))
      ∙ rw e (le-zero (pick_less (among (k - second_from) (anchors r.split)) 0)) in
      sym (ap₂ writer_of (tail_join second_from (wide r) (said_at r) 16 each none) (tail_total second_from (wide r) (said_at r) 16 none))

  -- the whole
  pub all_written : {b : BitWriter} → b ≡ upto r place_count → bytes_of (written b) ≡ block_of r.mode r.split (says r)
  unfolding upto block_of widths list_of
  all_written e = ap bytes_of (pushes_written (wide r) (said_at r) place_count e)
