-- What is read of a block group by group is what stands at its places, and together its record.
-- Assumes nothing.
use mathlib.Core.Path.{◌≡◌, refl, sym, ap, ap₂, ◌∙◌, subst}
use mathlib.Core.Logic.{⊎_elim}
use mathlib.Core.Bool.{Bool, true, false}
use mathlib.Core.List.{List}
use Prim.Native.Nat.{ℕ, zero, suc, ◌+◌, ◌-◌, ◌*◌, ◌/◌, ◌%◌, ◌^◌, ◌≤◌, ◌<◌}
use native.Mathlib.Nat.{div-eq_of_lt, lt_of_lt_of_le, mod-one, mul_assoc, mul_comm, mul-add, mul-le-mul_right, mul-one}
use native.Mathlib.Numerals.{add-one}
use native.Mathlib.Omega.{arith}
use borrow.Author.Tests.{eqb-false, eqb-true, le-ltb, lt-ltb}
use lib.Arith.{le-zero}
use lib.Dec.{T, eqb, ltb}
use lib.ListN.{replicate}
use lib.Pow.{field as part_of, mod-mod-pow, pow_mono, shr-shr}
use Rattle.bc7_format.specs.declared.Place.{Place}
use Rattle.bc7_format.specs.declared.Place.TheVariants.{Value, PBit, Index}
use Rattle.bc7_places.specs.declared.splits.ReadSplit.{ReadSplit}
use Rattle.bc7_places.specs.declared.splits.Anchors.{Anchors}
use Rattle.bc7_modes.specs.declared.ModeRow.{ModeRow}
use Rattle.indexes.specs.declared.NewIndexes.{NewIndexes}
use Rattle.bits.specs.declared.stream.BitStream.{BitStream}
use Rattle.bc7_format.specs.declared.Split.{Split}
use Rattle.laws.specs.Digits.{Fit, total}
use Rattle.laws.specs.Tables.{pick, table, table_from}
use Rattle.laws.proofs.Cases.{lt_or, pick_less}
use Rattle.laws.proofs.Joining.{table_same}
use Rattle.bcn_format.specs.Block.{eights, field, number}
use Rattle.bc7_format.specs.Modes.{mode_of, alpha_bits, channel_bits, colour_bits, endpoint_count, first_bits, index_bits, kind_of_mode, p_count}
use Rattle.bc7_format.specs.Modes.{second_bits}
use Rattle.bcn_format.specs.Partitions.{among}
use Rattle.bc7_format.specs.Places.{at_place, inside, opened, pos, width, first_from, second_from}
use Rattle.bc7_format.specs.Splits.{anchors, kind_of, partition, split_of}
use Rattle.bc7_format.proofs.Modes.{by_subset, good_64}
use Rattle.bc7_format.proofs.Opening.{good_kind, opened_good}
use Rattle.bc7_format.proofs.Places.{inside_index, inside_pbit, inside_value}
use Rattle.bc7_format.proofs.Starts.{at_field, start}
use Rattle.bcn_format.specs.Indexes.{Rising, anchor_count, anchors_with, expanded, index_widths, part}
use Rattle.indexes.specs.Reading.{SetAhead, new_indexes}
use Rattle.indexes.proofs.Remove.{size_with}
use Rattle.bits.specs.declared.stream.Read.{Read}
use Rattle.bits.specs.Stream.{taken}
use Rattle.bits.proofs.On.{On, field_lt, got, on_read}
use Rattle.bc7_fields.specs.Fields.{lead_end, value_start}
use Rattle.bc7_fields.proofs.Fields.{begins, bit_at, first_start_is, groups_128, index_at, value_at_is, values_end}
use Rattle.record_rules.specs.Records.{made, record_of}
use Rattle.bc7_modes.specs.Modes.{OfMode, mode_row_of}
use Rattle.bc7_places.specs.Splits.{IsLead, anchors_of}
use Rattle.bc7_modes.proofs.Bounds.{second_bits_is, small}
use Rattle.record.specs.Reading.{EndpointsAhead, PAhead, SecondAhead, channel_of, endpoints_of, endpoints_read, p_read, second_read}
use Rattle.bc7_places.proofs.splits.AnchorPixels.{anchors_kind, anchors_rise}

-- a part of a field is a field
part_field : (n a t w i : ℕ) → i * w + w ≤ t → part (field n a t) w i ≡ field n (a + i * w) w
unfolding field
part_field n a t w i h =
    let k : ℕ = i * w in
    let j : ℕ = t - k in
    let e : j + k ≡ t = omega arith in
    let f : j - w + w ≡ j = omega arith in
    let x : ℕ = n / 2 ^ a in
    ap (λ (y : ℕ). y % 2 ^ w) (ap (λ (y : ℕ). x % 2 ^ y / 2 ^ k) (sym e) ∙ part_of x j k)
    ∙ ap (λ (y : ℕ). x / 2 ^ k % 2 ^ y % 2 ^ w) (sym f) ∙ mod-mod-pow (x / 2 ^ k) (j - w) w
    ∙ ap (λ (y : ℕ). y % 2 ^ w) (shr-shr n a k)

-- and past its end there is nothing
part_past : (n a t i : ℕ) → t ≤ i → part (field n a t) 1 i ≡ 0
unfolding field
part_past n a t i h =
    ap (λ (y : ℕ). y % 2 ^ 1) (div-eq_of_lt (lt_of_lt_of_le (field_lt n a t) (pow_mono {i = t} {j = i * 1} (rw (mul-one i) h))))

-- where the values end, channel by channel
values_end_is : (m : ℕ)
    → lead_end m + endpoint_count m * colour_bits m + endpoint_count m * colour_bits m + endpoint_count m * colour_bits m + endpoint_count m * alpha_bits m
    ≡ values_end m
values_end_is m =
    let k : ℕ = endpoint_count m in
    let x : ℕ = k * colour_bits m in
    let y : ℕ = k * alpha_bits m in
    (let z : lead_end m + x + x + x + y ≡ lead_end m + (3 * x + y) = omega arith in z)
    ∙ ap (λ (z : ℕ). lead_end m + (z + y))
    (sym (mul_assoc 3 k (colour_bits m)) ∙ ap (λ (z : ℕ). z * colour_bits m) (mul_comm 3 k) ∙ mul_assoc k 3 (colour_bits m))
    ∙ ap (λ (z : ℕ). lead_end m + z) (sym (mul-add k (3 * colour_bits m) (alpha_bits m)))

module _ (m : ℕ) (s : Split) (n : ℕ) (hm : m < 8) where
  abbrev at : Place → ℕ
  at x = at_place m s n x

  -- a place of no width
  nothing : (x : Place) → T (inside x) → width m (anchors s) x ≡ 0 → at x ≡ 0
  nothing x h e = at_field m s n x h ∙ ap (λ (w : ℕ). n / 2 ^ start m s (pos x) % 2 ^ w) e ∙ mod-one (n / 2 ^ start m s (pos x))

  -- the values: a read for each channel
  module _ {t : BitStream} (o : On n (lead_end m) t) where
    abbrev x : ℕ
    x = endpoint_count m * colour_bits m

    abbrev y : ℕ
    y = endpoint_count m * alpha_bits m

    abbrev reds : Read
    reds = taken t x

    abbrev greens : Read
    greens = taken reds.stream x

    abbrev blues : Read
    blues = taken greens.stream x

    abbrev alphas : Read
    alphas = taken blues.stream y

    on_greens : On n (lead_end m + x) reds.stream
    on_greens = on_read o x refl

    on_blues : On n (lead_end m + x + x) greens.stream
    on_blues = on_read on_greens x refl

    on_alphas : On n (lead_end m + x + x + x) blues.stream
    on_alphas = on_read on_blues x refl

    channel_word : (c : ℕ) → c < 4
        → channel_of reds.value greens.value blues.value alphas.value c ≡ field n (lead_end m + c * x) (endpoint_count m * channel_bits m c)
    channel_word zero h = got o x refl ∙ ap (λ (a : ℕ). field n a x) (let z : lead_end m ≡ lead_end m + 0 * x = omega arith in z)
    channel_word (suc zero) h =
        got on_greens x refl ∙ ap (λ (a : ℕ). field n a x) (let z : lead_end m + x ≡ lead_end m + 1 * x = omega arith in z)
    channel_word (suc (suc zero)) h =
        got on_blues x refl ∙ ap (λ (a : ℕ). field n a x) (let z : lead_end m + x + x ≡ lead_end m + 2 * x = omega arith in z)
    channel_word (suc (suc (suc zero))) h =
        got on_alphas y refl ∙ ap (λ (a : ℕ). field n a y) (let z : lead_end m + x + x + x ≡ lead_end m + 3 * x = omega arith in z)
    channel_word (suc (suc (suc (suc c)))) h = absurd (let z : ⊥ = omega arith in z)

    value_there : (c e : ℕ) → c < 4 → e < endpoint_count m
        → part (channel_of reds.value greens.value blues.value alphas.value c) (channel_bits m c) e ≡ at (Value c e)
    unfolding value_start
    value_there c e hc he =
        let k : ℕ = endpoint_count m in
        let b : ℕ = channel_bits m c in
        let room : e * b + b ≤ k * b = subst (λ (x : ℕ). x ≤ k * b) (let z : (e + 1) * b ≡ e * b + b = omega arith in z)
        (mul-le-mul_right b (rw (add-one e) he)) in
        let place : lead_end m + c * (k * colour_bits m) + e * b ≡ lead_end m + k * (colour_bits m * c) + b * e =
        ap₂ (λ (x y : ℕ). lead_end m + x + y) (mul_comm c (k * colour_bits m) ∙ mul_assoc k (colour_bits m) c) (mul_comm e b) in
        ap (λ (x : ℕ). part x b e) (channel_word c hc) ∙ part_field n _ (k * b) b e room
        ∙ ap (λ (x : ℕ). field n x b) place ∙ sym (value_at_is m s n hm c e hc he)

    pub values_stand : (endpoints_read (mode_row_of m) t).0 ≡ table 24 (λ i. at (Value (i % 4) (i / 4)))
    unfolding endpoints_read endpoints_of width
    values_stand = table_same 0 24 _ _ (λ i l. stands (i % 4) (i / 4) (omega arith) (omega arith))
      where
        stands : (c e : ℕ) → c < 4 → e < 6
            → pick (ltb e (endpoint_count m))
            (part (channel_of reds.value greens.value blues.value alphas.value c) (channel_bits m c) e) 0
            ≡ at (Value c e)
        stands c e hc he =
            ⊎_elim
            (λ l. rw (lt-ltb e (endpoint_count m) l) (value_there c e hc l))
            (λ l. rw (le-ltb e (endpoint_count m) l) (sym (nothing (Value c e) (inside_value hc he) (rw (le-ltb e (endpoint_count m) l)))))
            (lt_or e (endpoint_count m))

    pub values_on : On n (values_end m) (endpoints_read (mode_row_of m) t).1
    unfolding endpoints_read
    values_on = subst (λ (a : ℕ). On n a alphas.stream) (values_end_is m) (on_read on_alphas y refl)

  -- the p bits
  module _ {t : BitStream} (o : On n (values_end m) t) where
    pub ps_stand : (p_read (mode_row_of m) t).0 ≡ table 6 (λ k. at (PBit k))
    unfolding p_read width
    ps_stand = table_same 0 6 _ _ (λ k l. ap (λ (x : ℕ). part x 1 k) (got o (p_count m) refl) ∙ stands k l)
      where
        stands : (k : ℕ) → k < 6 → part (field n (values_end m) (p_count m)) 1 k ≡ at (PBit k)
        stands k h =
            ⊎_elim
            (λ (l : k < p_count m). part_field n (values_end m) (p_count m) 1 k (rw (mul-one k) (omega arith))
            ∙ ap (λ (x : ℕ). field n (values_end m + x) 1) (mul-one k) ∙ sym (bit_at m s n hm k l))
            (λ l. part_past n (values_end m) (p_count m) k l ∙ sym (nothing (PBit k) (inside_pbit h) (rw (le-ltb k (p_count m) l))))
            (lt_or k (p_count m))

    pub ps_on : On n (start m s first_from) (p_read (mode_row_of m) t).1
    unfolding p_read
    ps_on = rw (first_start_is m s hm) (on_read o (p_count m) refl)

  -- a set of indexes, read whole
  pub set_stands : (a : ℕ) → a < 2 → {an : List ℕ} {t : BitStream} (b : ℕ) → an ≡ anchors s → b ≡ total (index_widths (index_bits m a) (anchors s))
      → On n (start m s (first_from + (16 * a + 0))) t
      → table 16 (part (new_indexes (index_bits m a) an t b).indexes.uncompressed (index_bits m a)) ≡ table 16 (λ q. at (Index a q))
  set_stands a ha {an} {t} b ea eb o =
      table_same 0 16 _ _ (λ q l.
      ap₂ (λ (l : List ℕ) (x : ℕ). part (expanded (index_bits m a) l x) (index_bits m a) q) ea
      (got o b refl ∙ ap (field n (start m s (first_from + (16 * a + 0)))) eb)
      ∙ index_at m s a ha n q l)

  -- and one that the mode hasn't got
  pub set_none : second_bits m ≡ 0 → replicate 16 0 ≡ table 16 (λ q. at (Index 1 q))
  unfolding table table_from width
  set_none e =
      table_same 0 16 (λ q. 0) (λ q. at (Index 1 q))
      (λ q l. sym (nothing (Index 1 q) (inside_index {a = 1} (omega arith) l) (rw e (le-zero (pick_less (among q (anchors s)) 0)))))

-- A BLOCK READ, of mode m, whose row is `row`
module _ (bs : List ℕ) (sixteen : Fit eights bs) {m : ℕ} (em : m ≡ mode_of bs) (hm : m < 8) {row : ModeRow} (er : row ≡ mode_row_of m) where
  abbrev n : ℕ
  n = number bs

  pub of_mode_is : OfMode row
  of_mode_is = record { mode = m; low = hm; is = er }

  module _ {s : Split} (is_split : s ≡ split_of bs) where
    low : mode_of bs < 8
    low = subst (λ (m : ℕ). m < 8) em hm

    partition_64 : partition s < 64
    partition_64 = subst (λ (s : Split). partition s < 64) (sym is_split) (good_64 (opened_good bs sixteen low))

    kind : row.kind ≡ kind_of s
    kind = ap (λ (r : ModeRow). r.kind) er ∙ ap kind_of_mode em ∙ sym (good_kind (opened_good bs sixteen low)) ∙ ap kind_of (sym is_split)

    module _ {a : Anchors} (ea : a ≡ anchors_of s) where
      pub rise : Rising row.kind a.b a.c
      rise = rw (kind, ea) (anchors_rise s partition_64)

      anchors_are : anchors_with row.kind a.b a.c ≡ anchors s
      anchors_are = rw (kind, ea) (anchors_kind s partition_64)

      set_size : (w : ℕ) → 0 < w → 16 * w - anchor_count row.kind ≡ total (index_widths w (anchors s))
      set_size w h = sym (size_with row.kind w a.b a.c h rise) ∙ ap (λ (l : List ℕ). total (index_widths w l)) anchors_are

      second_start : start m s second_from ≡ start m s first_from + (16 * row.first - anchor_count row.kind)
      unfolding index_widths
      second_start =
          let w : 0 < row.first = omega (arith, (small of_mode_is).least) in
          begins m s 0 (omega arith) 16 (omega arith)
          ∙ ap (λ (b : ℕ). start m s first_from + b)
          (sym (set_size row.first w ∙ ap (λ (r : ModeRow). total (index_widths r.first (anchors s))) er))

      second_on : {t : BitStream} {set : NewIndexes} → On n (start m s first_from) t
          → set ≡ new_indexes row.first (anchors_with row.kind a.b a.c) t (16 * row.first - anchor_count row.kind)
          → On n (start m s second_from) set.stream
      second_on {set = set} o e =
          subst (λ (a : ℕ). On n a set.stream) (sym second_start)
          (rw e (on_read o (16 * row.first - anchor_count row.kind) refl))

      second_stands : {t : BitStream} → On n (start m s second_from) t → second_read row a t ≡ table 16 (λ q. at_place m s n (Index 1 q))
      unfolding second_read
      second_stands {t} o = go (eqb row.kind 3) refl
        where
          two : row.kind ≡ 3 → table 16
              (part (new_indexes row.second (anchors_with row.kind a.b a.c) t (16 * row.second - anchor_count row.kind)).indexes.uncompressed row.second)
              ≡ table 16 (λ q. at_place m s n (Index 1 q))
          two k =
              let e : row.second ≡ second_bits m = ap (λ (r : ModeRow). r.second) er in
              rw e (set_stands m s n hm 1 (omega arith) _ anchors_are (rw e at (set_size row.second (second_bits_is of_mode_is k))) o)

          go : (b : Bool) → eqb row.kind 3 ≡ b
              → pick b (table 16 (part (new_indexes row.second (anchors_with row.kind a.b a.c) t
              (16 * row.second - anchor_count row.kind)).indexes.uncompressed row.second)) (replicate 16 0)
              ≡ table 16 (λ q. at_place m s n (Index 1 q))
          go true e = two (eqb-true row.kind 3 e)
          go false e = set_none m s n hm (by_subset m hm (λ k. eqb-false row.kind 3 e (ap (λ (r : ModeRow). r.kind) er ∙ k))).second

      first_stands : {t : BitStream} → On n (start m s first_from) t
          → table 16 (part (new_indexes row.first (anchors_with row.kind a.b a.c) t (16 * row.first - anchor_count row.kind)).indexes.uncompressed row.first)
          ≡ table 16 (λ q. at_place m s n (Index 0 q))
      first_stands o =
          let e : row.first ≡ first_bits m = ap (λ (r : ModeRow). r.first) er in
          rw e (set_stands m s n hm 0 (omega arith) _ anchors_are (rw e at (set_size row.first (omega (arith, (small of_mode_is).least)))) o)

  -- the reads one after the other
  module _ {h : ReadSplit} (lead : IsLead bs h) where
    abbrev s : Split
    s = h.split

    lead_on : On n (lead_end m) h.stream
    lead_on = subst (λ (m : ℕ). On n (lead_end m) h.stream) (sym em) lead.stands

    pub endpoints_ahead : EndpointsAhead row h.stream
    endpoints_ahead = record {
      of_mode_is = of_mode_is;
      inside = rw (er, lead_on.stands) (omega (arith, values_end_is m, groups_128 m hm));
    }

    module _ {v : List ℕ × BitStream} (ev : v ≡ endpoints_read row h.stream) where
      values_behind : On n (values_end m) v.1
      values_behind = rw (ev, er) (values_on m h.split n hm lead_on)

      pub p_ahead : PAhead row v.1
      p_ahead = record { of_mode_is = of_mode_is; inside = rw (er, values_behind.stands) (omega (arith, groups_128 m hm)) }

      module _ {p : List ℕ × BitStream} (ep : p ≡ p_read row v.1) where
        p_behind : On n (start m h.split first_from) p.1
        p_behind = rw (ep, er) (ps_on m h.split n hm values_behind)

        pub first_ahead : {a : Anchors} → a ≡ anchors_of h.split → SetAhead p.1 row.kind row.first a.b a.c
        first_ahead ea = record {
          width = record { least = omega (arith, (small of_mode_is).least); most = (small of_mode_is).most };
          rising = rise lead.split ea;
          inside = rw (er, p_behind.stands, first_start_is m h.split hm) (omega (arith, groups_128 m hm));
        }

        pub second_ahead : {a : Anchors} → a ≡ anchors_of h.split → {set : NewIndexes}
            → set ≡ new_indexes row.first (anchors_with row.kind a.b a.c) p.1 (16 * row.first - anchor_count row.kind)
            → SecondAhead row a set.stream
        second_ahead ea eset = record {
          of_mode_is = of_mode_is;
          rising = rise lead.split ea;
          inside = λ k. let kind : kind_of_mode m ≡ 3 = ap (λ (r : ModeRow). r.kind) (sym er) ∙ k in
              rw ((second_on lead.split ea p_behind eset).stands, second_start lead.split ea, first_start_is m h.split hm, er, kind)
              (omega (arith, rw kind at (groups_128 m hm)));
        }

        pub record_read : {a : Anchors} → a ≡ anchors_of h.split → {set : NewIndexes}
            → set ≡ new_indexes row.first (anchors_with row.kind a.b a.c) p.1 (16 * row.first - anchor_count row.kind)
            → {first second : List ℕ} → first ≡ table 16 (part set.indexes.uncompressed row.first) → second ≡ second_read row a set.stream
            → record { mode = m; split = h.split; endpoints = v.0; p = p.0; first = first; second = second } ≡ record_of bs
        unfolding record_of made opened split_of
        record_read {a} ea {set} eset {first} {second} ef eg =
            let s : Split = h.split in
            let e1 : v.0 ≡ table 24 (λ i. at_place m s n (Value (i % 4) (i / 4))) = rw (ev, er) (values_stand m s n hm lead_on) in
            let e2 : p.0 ≡ table 6 (λ k. at_place m s n (PBit k)) = rw (ep, er) (ps_stand m s n hm values_behind) in
            let e3 : first ≡ table 16 (λ q. at_place m s n (Index 0 q)) = ef ∙ rw eset (first_stands lead.split ea p_behind) in
            let e4 : second ≡ table 16 (λ q. at_place m s n (Index 1 q)) =
            eg ∙ second_stands lead.split ea (second_on lead.split ea p_behind eset) in
            rw (e1, e2, e3, e4) (ap₂ (λ (m : ℕ) (s : Split). made m s (at_place m s n)) em lead.split)
