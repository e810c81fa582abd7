-- A line put into a block's number: it is ready to be, and leaves the block that replacing means.
-- Assumes nothing.
use mathlib.Core.Path.{◌≡◌, refl, sym, ap, ◌∙◌}
use mathlib.Core.Logic.{◌≢◌}
use mathlib.Core.Bool.{Bool, true, false}
use Prim.Native.Nat.{ℕ, ◌+◌, ◌-◌, ◌*◌, ◌^◌, ◌≤◌, ◌<◌}
use native.Mathlib.Decide.{ℕ_discrete}
use native.Mathlib.Nat.{le_refl}
use native.Mathlib.Omega.{arith}
use borrow.Author.Tests.{eq-eqb, eqb-false, eqb-true, ne_eqb}
use lib.Arith.{digits_lt, lt-one}
use lib.Dec.{T, eqb, leb, leb→le}
use lib.ListN.{get_or}
use Rattle.bc7_format.specs.declared.Place.{Place}
use Rattle.bc7_format.specs.declared.Place.TheVariants.{Index}
use Rattle.bits.specs.declared.stream.BitStream.{BitStream}
use Rattle.bc7_places.specs.declared.places.Fields.{Fields}
use Rattle.bc7_places.specs.declared.lines.LinePart.{LinePart}
use Rattle.line.specs.declared.parts.StoredLine.{StoredLine}
use Rattle.bc7_modes.specs.declared.ModeRow.{ModeRow}
use Rattle.bc7_format.specs.declared.Split.{Split}
use Rattle.laws.specs.Digits.{replaced_at, total}
use Rattle.laws.specs.Tables.{pick}
use Rattle.laws.proofs.Rows.{take_table}
use Rattle.laws.proofs.Tests.{at as at_each}
use Rattle.bcn_format.specs.Block.{bytes_of}
use Rattle.bc7_format.specs.Lines.{Line, index_set_of, index_place, line_bits, p_place, turned, with_line}
use Rattle.bc7_format.specs.Modes.{index_bits, kind_of_mode, lines, mode_row, p_count}
use Rattle.bc7_format.specs.Places.{at_place, block_of, inside, place_at, pos, width, widths, values_from, ps_from, first_from, place_count}
use Rattle.bc7_format.specs.Splits.{anchors}
use Rattle.bc7_format.specs.WellFormed.{WellFormed}
use Rattle.bc7_format.proofs.Meaning.{index_set_lt}
use Rattle.bc7_format.proofs.Modes.{good_index_mode, lines_le}
use Rattle.bc7_format.proofs.Opening.{good_total}
use Rattle.bc7_format.proofs.Places.{inside_index}
use Rattle.bc7_format.proofs.Starts.{start, start_le}
use Rattle.bits.specs.Stream.{held}
use Rattle.bcn_format.specs.Indexes.{index_width, index_widths}
use Rattle.bc7_fields.specs.Fields.{lead_end}
use Rattle.bc7_fields.proofs.Fields.{begins}
use Rattle.bc7_modes.specs.Modes.{mode_row_of}
use Rattle.line_rules.specs.Acceptable.{Acceptable}
use Rattle.line_rules.specs.Replace.{oriented, put, refusal_in, top_set}
use Rattle.line_rules.proofs.Accepting.{accepted_is}
use Rattle.line_rules.proofs.OwnWidths.{own_widths}
use Rattle.line_rules.proofs.Put.{put_good}
use Rattle.line.proofs.parts.Parts.{IsPart}
use Rattle.line.proofs.parts.Storing.{IsStored}
use Rattle.line.proofs.parts.Words.{mask_part, word}
use Rattle.line.specs.Fields.{LineReady, PairReady, SetReady, endpoints_put, fields_at, line_put, ps_put, two_put, values_put}
use Rattle.bc7_places.specs.Places.{fields_of}
use Rattle.line.proofs.fields.Indexes.{set_put_is, set_ready, stored, stored_lt, stored_split}
use Rattle.line.proofs.fields.Putting.{after_lead, channel_put, indexes_put, p_put, p_put_1, put_whole}
use Rattle.line.proofs.fields.Runs.{Upto, nothing_put}
use Rattle.bc7_places.proofs.places.Starting.{channel_low, channel_starts, channel_at, p_low, p_starts, set_starts}

pub two_of_1 : (m : ℕ) → m ≡ 1 → p_count m ≢ 0
unfolding mode_row
two_of_1 m e = rw e (λ z. omega arith)

pub lead_low : (m : ℕ) → m < 8 → lead_end m ≤ 16
unfolding lead_end mode_row
lead_low m h = leb→le _ 16 (at_each 8 (λ m. leb (lead_end m) 16) tt m h)

-- where the places end
pub whole_start : {m : ℕ} {s : Split} {f : Place → ℕ} → WellFormed m s f → start m s place_count ≡ 128
unfolding start widths
whole_start {m} {s} g = ap total (take_table place_count place_count (λ i. width m (anchors s) (place_at i)) (le_refl place_count)) ∙ good_total g

-- a set ends where the block does, at the latest
pub set_room : {m : ℕ} {s : Split} {f : Place → ℕ} → WellFormed m s f → (l : ℕ)
    → start m s (first_from + (16 * index_set_of s l + 0)) + total (index_widths (index_bits m (index_set_of s l)) (anchors s)) ≤ 128
unfolding index_widths
set_room {m} {s} g l =
    let h : index_set_of s l < 2 = index_set_lt s l (good_index_mode g) in
    rw (← (begins m s (index_set_of s l) h 16 (omega arith)), ← (whole_start g))
    (start_le m s (first_from + (16 * index_set_of s l + 16)) place_count (omega arith) (omega arith))

module _ {m : ℕ} {s : Split} {f : Place → ℕ} (g : WellFormed m s f) (l : ℕ) (ln : Line) (acc : refusal_in m s l ln ≡ 0) {x : LinePart}
    (is : IsPart m s l x) where
  abbrev o : Line
  o = oriented m s l ln

  a : Acceptable m s l ln
  a = accepted_is m s l ln acc

  hl : l < lines m
  hl = a.line

  l3 : l < 3
  l3 = omega (arith, hl, lines_le m g.mode)

  -- turned or not, its values and p bits are within the widths of the parts
  o_value : (k c : ℕ) → k < 2 → c < 4 → o.value k c < 2 ^ pick (eqb c 3) x.alpha x.colour
  unfolding oriented turned
  o_value k c hk hc = go (top_set m s l ln)
    where
      given : (j : ℕ) → j < 2 → ln.value j c < 2 ^ pick (eqb c 3) x.alpha x.colour
      given j hj = rw (is.value j c hj hc) at (a.within.value j c hj hc)

      go : (b : Bool) → (pick b (turned (line_bits m s l) ln) ln).value k c < 2 ^ pick (eqb c 3) x.alpha x.colour
      go true = given (1 - k) (omega arith)
      go false = given k hk

  o_p : (k : ℕ) → k < 2 → o.p k < 2 ^ x.p
  unfolding oriented turned
  o_p k hk = go (top_set m s l ln)
    where
      given : (j : ℕ) → j < 2 → ln.p j < 2 ^ x.p
      given j hj = rw (is.p j hj) at (a.within.p j hj)

      go : (b : Bool) → (pick b (turned (line_bits m s l) ln) ln).p k < 2 ^ x.p
      go true = given (1 - k) (omega arith)
      go false = given k hk

  stands_fits : (q : ℕ) → q < 16 → with_line m s l o f (index_place s l q) < 2 ^ index_width (index_bits m (index_set_of s l)) (anchors s) q
  unfolding put index_place width
  stands_fits q h = (put_good g l ln acc).fits (Index (index_set_of s l) q) (inside_index (index_set_lt s l (good_index_mode g)) h)

  -- the fields, where they start
  abbrev at : Fields
  at = fields_of (mode_row_of m) (lead_end m) l (index_set_of s l)

  abbrev Until : ℕ → ℕ → Type 0
  Until k n = Upto m s l o f k n

  channel : (c w b x0 y0 n n' : ℕ) → c < 4 → pick (eqb c 3) x.alpha x.colour ≡ w → b ≡ channel_at at c → x0 ≡ o.value 0 c → y0 ≡ o.value 1 c
      → n' ≡ two_put n b w x0 y0 → Until (values_from + 6 * c) n → Until (values_from + 6 * c + 6) n'
  unfolding fields_of
  channel c w b x0 y0 n n' hc ew eb ex ey e u =
      channel_put g l hl o c w n n' hc (is.value 0 c (omega arith) hc ∙ ew) (rw ew at (o_value 0 c (omega arith) hc))
      (rw ew at (o_value 1 c (omega arith) hc))
      (e ∙ rw (eb, ex, ey, channel_starts g l hl l3 c hc)) u

  module _ {st : StoredLine} (ist : IsStored x st o) where
    abbrev e : ℕ → ℕ
    e i = get_or st.endpoints i 0

    after_values : (n : ℕ) → Until values_from n → Until ps_from (endpoints_put n at x st.endpoints)
    unfolding endpoints_put
    after_values n u =
        channel 3 x.alpha at.alpha (e 3) (e 7) _ _ (omega arith) refl refl (ist.value 0 3 (omega arith) (omega arith))
        (ist.value 1 3 (omega arith) (omega arith)) refl
        (channel 2 x.colour at.blue (e 2) (e 6) _ _ (omega arith) refl refl (ist.value 0 2 (omega arith) (omega arith))
        (ist.value 1 2 (omega arith) (omega arith)) refl
        (channel 1 x.colour at.green (e 1) (e 5) _ _ (omega arith) refl refl (ist.value 0 1 (omega arith) (omega arith))
        (ist.value 1 1 (omega arith) (omega arith)) refl
        (channel 0 x.colour at.red (e 0) (e 4) _ _ (omega arith) refl refl (ist.value 0 0 (omega arith) (omega arith))
        (ist.value 1 0 (omega arith) (omega arith)) refl u)))

    p_is : pick (eqb (p_count m) 0) 0 1 ≡ x.p
    p_is = sym ((own_widths g l hl).p 0 (omega arith)) ∙ is.p 0 (omega arith)

    -- in mode 1, and in the others: where there are no p bits, none are put
    after_ps : (n : ℕ) → Until ps_from n → Until first_from (ps_put n m at.p l x.p st.p)
    unfolding ps_put p_place pos fields_of
    after_ps n u = go (eqb m 1) refl
      where
        p0 : ℕ
        p0 = get_or st.p 0 0

        p1 : ℕ
        p1 = get_or st.p 1 0

        e0 : p0 ≡ o.p 0
        e0 = ist.p 0 (omega arith)

        e1 : p1 ≡ o.p 1
        e1 = ist.p 1 (omega arith)

        others : m ≢ 1
            → two_put n (at.p + 2 * l) x.p p0 p1 ≡ replaced_at n (start m s (pos (p_place m l 0))) (2 * x.p) (o.p 1 * 2 ^ x.p + o.p 0)
        others n1 = either (ℕ_discrete (p_count m) 0)
          where
            none : x.p ≡ 0 → (b : ℕ) → replaced_at n b (2 * x.p) (o.p 1 * 2 ^ x.p + o.p 0) ≡ n
            none z b = rw (z, lt-one (rw z at (o_p 0 (omega arith))), lt-one (rw z at (o_p 1 (omega arith)))) (nothing_put n b)

            either : Dec (p_count m ≡ 0)
                → two_put n (at.p + 2 * l) x.p p0 p1 ≡ replaced_at n (start m s (pos (p_place m l 0))) (2 * x.p) (o.p 1 * 2 ^ x.p + o.p 0)
            either (yes z) =
                let zp : x.p ≡ 0 = sym p_is ∙ rw (eq-eqb (p_count m) 0 z) in
                rw (e0, e1) (none zp _ ∙ sym (none zp _))
            either (no nz) =
                let z : at.p + 2 * l ≡ start m s (ps_from + (2 * l + 0)) =
                (let y : at.p + 2 * l ≡ at.p + (2 * l + 0) = omega arith in y) ∙ (rw (ne_eqb m 1 n1) at (p_starts g l hl l3 nz)) in
                rw (e0, e1, z, ne_eqb m 1 n1)

        go : (b : Bool) → eqb m 1 ≡ b → Until first_from (pick b (replaced_at n (at.p + l) 1 p0) (two_put n (at.p + 2 * l) x.p p0 p1))
        go true t =
            let m1 : m ≡ 1 = eqb-true m 1 t in
            let some : p_count m ≢ 0 = two_of_1 m m1 in
            let xp : x.p ≡ 1 = sym p_is ∙ rw (ne_eqb (p_count m) 0 some) in
            let z : at.p + l ≡ start m s (ps_from + l) = rw t at (p_starts g l hl l3 some) in
            p_put_1 g l hl o n _ m1 some (rw xp at (o_p 0 (omega arith))) (rw (z, e0)) u
        go false t = let n1 : m ≢ 1 = eqb-false m 1 t in p_put g l hl o x.p n _ n1 p_is (o_p 0 (omega arith)) (o_p 1 (omega arith)) (others n1) u

    p_at_low : at.p ≤ 100
    unfolding fields_of
    p_at_low = p_low g l hl l3

    -- the whole line, into the number n at whose places f stands
    module _ (n : ℕ) (fn : (y : Place) → T (inside y) → at_place m s n y ≡ f y) where
      abbrev n' : ℕ
      n' = ps_put (endpoints_put n at x st.endpoints) m at.p l x.p st.p

      until_first : Until first_from n'
      until_first = after_ps _ (after_values n (after_lead g l hl o n fn))

      as_stood : (q : ℕ) → q < 16 → at_place m s n' (index_place s l q) ≡ f (index_place s l q)
      unfolding index_place pos
      as_stood q h = until_first.rest (Index (index_set_of s l) q) (inside_index (index_set_lt s l (good_index_mode g)) h) (omega arith)

      module _ {mask : ℕ} (em : mask ≡ word x.index (mask_part x)) (q : BitStream) (hq : held q ≡ n) (aq : q.at ≡ lead_end m) {row : ModeRow}
          (er : row ≡ mode_row_of m) where
        fields_are : fields_at q row l x ≡ at
        fields_are = rw (er, aq, is.set)

        values_are : values_put q m row l x st ≡ n'
        values_are = rw (hq, fields_are)

        ready_set : SetReady n' (kind_of_mode m) at.indexes x mask st.indexes
        ready_set = set_ready g l is o stands_fits n' at.indexes (set_starts g l hl l3) as_stood em ist.indexes (set_room g l)

        pair : (c w i j : ℕ) (b : ℕ) → c < 4 → pick (eqb c 3) x.alpha x.colour ≡ w → w ≤ 8 → b ≡ channel_at at c → e i ≡ o.value 0 c
            → e j ≡ o.value 1 c → PairReady b w (e i) (e j)
        unfolding fields_of
        pair c w i j b hc ew hw eb ei ej =
            let low : b ≤ 100 = rw eb (channel_low g l hl l3 c hc) in
            record {
              width = hw;
              below = omega arith;
              room = omega arith;
              first = rw (ei, ← ew) (o_value 0 c (omega arith) hc);
              second = rw (ej, ← ew) (o_value 1 c (omega arith) hc);
            }

        pub line_ready : LineReady q m row l x mask st
        line_ready = record {
          mode_row_holds = record { mode = m; low = g.mode; is = er };
          start = rw aq (lead_low m g.mode);
          line = l3;
          red =
              rw fields_are
              (pair 0 x.colour 0 4 at.red (omega arith) refl is.colour_small refl (ist.value 0 0 (omega arith) (omega arith))
              (ist.value 1 0 (omega arith) (omega arith)));
          green =
              rw fields_are
              (pair 1 x.colour 1 5 at.green (omega arith) refl is.colour_small refl (ist.value 0 1 (omega arith) (omega arith))
              (ist.value 1 1 (omega arith) (omega arith)));
          blue =
              rw fields_are
              (pair 2 x.colour 2 6 at.blue (omega arith) refl is.colour_small refl (ist.value 0 2 (omega arith) (omega arith))
              (ist.value 1 2 (omega arith) (omega arith)));
          alpha =
              rw fields_are
              (pair 3 x.alpha 3 7 at.alpha (omega arith) refl is.alpha_small refl (ist.value 0 3 (omega arith) (omega arith))
              (ist.value 1 3 (omega arith) (omega arith)));
          p = record {
            start = rw fields_are p_at_low;
            line = l3;
            width = is.p_small;
            first = rw (ist.p 0 (omega arith)) (o_p 0 (omega arith));
            second = rw (ist.p 1 (omega arith)) (o_p 1 (omega arith));
            there = λ m1. sym p_is ∙ rw (ne_eqb (p_count m) 0 (two_of_1 m m1));
          };
          set = rw (values_are, fields_are, er) ready_set;
        }

        pub line_block : (r : BitStream) → r.low < 2 ^ 64 → r.high < 2 ^ 64 → held r ≡ line_put q m row l x mask st
            → bytes_of (held r) ≡ block_of m s (put m s l ln f)
        unfolding put line_put held
        line_block r hlo hhi e =
            put_whole g l hl o (held r) (digits_lt {m = 2 ^ 64} {c = 2 ^ 64} hhi hlo)
            (indexes_put g l hl o (stored g l is o stands_fits) n' (held r) (stored_lt g l is o stands_fits) (stored_split g l is o stands_fits)
            (e ∙ rw (values_are, fields_are, er) (set_put_is g l is o stands_fits n' at.indexes (set_starts g l hl l3) as_stood em ist.indexes))
            until_first)
