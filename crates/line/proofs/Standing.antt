-- A line as it stands: what is taken out of the number is what the format reads.
-- Assumes nothing.
use mathlib.Core.Path.{◌≡◌, refl, sym, ap, ap₂, ◌∙◌}
use mathlib.Core.Logic.{◌≢◌}
use mathlib.Core.Bool.{Bool, true, false}
use mathlib.Core.List.{List, [], ◌∷◌}
use Prim.Native.Nat.{ℕ, ◌+◌, ◌*◌, ◌/◌, ◌%◌, ◌^◌, ◌≤◌, ◌<◌}
use native.Mathlib.Omega.{arith}
use borrow.Author.Tests.{eq-eqb, eqb-false, eqb-true, ne_eqb}
use lib.Bits.{bit_and}
use lib.Dec.{T, eqb}
use lib.Pow.{pow_pos}
use Rattle.bc7_format.specs.declared.Place.{Place}
use Rattle.bits.specs.declared.stream.BitStream.{BitStream}
use Rattle.bc7_places.specs.declared.places.Fields.{Fields}
use Rattle.bc7_places.specs.declared.lines.LinePart.{LinePart}
use Rattle.bc7_modes.specs.declared.ModeRow.{ModeRow}
use Rattle.bc7_format.specs.declared.Split.{Split}
use Rattle.laws.specs.Tables.{pick, table, table_from}
use Rattle.laws.proofs.Joining.{table_same}
use Rattle.bcn_format.specs.Block.{field}
use Rattle.bc7_format.specs.Lines.{Line, index_set_of, has, index_place, line_of, own, p_place, value_place}
use Rattle.bc7_format.specs.Modes.{kind_of_mode, lines, p_count}
use Rattle.bc7_format.specs.Places.{at_place, inside, pos, width, ps_from}
use Rattle.bc7_format.specs.WellFormed.{WellFormed}
use Rattle.bc7_format.proofs.Meaning.{index_set_lt}
use Rattle.bc7_format.proofs.Modes.{good_index_mode, lines_le}
use Rattle.bc7_format.proofs.Places.{inside_index}
use Rattle.bc7_format.proofs.Starts.{start}
use Rattle.bits.specs.Stream.{held}
use Rattle.bc7_fields.specs.Fields.{lead_end}
use Rattle.bc7_modes.specs.Modes.{mode_row_of}
use Rattle.line_rules.specs.Read.{given_as, widths_of}
use Rattle.line_rules.specs.Replace.{own_width}
use Rattle.line_rules.proofs.Own.{own_none, own_some}
use Rattle.line_rules.proofs.OwnWidths.{own_widths}
use Rattle.line.specs.Parts.{mask_of}
use Rattle.bc7_places.specs.Lines.{own_pixel}
use Rattle.line.proofs.parts.Parts.{IsPart}
use Rattle.line.proofs.parts.Words.{Small, masked, word, word_part}
use Rattle.line.specs.Fields.{fields_at, set_before}
use Rattle.bc7_places.specs.Places.{fields_of}
use Rattle.line.proofs.fields.Indexes.{before_word, rising, size_is, stood_small}
use Rattle.line.proofs.fields.Putting.{p_next, p_there, value_next, value_there}
use Rattle.bc7_places.proofs.places.Starting.{channel_low, channel_starts, channel_at, p_low, p_starts, set_starts}
use Rattle.line.proofs.fields.Whole.{lead_low, set_room, two_of_1}
use Rattle.line.proofs.fields.Taking.{first_read, one_read, second_read_is}
use Rattle.line.specs.Reading.{PartSmall, ReadReady, line_held, ps_at, set_at, two_at, widths_in}

-- a replacement from its parts
eight : (v : ℕ → ℕ → ℕ) {a0 a1 a2 a3 b0 b1 b2 b3 : ℕ} → a0 ≡ v 0 0 → a1 ≡ v 0 1 → a2 ≡ v 0 2 → a3 ≡ v 0 3 → b0 ≡ v 1 0 → b1 ≡ v 1 1 → b2 ≡ v 1 2
    → b3 ≡ v 1 3
    → a0 ∷ a1 ∷ a2 ∷ a3 ∷ b0 ∷ b1 ∷ b2 ∷ b3 ∷ [] ≡ table 8 (λ i. v (i / 4) (i % 4))
unfolding table table_from
eight v e0 e1 e2 e3 f0 f1 f2 f3 = rw (e0, e1, e2, e3, f0, f1, f2, f3)

two : (v : ℕ → ℕ) {a b : ℕ} → a ≡ v 0 → b ≡ v 1 → a ∷ b ∷ [] ≡ table 2 v
unfolding table table_from
two v e f = rw (e, f)

given_of : (ln : Line) {e p i : List ℕ} → e ≡ table 8 (λ i. ln.value (i / 4) (i % 4)) → p ≡ table 2 ln.p → i ≡ table 16 ln.index
    → record { endpoints = e; p = p; indexes = i } ≡ given_as ln
unfolding given_as
given_of ln ee ep ei = rw (ee, ep, ei)

module _ {m : ℕ} {s : Split} {f : Place → ℕ} (g : WellFormed m s f) (l : ℕ) (hl : l < lines m) {x : LinePart} (is : IsPart m s l x) where
  l3 : l < 3
  l3 = omega (arith, hl, lines_le m g.mode)

  -- the widths
  pub widths_are : widths_in x ≡ given_as (widths_of m s l)
  unfolding widths_in widths_of
  widths_are =
      given_of (widths_of m s l)
      (eight (widths_of m s l).value (value 0 0 (omega arith) (omega arith)) (value 0 1 (omega arith) (omega arith))
      (value 0 2 (omega arith) (omega arith)) (value 0 3 (omega arith) (omega arith))
      (value 1 0 (omega arith) (omega arith)) (value 1 1 (omega arith) (omega arith)) (value 1 2 (omega arith) (omega arith))
      (value 1 3 (omega arith) (omega arith)))
      (two (widths_of m s l).p (sym (is.p 0 (omega arith))) (sym (is.p 1 (omega arith))))
      (table_same 0 16 _ _ (λ q h. sym (is.index q h)))
    where
      value : (k c : ℕ) → k < 2 → c < 4 → pick (eqb c 3) x.alpha x.colour ≡ own_width m s l (value_place s l k c)
      value k c hk hc = sym (is.value k c hk hc)

  pub part_small : PartSmall x
  part_small = record { colour = is.colour_small; alpha = is.alpha_small; p = is.p_small; map = is.map; index = is.most }

  abbrev at : Fields
  at = fields_of (mode_row_of m) (lead_end m) l (index_set_of s l)

  module _ (n : ℕ) (fn : (y : Place) → T (inside y) → at_place m s n y ≡ f y) where
    abbrev mine : Place → ℕ
    mine y = own m s l f y

    -- a channel
    abbrev w : ℕ → ℕ
    w c = pick (eqb c 3) x.alpha x.colour

    channel_first : (c : ℕ) → c < 4 → field n (channel_at at c) (w c) ≡ mine (value_place s l 0 c)
    unfolding fields_of value_place width
    channel_first c hc =
        first_read m s l f n fn (value_place s l 0 c) (value_place s l 1 c) (w c) (value_there g l hl 0 c (omega arith) hc)
        (value_there g l hl 1 c (omega arith) hc) (value_next g l hl c)
        (is.value 0 c (omega arith) hc) (is.value 1 c (omega arith) hc) refl refl (channel_at at c) (λ some. channel_starts g l hl l3 c hc)

    channel_second : (c : ℕ) → c < 4 → field n (channel_at at c + w c) (w c) ≡ mine (value_place s l 1 c)
    unfolding fields_of value_place width
    channel_second c hc =
        second_read_is m s l f n fn (value_place s l 0 c) (value_place s l 1 c) (w c) (value_there g l hl 0 c (omega arith) hc)
        (value_there g l hl 1 c (omega arith) hc) (value_next g l hl c)
        (is.value 0 c (omega arith) hc) (is.value 1 c (omega arith) hc) refl refl (channel_at at c) (λ some. channel_starts g l hl l3 c hc)

    -- the p bits
    p_is : pick (eqb (p_count m) 0) 0 1 ≡ x.p
    p_is = sym ((own_widths g l hl).p 0 (omega arith)) ∙ is.p 0 (omega arith)

    ps_are : ps_at n m at.p l x.p ≡ record { first = mine (p_place m l 0); second = mine (p_place m l 1) }
    unfolding ps_at p_place pos width fields_of
    ps_are = go (eqb m 1) refl
      where
        some : x.p ≢ 0 → p_count m ≢ 0
        some nz z = nz (sym p_is ∙ rw (eq-eqb (p_count m) 0 z))

        one : eqb m 1 ≡ true → (k : ℕ) → k < 2 → field n (at.p + l) 1 ≡ mine (p_place m l k)
        one t k hk =
            let there : p_count m ≢ 0 = two_of_1 m (eqb-true m 1 t) in
            let xp : x.p ≡ 1 = sym p_is ∙ rw (ne_eqb (p_count m) 0 there) in
            one_read m s l f n fn (p_place m l k) 1 (at.p + l) (p_there g l hl k hk) (is.p k hk ∙ xp) refl
            (λ nz. (rw t at (p_starts g l hl l3 there)) ∙ ap (λ (b : Bool). start m s (ps_from + pick b l (2 * l + k))) (sym t))

        starts : m ≢ 1 → x.p ≢ 0 → at.p + 2 * l ≡ start m s (pos (p_place m l 0))
        starts n1 nz =
            (let y : at.p + 2 * l ≡ at.p + (2 * l + 0) = omega arith in y) ∙ (rw (ne_eqb m 1 n1) at (p_starts g l hl l3 (some nz)))
            ∙ ap (λ (b : Bool). start m s (ps_from + pick b l (2 * l + 0))) (sym (ne_eqb m 1 n1))

        go : (b : Bool) → eqb m 1 ≡ b
            → pick b (record { first = field n (at.p + l) 1; second = field n (at.p + l) 1 }) (two_at n (at.p + 2 * l) x.p)
            ≡ record { first = mine (p_place m l 0); second = mine (p_place m l 1) }
        go true t = ap₂ (λ (y z : ℕ). record { first = y; second = z }) (one t 0 (omega arith)) (one t 1 (omega arith))
        go false t =
            let n1 : m ≢ 1 = eqb-false m 1 t in
            ap₂ (λ (y z : ℕ). record { first = y; second = z })
            (first_read m s l f n fn (p_place m l 0) (p_place m l 1) x.p (p_there g l hl 0 (omega arith)) (p_there g l hl 1 (omega arith))
            (p_next g l hl n1) (is.p 0 (omega arith)) (is.p 1 (omega arith)) refl refl (at.p + 2 * l) (starts n1))
            (second_read_is m s l f n fn (p_place m l 0) (p_place m l 1) x.p (p_there g l hl 0 (omega arith)) (p_there g l hl 1 (omega arith))
            (p_next g l hl n1) (is.p 0 (omega arith)) (is.p 1 (omega arith)) refl refl (at.p + 2 * l) (starts n1))

    -- the indexes
    index_there : (q : ℕ) → q < 16 → T (inside (index_place s l q))
    unfolding index_place
    index_there q h = inside_index (index_set_lt s l (good_index_mode g)) h

    by_own : (q : ℕ) → q < 16 → pick (own_pixel x.pixels q) (f (index_place s l q)) 0 ≡ mine (index_place s l q)
    unfolding own
    by_own q h = go (own_pixel x.pixels q) (is.index q h)
      where
        go : (b : Bool) → own_width m s l (index_place s l q) ≡ pick b x.index 0
            → pick b (f (index_place s l q)) 0 ≡ pick (has m s l (index_place s l q)) (f (index_place s l q)) 0
        go true e = sym (rw (own_some m s l (index_place s l q) (λ z. omega (arith, is.least, sym e ∙ z))))
        go false e = sym (rw (own_none m s l (index_place s l q) e))

    set_are : set_at n (kind_of_mode m) at.indexes x ≡ table 16 (λ q. mine (index_place s l q))
    unfolding set_at field
    set_are =
        let wd : ℕ = x.index in
        let stood : ℕ → ℕ = λ q. f (index_place s l q) in
        let kept : ℕ → ℕ = λ q. pick (own_pixel x.pixels q) (stood q) 0 in
        let small : Small wd kept = λ q h. own_lt (own_pixel x.pixels q) (stood_small g l is q h) in
        let e : bit_and (set_before n (kind_of_mode m) at.indexes x) (mask_of x.pixels wd) ≡ word wd kept =
        ap (λ (y : ℕ). bit_and y (mask_of x.pixels wd))
        (before_word g l is n at.indexes (set_starts g l hl l3) (λ q h. fn (index_place s l q) (index_there q h)))
        ∙ masked x stood (stood_small g l is) in
        table_same 0 16 _ _ (λ q h. ap (λ (y : ℕ). y / 2 ^ (q * wd) % 2 ^ wd) e ∙ word_part wd kept small q h ∙ by_own q h)
      where
        own_lt : (b : Bool) {y : ℕ} → y < 2 ^ x.index → pick b y 0 < 2 ^ x.index
        own_lt true h = h
        own_lt false h = pow_pos x.index

    -- the whole line, of a stream that stands where the values start
    module _ (q : BitStream) (hq : held q ≡ n) (aq : q.at ≡ lead_end m) {row : ModeRow} (er : row ≡ mode_row_of m) where
      fields_are : fields_at q row l x ≡ at
      fields_are = rw (er, aq, is.set)

      pub stands_as_read : line_held q m row l x ≡ given_as (line_of m s l f)
      unfolding line_held line_of
      stands_as_read =
          rw (hq, fields_are, er, ps_are, set_are)
          (given_of (line_of m s l f)
          (eight (line_of m s l f).value (channel_first 0 (omega arith)) (channel_first 1 (omega arith)) (channel_first 2 (omega arith))
          (channel_first 3 (omega arith))
          (channel_second 0 (omega arith)) (channel_second 1 (omega arith)) (channel_second 2 (omega arith)) (channel_second 3 (omega arith)))
          (two (line_of m s l f).p refl refl) refl)

      low : (c : ℕ) → c < 4 → channel_at at c ≤ 112
      unfolding fields_of
      low c h = omega (arith, channel_low g l hl l3 c h)

      low_p : at.p ≤ 100
      unfolding fields_of
      low_p = p_low g l hl l3

      pub read_ready : ReadReady q row l x
      read_ready = record {
        mode_row_holds = record { mode = m; low = g.mode; is = er };
        start = rw aq (lead_low m g.mode);
        line = l3;
        red = record { start = rw fields_are (low 0 (omega arith)); width = part_small.colour };
        green = record { start = rw fields_are (low 1 (omega arith)); width = part_small.colour };
        blue = record { start = rw fields_are (low 2 (omega arith)); width = part_small.colour };
        alpha = record { start = rw fields_are (low 3 (omega arith)); width = part_small.alpha };
        p = record { start = rw fields_are low_p; line = l3; width = part_small.p };
        set = rw (fields_are, er) (record {
          width = record { least = omega (arith, is.least); most = is.most };
          rising = rising g l is;
          map = is.map;
          room = rw (set_starts g l hl l3, size_is g l is) (set_room g l);
        });
      }
