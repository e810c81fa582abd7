-- The set of a line's indexes: as it stands in a number, and with the line's own replaced.
-- Assumes nothing.
use mathlib.Core.Path.{◌≡◌, sym, ap, ap₂, ◌∙◌}
use mathlib.Core.Bool.{Bool, true, false}
use mathlib.Core.List.{List, []}
use Prim.Native.Nat.{ℕ, zero, suc, ◌+◌, ◌-◌, ◌*◌, ◌^◌, ◌≤◌, ◌<◌}
use native.Mathlib.Nat.{add-zero, lt_of_lt_of_le, zero-add}
use native.Mathlib.Omega.{arith}
use lib.Pow.{pow_mono, pow_pos}
use Rattle.bc7_format.specs.declared.Place.{Place}
use Rattle.bc7_format.specs.declared.Place.TheVariants.{Index}
use Rattle.bc7_format.specs.declared.Split.{Split}
use Rattle.bc7_places.specs.declared.lines.LinePart.{LinePart}
use Rattle.laws.specs.Digits.{Fit, join, replaced_at, split, total}
use Rattle.laws.specs.Tables.{pick, table}
use Rattle.laws.proofs.Cases.{pick_less}
use Rattle.laws.proofs.Digits.{join_lt, split_join}
use Rattle.laws.proofs.Rows.{fit_table, split_table}
use Rattle.bc7_format.specs.Lines.{Line, index_set_of, has, index_place, laid, line_bits, with_line}
use Rattle.bc7_format.specs.Modes.{index_bits, kind_of_mode}
use Rattle.bcn_format.specs.Partitions.{among}
use Rattle.bc7_format.specs.Places.{at_place, width, first_from}
use Rattle.bc7_format.specs.Splits.{anchors}
use Rattle.bc7_format.specs.WellFormed.{WellFormed}
use Rattle.bc7_format.proofs.Meaning.{index_set_lt}
use Rattle.bc7_format.proofs.Modes.{good_64, good_index_mode}
use Rattle.bc7_format.proofs.Opening.{good_kind}
use Rattle.bc7_format.proofs.Places.{inside_index}
use Rattle.bc7_format.proofs.Starts.{start}
use Rattle.bcn_format.specs.Indexes.{Rising, anchor_count, expanded, index_width, index_widths, part}
use Rattle.bcn_format.proofs.Expanding.{part_expanded}
use Rattle.indexes.proofs.Remove.{size_with}
use Rattle.bc7_fields.proofs.Fields.{index_at}
use Rattle.bc7_places.proofs.splits.AnchorPixels.{anchors_kind, anchors_low, anchors_rise}
use Rattle.line_rules.specs.Replace.{own_width}
use Rattle.line_rules.proofs.Own.{own_none, own_some}
use Rattle.bc7_places.specs.Lines.{own_pixel}
use Rattle.line.proofs.parts.Parts.{IsPart}
use Rattle.line.proofs.parts.Words.{Small, mask_part, masked, word, word_lt, word_plus, word_same, word_split}
use Rattle.line.specs.Fields.{SetReady, anchors_in, set_after, set_before, set_put, size_in}

-- sixteen stored indexes, expanded, are a word of them
expanded_word : (w : ℕ) (an : List ℕ) (n : ℕ) → expanded w an n ≡ word w (part (expanded w an n) w)
unfolding expanded index_widths
expanded_word w an n =
    ap (join (table 16 (index_width w []))) (split_table 16 (index_width w an) n) ∙ word_same w _ _ (λ q h. sym (part_expanded w an n q h))

-- a set has bits
sizes : (k w : ℕ) → 2 ≤ w → 0 < 16 * w - anchor_count k
sizes zero w h = omega arith
sizes (suc zero) w h = omega arith
sizes (suc (suc zero)) w h = omega arith
sizes (suc (suc (suc k))) w h = omega arith

module _ {m : ℕ} {s : Split} {f : Place → ℕ} (g : WellFormed m s f) (l : ℕ) {x : LinePart} (is : IsPart m s l x) where
  abbrev w : ℕ
  w = x.index

  abbrev k : ℕ
  k = kind_of_mode m

  abbrev a : ℕ
  a = index_set_of s l

  abbrev own : ℕ → Bool
  own q = own_pixel x.pixels q

  abbrev stood : ℕ → ℕ
  stood q = f (index_place s l q)

  ha : a < 2
  ha = index_set_lt s l (good_index_mode g)

  bits : w ≡ index_bits m a
  unfolding line_bits
  bits = is.bits

  -- the anchors, and how many bits the set has
  pub rising : Rising k x.anchors.b x.anchors.c
  rising = rw (is.anchors, ← (good_kind g)) (anchors_rise s (good_64 g))

  anchors_are : anchors_in k x ≡ anchors s
  anchors_are = rw (is.anchors, ← (good_kind g)) (anchors_kind s (good_64 g))

  pub size_is : size_in k x ≡ total (index_widths (index_bits m a) (anchors s))
  size_is =
      sym (size_with k w x.anchors.b x.anchors.c (omega (arith, is.least)) rising)
      ∙ ap₂ (λ (b : ℕ) (an : List ℕ). total (index_widths b an)) bits anchors_are

  -- as it stands
  pub stood_small : Small w stood
  unfolding index_place width
  stood_small q h = rw bits (lt_of_lt_of_le (g.fits (Index a q) (inside_index ha h)) (pow_mono (pick_less (among q (anchors s)) (index_bits m a))))

  pub before_word : (n b : ℕ) → b ≡ start m s (first_from + (16 * a + 0)) → ((q : ℕ) → q < 16 → at_place m s n (index_place s l q) ≡ stood q)
      → set_before n k b x ≡ word w stood
  unfolding set_before index_place
  before_word n b eb e =
      rw (anchors_are, size_is, eb, bits)
      (expanded_word (index_bits m a) (anchors s) _ ∙ word_same (index_bits m a) _ stood (λ q h. index_at m s a ha n q h ∙ e q h))

  -- with the line's own replaced: what fits is that a line that is put in leaves a block
  module _ (o : Line) (fits : (q : ℕ) → q < 16 → with_line m s l o f (index_place s l q) < 2 ^ index_width (index_bits m a) (anchors s) q) where
    abbrev stands : ℕ → ℕ
    stands q = with_line m s l o f (index_place s l q)

    by_own : (q : ℕ) → q < 16 → stands q ≡ pick (own q) (o.index q) (stood q)
    unfolding with_line laid index_place
    by_own q h = go (own q) (is.index q h)
      where
        go : (b : Bool) → own_width m s l (index_place s l q) ≡ pick b w 0
            → pick (has m s l (Index a q)) (o.index q) (f (Index a q)) ≡ pick b (o.index q) (f (Index a q))
        go true e = rw (own_some m s l (index_place s l q) (λ z. omega (arith, is.least, sym e ∙ z)))
        go false e = rw (own_none m s l (index_place s l q) e)

    stands_small : Small w stands
    stands_small q h = rw bits (lt_of_lt_of_le (fits q h) (pow_mono (pick_less (among q (anchors s)) (index_bits m a))))

    after_word : (n b : ℕ) {mask new : ℕ} → set_before n k b x ≡ word w stood → mask ≡ word w (mask_part x)
        → new ≡ word w (λ q. pick (own q) (o.index q) 0) → set_after n k b x mask new ≡ word w stands
    after_word n b eb em en =
        let others : ℕ → ℕ = λ q. pick (own q) 0 (stood q) in
        let mine : ℕ → ℕ = λ q. pick (own q) (stood q) 0 in
        let put : ℕ → ℕ = λ q. pick (own q) (o.index q) 0 in
        let less : word w stood ≡ word w others + word w mine =
        word_same w stood (λ q. others q + mine q) (λ q h. apart (own q) (stood q))
        ∙ word_plus w others mine (λ q h. either (own q) 0 (stood q) (pow_pos w) (stood_small q h))
        (λ q h. either (own q) (stood q) 0 (stood_small q h) (pow_pos w)) in
        let all : word w stands ≡ word w others + word w put =
        word_same w stands (λ q. others q + put q) (λ q h. by_own q h ∙ together (own q) (o.index q) (stood q))
        ∙ word_plus w others put (λ q h. either (own q) 0 (stood q) (pow_pos w) (stood_small q h))
        (λ q h. mine_small (own q) (stood q) (o.index q) (by_own q h) (stands_small q h)) in
        rw (eb, em, en, masked x stood stood_small, less)
        (let z : word w others + word w mine - word w mine + word w put ≡ word w stands = omega arith in z)
      where
        apart : (b : Bool) (y : ℕ) → y ≡ pick b 0 y + pick b y 0
        apart true y = sym (zero-add y)
        apart false y = sym (add-zero y)

        together : (b : Bool) (i y : ℕ) → pick b i y ≡ pick b 0 y + pick b i 0
        together true i y = sym (zero-add i)
        together false i y = sym (add-zero y)

        either : (b : Bool) (y z : ℕ) → y < 2 ^ w → z < 2 ^ w → pick b y z < 2 ^ w
        either true y z hy hz = hy
        either false y z hy hz = hz

        mine_small : (b : Bool) (y i : ℕ) {z : ℕ} → z ≡ pick b i y → z < 2 ^ w → pick b i 0 < 2 ^ w
        mine_small true y i e h = rw (← e) h
        mine_small false y i e h = pow_pos w

    stand_fits : Fit (index_widths (index_bits m a) (anchors s)) (table 16 stands)
    unfolding index_widths
    stand_fits = fit_table 16 (index_width (index_bits m a) (anchors s)) stands fits

    -- so the set is ready, and is stored as it stands
    pub stored : ℕ
    stored = join (index_widths (index_bits m a) (anchors s)) (table 16 stands)

    pub stored_lt : stored < 2 ^ total (index_widths (index_bits m a) (anchors s))
    unfolding stored
    stored_lt = join_lt stand_fits

    pub stored_split : split (index_widths (index_bits m a) (anchors s)) stored ≡ table 16 stands
    unfolding stored
    stored_split = split_join stand_fits

    module _ (n b : ℕ) {mask new : ℕ} (eb : b ≡ start m s (first_from + (16 * a + 0)))
        (e : (q : ℕ) → q < 16 → at_place m s n (index_place s l q) ≡ stood q)
        (em : mask ≡ word w (mask_part x)) (en : new ≡ word w (λ q. pick (own q) (o.index q) 0)) where
      after_split : split (index_widths w []) (set_after n k b x mask new) ≡ table 16 stands
      after_split = rw (after_word n b (before_word n b eb e) em en) (word_split w stands stands_small)

      pub set_ready : start m s (first_from + (16 * a + 0)) + total (index_widths (index_bits m a) (anchors s)) ≤ 128 → SetReady n k b x mask new
      set_ready room = record {
        width = record { least = omega (arith, is.least); most = is.most };
        rising = rising;
        second = rw is.anchors (anchors_low s (good_64 g)).second;
        third = rw is.anchors (anchors_low s (good_64 g)).third;
        below = omega (arith, eb, size_is, sizes k w is.least);
        room = rw (eb, size_is) room;
        small = rw (after_word n b (before_word n b eb e) em en) (word_lt w stands stands_small);
        fits = rw (after_split, anchors_are, bits) stand_fits;
      }

      pub set_put_is : set_put n k b x mask new
          ≡ replaced_at n (start m s (first_from + (16 * a + 0))) (total (index_widths (index_bits m a) (anchors s))) stored
      unfolding set_put stored
      set_put_is = rw (after_split, anchors_are, size_is, bits, eb)
