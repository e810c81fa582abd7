-- A line that is put in as it is stored leaves a block.
-- Assumes nothing.
use mathlib.Core.Path.{◌≡◌, refl, sym, ap, ◌∙◌}
use mathlib.Core.Logic.{◌≢◌}
use mathlib.Core.Bool.{Bool, true, false}
use mathlib.Core.List.{[]}
use Prim.Native.Nat.{ℕ, zero, suc, ◌+◌, ◌-◌, ◌*◌, ◌/◌, ◌%◌, ◌^◌, ◌<◌, ◌≤◌}
use native.Mathlib.Nat.{le_refl, le_trans, lt_of_lt_of_le, pow-suc, mod-lt}
use native.Mathlib.Omega.{arith}
use borrow.Author.Tests.{eqb-true, eqb-false, eq-eqb, ne_eqb, leb-true, leb-false, ltb-true}
use lib.Dec.{T, eqb, ltb, ltb→lt, lit<}
use lib.Pow.{pow_mono, pow_pos, ones_sub-lt}
use Rattle.bc7_format.specs.declared.Place.{Place}
use Rattle.bc7_format.specs.declared.Place.TheVariants.{Lead, Value, PBit, Index}
use Rattle.bc7_format.specs.declared.Split.{Split}
use Rattle.laws.specs.Tables.{pick}
use Rattle.laws.proofs.Tests.{both_left, both_right, no_both, true_T}
use Rattle.bc7_format.specs.Lines.{Line, anchor_of, index_set_of, has, index_place, laid, line_bits, line_of_place, p_place, turned, value_place, with_line}
use Rattle.bc7_format.specs.Modes.{channel_bits, endpoint_count, index_bits, p_count, second_bits}
use Rattle.bcn_format.specs.Partitions.{among}
use Rattle.bc7_format.specs.Places.{inside, width}
use Rattle.bc7_format.specs.Splits.{anchors, index_mode, is_vector, subset}
use Rattle.bc7_format.specs.WellFormed.{WellFormed}
use Rattle.bc7_format.proofs.Lens.{has_lead, has_parts}
use Rattle.bc7_format.proofs.Modes.{good_64, good_index_mode, good_subset, good_vector, lines_le, the_anchor}
use Rattle.line_rules.specs.Acceptable.{Acceptable, WithinLine}
use Rattle.line_rules.specs.Replace.{oriented, own_width, put, refusal_in, top_set}
use Rattle.line_rules.proofs.Accepting.{accepted_is}

-- a line whose values are within the widths of its mode
pub record Bounded (m : ℕ) (s : Split) (l : ℕ) (ln : Line) : Type 0 where
  pub value : (k c : ℕ) → k < 2 → c < 4 → ln.value k c < 2 ^ channel_bits m c
  pub p : (k : ℕ) → k < 2 → ln.p k < 2
  pub index : (q : ℕ) → q < 16 → ln.index q < 2 ^ line_bits m s l

or_zero : (b : Bool) (w : ℕ) → pick b w 0 ≤ w
or_zero true w = le_refl w
or_zero false w = omega arith

not_zero : (b : Bool) (w : ℕ) → pick b w 0 ≢ 0 → pick b w 0 ≡ w
not_zero true w n = refl
not_zero false w n = absurd (n refl)

pub own_width_le : (m : ℕ) (s : Split) (l : ℕ) (x : Place) → own_width m s l x ≤ width m [] x
unfolding own_width
own_width_le m s l x = or_zero (has m s l x) (width m [] x)

module _ (m : ℕ) (s : Split) (l : ℕ) (ln : Line) where
  value_width : (k c : ℕ) → own_width m s l (value_place s l k c) ≤ channel_bits m c
  unfolding width value_place
  value_width k c =
      le_trans (own_width_le m s l (value_place s l k c)) (or_zero (ltb (pick (is_vector s) k (2 * l + k)) (endpoint_count m)) (channel_bits m c))

  p_width : (k : ℕ) → own_width m s l (p_place m l k) ≤ 1
  unfolding width p_place
  p_width k = le_trans (own_width_le m s l (p_place m l k)) (or_zero (ltb (pick (eqb m 1) l (2 * l + k)) (p_count m)) 1)

  index_width_holds : (q : ℕ) → own_width m s l (index_place s l q) ≤ line_bits m s l
  unfolding width index_place line_bits
  index_width_holds q = own_width_le m s l (index_place s l q)

  pub bounded : WithinLine m s l ln → Bounded m s l ln
  bounded w = record {
    value = λ k c hk hc. lt_of_lt_of_le (w.value k c hk hc) (pow_mono (value_width k c));
    p = λ k hk. lt_of_lt_of_le (w.p k hk) (pow_mono (p_width k));
    index = λ q hq. lt_of_lt_of_le (w.index q hq) (pow_mono (index_width_holds q));
  }

  -- turning keeps it all
  bounded_turned : Bounded m s l ln → Bounded m s l (turned (line_bits m s l) ln)
  unfolding turned
  bounded_turned h = record {
    value = λ k c hk hc. h.value (1 - k) c (omega arith) hc;
    p = λ k hk. h.p (1 - k) (omega arith);
    index = λ q hq. ones_sub-lt (line_bits m s l) (ln.index q);
  }

  bounded_oriented : Bounded m s l ln → Bounded m s l (oriented m s l ln)
  unfolding oriented
  bounded_oriented h = go (top_set m s l ln)
    where
      go : (b : Bool) → Bounded m s l (pick b (turned (line_bits m s l) ln) ln)
      go true = bounded_turned h
      go false = h

  -- and at the anchor the top bit is zero
  anchor_low : 1 ≤ line_bits m s l → (oriented m s l ln).index (anchor_of s l) < 2 ^ (line_bits m s l - 1)
  unfolding oriented turned
  anchor_low one = go (top_set m s l ln) refl
    where
      w : ℕ
      w = line_bits m s l

      double : 2 ^ (w - 1) * 2 ≡ 2 ^ w
      double = sym (pow-suc 2 (w - 1)) ∙ ap (λ (k : ℕ). 2 ^ k) (let z : suc (w - 1) ≡ w = omega arith in z)

      go : (b : Bool) → top_set m s l ln ≡ b → (pick b (turned w ln) ln).index (anchor_of s l) < 2 ^ (w - 1)
      go true e = omega (arith, leb-true (2 ^ (w - 1)) (ln.index (anchor_of s l)) e, double, pow_pos (w - 1))
      go false e = leb-false _ _ e

-- the index set of a line, from a place that it has
index_set_is : (v : Bool) (a i l sub : ℕ) → a < 2 → i < 2 → pick v (pick (eqb a i) 0 1) sub ≡ l → (v ≡ false → a ≡ 0)
    → a ≡ pick v (pick (eqb l 0) i (1 - i)) 0
index_set_is false a i l sub ha hi e z = z refl
index_set_is true a i l sub ha hi e z = go (eqb a i) refl e
  where
    go : (b : Bool) → eqb a i ≡ b → pick b 0 1 ≡ l → a ≡ pick (eqb l 0) i (1 - i)
    go true p q = rw (eq-eqb l 0 (sym q)) (eqb-true a i p)
    go false p q = rw (ne_eqb l 0 (λ y. omega arith)) (let n : a ≢ i = eqb-false a i p in let r : a ≡ 1 - i = omega arith in r)

-- which of the line's values and p bits a place of the line is
pub own_pbit : (m : ℕ) (s : Split) (l k : ℕ) → has m s l (PBit k) ≡ true → p_place m l (pick (eqb m 1) 0 (k % 2)) ≡ PBit k
unfolding p_place
own_pbit m s l k h = ap PBit (go (eqb m 1) refl)
  where
    go : (b : Bool) → eqb m 1 ≡ b → pick b l (2 * l + pick b 0 (k % 2)) ≡ k
    go true b = let z : k ≡ l = rw b at (has_parts m s l (PBit k) h).2 in sym z
    go false b = let z : k / 2 ≡ l = rw b at (has_parts m s l (PBit k) h).2 in let y : 2 * l + k % 2 ≡ k = omega arith in y

module _ {m : ℕ} {s : Split} {f : Place → ℕ} (g : WellFormed m s f) where
  pub own_value : (l c e : ℕ) → has m s l (Value c e) ≡ true → value_place s l (e % 2) c ≡ Value c e
  unfolding value_place width
  own_value l c e h = ap (Value c) (go (is_vector s) refl)
    where
      not_none : (b : Bool) (w : ℕ) → pick b w 0 ≢ 0 → b ≡ true
      not_none true w n = refl
      not_none false w n = absurd (n refl)

      there : e < endpoint_count m
      there = ltb-true e (endpoint_count m) (not_none (ltb e (endpoint_count m)) _ (has_parts m s l (Value c e) h).1)

      go : (v : Bool) → is_vector s ≡ v → pick v (e % 2) (2 * l + e % 2) ≡ e
      go true v = let z : e % 2 ≡ e = omega (arith, there, (good_vector g v).ends) in z
      go false v = let z : e / 2 ≡ l = rw v at (has_parts m s l (Value c e) h).2 in let y : 2 * l + e % 2 ≡ e = omega arith in y

  pub has_index_set : (l a q : ℕ) → has m s l (Index a q) ≡ true → a ≡ index_set_of s l
  unfolding index_set_of width
  has_index_set l a q h =
      let p = has_parts m s l (Index a q) h in
      let ha : a < 2 = ltb→lt a 2 (both_left (ltb a 2) (ltb q 16) p.0) in
      index_set_is (is_vector s) a (index_mode s) l (subset s q) ha (good_index_mode g) p.2 (λ v. only_first a ha p.1 (good_subset g v).second)
    where
      only_first : (a : ℕ) → a < 2 → index_bits m a ≢ 0 → second_bits m ≡ 0 → a ≡ 0
      only_first zero ha n z = refl
      only_first (suc zero) ha n z = absurd (n z)
      only_first (suc (suc a)) ha n z = absurd (let y : ⊥ = omega arith in y)

  -- what is put in fits, place by place
  laid_fits : (l : ℕ) (ln : Line) → l < 9 → Bounded m s l ln → (1 ≤ line_bits m s l → ln.index (anchor_of s l) < 2 ^ (line_bits m s l - 1))
      → (x : Place) → has m s l x ≡ true → laid m ln x < 2 ^ width m (anchors s) x
  unfolding laid width line_bits
  laid_fits l ln hl w low (Lead k) h = absurd (no_both h (has_lead m s l k hl))
  laid_fits l ln hl w low (Value c e) h =
      let p = has_parts m s l (Value c e) h in
      let hc : c < 4 = ltb→lt c 4 (both_left (ltb c 4) (ltb e 6) p.0) in
      rw (not_zero (ltb e (endpoint_count m)) (channel_bits m c) p.1) (w.value (e % 2) c (mod-lt e (lit< tt)) hc)
  laid_fits l ln hl w low (PBit k) h =
      let p = has_parts m s l (PBit k) h in
      rw (not_zero (ltb k (p_count m)) 1 p.1) (w.p (pick (eqb m 1) 0 (k % 2)) (small (eqb m 1)))
    where
      small : (b : Bool) → pick b 0 (k % 2) < 2
      small true = lit< tt
      small false = mod-lt k (lit< tt)
  laid_fits l ln hl w low (Index a q) h = go (among q (anchors s)) refl
    where
      p : T (inside (Index a q)) × (width m [] (Index a q) ≢ 0) × (line_of_place m s (Index a q) ≡ l)
      p = has_parts m s l (Index a q) h

      ea : a ≡ index_set_of s l
      ea = has_index_set l a q h

      hq : q < 16
      hq = ltb→lt q 16 (both_right (ltb a 2) (ltb q 16) p.0)

      one : 1 ≤ index_bits m (index_set_of s l)
      one = let n : index_bits m (index_set_of s l) ≢ 0 = rw ea at p.1 in omega arith

      sub : is_vector s ≡ false → subset s q ≡ l
      sub v = rw v at p.2

      go : (b : Bool) → among q (anchors s) ≡ b → ln.index q < 2 ^ pick b (index_bits m a - 1) (index_bits m a)
      go true t =
          let e : q ≡ anchor_of s l = the_anchor s q l (good_64 g) hq (true_T _ t) sub in
          rw (ea, e) (low one)
      go false t = rw ea (w.index q hq)

  -- an accepted call leaves a block
  pub put_good : (l : ℕ) (ln : Line) → refusal_in m s l ln ≡ 0 → WellFormed m s (put m s l ln f)
  unfolding put with_line
  put_good l ln e = record {
    mode = g.mode;
    marker = kept 0 ∙ g.marker;
    splits = rw (kept 1, kept 2, kept 3) g.splits;
    fits = λ x i. go x i (has m s l x) refl;
  }
    where
      a : Acceptable m s l ln
      a = accepted_is m s l ln e

      hl : l < 9
      hl = omega (arith, a.line, lines_le m g.mode)

      kept : (k : ℕ) → pick (has m s l (Lead k)) (laid m (oriented m s l ln) (Lead k)) (f (Lead k)) ≡ f (Lead k)
      kept k = rw (has_lead m s l k hl)

      go : (x : Place) → T (inside x) → (b : Bool) → has m s l x ≡ b → pick b (laid m (oriented m s l ln) x) (f x) < 2 ^ width m (anchors s) x
      go x i true h = laid_fits l (oriented m s l ln) hl (bounded_oriented m s l ln (bounded m s l ln a.within)) (anchor_low m s l ln) x h
      go x i false h = g.fits x i
