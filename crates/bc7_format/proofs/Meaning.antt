-- What a line draws: by its own places, and the same when it is turned round.
-- Assumes nothing.
use mathlib.Core.Path.{◌≡◌, refl, sym, ap, ap₂, ◌∙◌, subst}
use mathlib.Core.Logic.{◌≢◌}
use mathlib.Core.Bool.{Bool, true, false}
use Prim.Native.Nat.{ℕ, zero, suc, ◌+◌, ◌-◌, ◌*◌, ◌/◌, ◌%◌, ◌^◌, ◌<◌, ◌≤◌}
use native.Mathlib.Nat.{lt_of_lt_of_le}
use native.Mathlib.Omega.{arith}
use borrow.Author.Tests.{eqb-true, eqb-false, eq-eqb, ne_eqb, lt-ltb}
use lib.Dec.{eqb, ltb, lt→ltb, leb, leb→le}
use lib.Pow.{pow_mono}
use Rattle.bc7_format.specs.declared.Place.{Place}
use Rattle.bc7_format.specs.declared.Place.TheVariants.{Lead, Value, PBit, Index}
use Rattle.bc7_format.specs.declared.Split.{Split}
use Rattle.laws.specs.Tables.{pick}
use Rattle.laws.proofs.Cases.{pick_lt}
use Rattle.laws.proofs.Tests.{at}
use Rattle.bcn_format.specs.Drawing.{drawn, weight_of}
use Rattle.bc7_format.specs.Lines.{eight, Line, index_set_of, has, index_place, laid, line_bits, means_stored, p_place, rotated, turned, value_place}
use Rattle.bc7_format.specs.Modes.{channel_bits, endpoint_count, first_bits, index_bits, lines, mode_row, p_count, rotation_bits, second_bits}
use Rattle.bc7_format.specs.Places.{width}
use Rattle.bc7_format.specs.Splits.{index_mode, is_vector, rotation, subset}
use Rattle.bc7_format.specs.WellFormed.{WellFormed}
use Rattle.bcn_format.proofs.Drawing.{symmetric}
use Rattle.bc7_format.proofs.Lens.{has_intro}
use Rattle.bc7_format.proofs.Places.{inside_index, inside_value}
use Rattle.bc7_format.proofs.Modes.{ByVector, good_index_mode, good_parts, good_subset, good_vector, p_count_is}

-- turning leaves the meaning
pub turned_means : (m : ℕ) (s : Split) (l : ℕ) (ln : Line) (q c : ℕ) → 2 ≤ line_bits m s l → line_bits m s l ≤ 4 → ln.index q < 2 ^ line_bits m s l
    → means_stored m s l (turned (line_bits m s l) ln) q c ≡ means_stored m s l ln q c
unfolding means_stored turned
turned_means m s l ln q c h2 h4 hi =
    symmetric (line_bits m s l) (ln.index q) (eight m c (ln.value 0 c) (ln.p 0)) (eight m c (ln.value 1 c) (ln.p 1)) h2 h4 hi

-- the p bits matter only where the mode has some
pub eight_ext : (m c v v' p p' : ℕ) → v ≡ v' → (p_count m ≢ 0 → p ≡ p') → eight m c v p ≡ eight m c v' p'
unfolding eight
eight_ext m c v v' p p' ev ep = go (eqb (p_count m) 0) refl
  where
    go : (b : Bool) → eqb (p_count m) 0 ≡ b → eight m c v p ≡ eight m c v' p'
    go true e = rw (e, ev)
    go false e = rw (ev, ep (eqb-false _ _ e))

pub means_ext : (m : ℕ) (s : Split) (l : ℕ) (a b : Line) (q c : ℕ) → ((k : ℕ) → k < 2 → a.value k c ≡ b.value k c)
    → (p_count m ≢ 0 → (k : ℕ) → k < 2 → a.p k ≡ b.p k) → a.index q ≡ b.index q
    → means_stored m s l a q c ≡ means_stored m s l b q c
unfolding means_stored
means_ext m s l a b q c ev ep ei =
    let h0 : 0 < 2 = omega arith in
    let h1 : 1 < 2 = omega arith in
    ap₂ (λ (x y : ℕ). drawn x y (weight_of (line_bits m s l) (a.index q))) (eight_ext m c _ _ _ _ (ev 0 h0) (λ n. ep n 0 h0))
    (eight_ext m c _ _ _ _ (ev 1 h1) (λ n. ep n 1 h1))
    ∙ ap (λ (i : ℕ). drawn (eight m c (b.value 0 c) (b.p 0)) (eight m c (b.value 1 c) (b.p 1)) (weight_of (line_bits m s l) i)) ei

pub index_set_lt : (s : Split) (l : ℕ) → index_mode s < 2 → index_set_of s l < 2
unfolding index_set_of
index_set_lt s l h =
    pick_lt (is_vector s) (pick (eqb l 0) (index_mode s) (1 - index_mode s)) 0 2 (pick_lt (eqb l 0) (index_mode s) (1 - index_mode s) 2 h (omega arith))
    (omega arith)

-- what a line has for its own places
pub laid_value : (m : ℕ) (s : Split) (l : ℕ) (o : Line) (k c : ℕ) → k < 2 → laid m o (value_place s l k c) ≡ o.value k c
unfolding laid value_place
laid_value m s l o k c hk = go (is_vector s)
  where
    go : (v : Bool) → o.value (pick v k (2 * l + k) % 2) c ≡ o.value k c
    go true = ap (λ (j : ℕ). o.value j c) (let z : k % 2 ≡ k = omega arith in z)
    go false = ap (λ (j : ℕ). o.value j c) (let z : (2 * l + k) % 2 ≡ k = omega arith in z)

pub laid_p : (m l : ℕ) (o : Line) (k : ℕ) → k < 2 → (m ≡ 1 → o.p 0 ≡ o.p 1) → laid m o (p_place m l k) ≡ o.p k
unfolding laid p_place
laid_p m l o k hk same = go (eqb m 1) refl
  where
    either : (k : ℕ) → k < 2 → o.p 0 ≡ o.p 1 → o.p 0 ≡ o.p k
    either zero h e = refl
    either (suc zero) h e = e
    either (suc (suc k)) h e = absurd (let z : ⊥ = omega arith in z)

    go : (b : Bool) → eqb m 1 ≡ b → o.p (pick b 0 (pick b l (2 * l + k) % 2)) ≡ o.p k
    go true e = either k hk (same (eqb-true m 1 e))
    go false e = ap (λ (j : ℕ). o.p j) (let z : (2 * l + k) % 2 ≡ k = omega arith in z)

pub laid_index : (m : ℕ) (s : Split) (l : ℕ) (o : Line) (q : ℕ) → laid m o (index_place s l q) ≡ o.index q
unfolding laid index_place
laid_index m s l o q = refl

pub rotated_lt : (r c : ℕ) → r < 4 → c < 4 → rotated r c < 4
unfolding rotated
rotated_lt zero c hr hc = hc
rotated_lt (suc r) c hr hc = go (eqb c 3) (eqb c r)
  where
    go : (a b : Bool) → pick a r (pick b 3 c) < 4
    go true b = omega arith
    go false true = omega arith
    go false false = hc

two_bits : (m : ℕ) → m < 8 → rotation_bits m ≤ 2
unfolding mode_row
two_bits m h = leb→le _ 2 (at 8 (λ m. leb (rotation_bits m) 2) tt m h)

module _ {m : ℕ} {s : Split} {f : Place → ℕ} (g : WellFormed m s f) where
  pub good_rotation : rotation s < 4
  unfolding width
  good_rotation = subst (λ (r : ℕ). r < 4) (sym (good_parts g).1) (lt_of_lt_of_le (g.fits (Lead 2) tt) (pow_mono (two_bits m g.mode)))

  -- the width of a line's indexes
  pub line_bits_is : (l : ℕ) → (2 ≤ line_bits m s l) × (line_bits m s l ≤ 4)
  unfolding line_bits index_set_of
  line_bits_is l = go (is_vector s) refl
    where
      either : ByVector m → (b : Bool) → (2 ≤ pick b (first_bits m) (second_bits m)) × (pick b (first_bits m) (second_bits m) ≤ 4)
      either v true = (v.least1, v.most1)
      either v false = (v.least2, v.most2)

      go : (b : Bool) → is_vector s ≡ b
          → let bits = index_bits m (pick b (pick (eqb l 0) (index_mode s) (1 - index_mode s)) 0) in
          (2 ≤ bits) × (bits ≤ 4)
      go true e = either (good_vector g e) (eqb (pick (eqb l 0) (index_mode s) (1 - index_mode s)) 0)
      go false e = ((good_subset g e).least, (good_subset g e).most)

  module _ (l : ℕ) (hl : l < lines m) where
    -- the places that a line has
    pub has_value : (k c : ℕ) → k < 2 → c < 4 → channel_bits m c ≢ 0 → (is_vector s ≡ true → pick (eqb c 3) 1 0 ≡ l)
        → has m s l (value_place s l k c) ≡ true
    unfolding value_place width
    has_value k c hk hc hb hv = go (is_vector s) refl
      where
        wide : (e : ℕ) → e < endpoint_count m → pick (ltb e (endpoint_count m)) (channel_bits m c) 0 ≢ 0
        wide e h = rw (lt-ltb e (endpoint_count m) h) hb

        go : (v : Bool) → is_vector s ≡ v → has m s l (Value c (pick v k (2 * l + k))) ≡ true
        go true e =
            has_intro m s l (Value c k) (inside_value {e = k} hc (omega arith))
            (wide k (omega (arith, (good_vector g e).ends))) (rw e (hv e))
        go false e =
            let y = good_subset g e in
            has_intro m s l (Value c (2 * l + k)) (inside_value {e = 2 * l + k} hc (omega arith))
            (wide (2 * l + k) (omega arith)) (rw e (let z : (2 * l + k) / 2 ≡ l = omega arith in z))

    pub has_p : (k : ℕ) → k < 2 → p_count m ≢ 0 → has m s l (p_place m l k) ≡ true
    unfolding p_place width
    has_p k hk n = go (eqb m 1) refl
      where
        some : (i : ℕ) → i < p_count m → ◌≢◌ {A = ℕ} (pick (ltb i (p_count m)) 1 0) 0
        some i h = rw (lt-ltb i (p_count m) h) (λ z. omega arith)

        c : (pick (eqb m 1) (lines m) (2 * lines m) ≡ p_count m) × (lines m ≤ 3)
        c = p_count_is m g.mode n

        go : (b : Bool) → eqb m 1 ≡ b → has m s l (PBit (pick b l (2 * l + k))) ≡ true
        go true e =
            let d : lines m ≡ p_count m = rw e at c.0 in
            has_intro m s l (PBit l) (lt→ltb l 6 (omega (arith, c.1))) (some l (omega arith)) (rw e refl)
        go false e =
            let d : 2 * lines m ≡ p_count m = rw e at c.0 in
            has_intro m s l (PBit (2 * l + k)) (lt→ltb (2 * l + k) 6 (omega (arith, c.1))) (some (2 * l + k) (omega arith))
            (rw e (let z : (2 * l + k) / 2 ≡ l = omega arith in z))

    pub has_index : (q : ℕ) → q < 16 → (is_vector s ≡ false → subset s q ≡ l) → has m s l (index_place s l q) ≡ true
    unfolding index_place width line_bits index_set_of
    has_index q hq sub = has_intro m s l (Index (index_set_of s l) q) (inside_index (index_set_lt s l (good_index_mode g)) hq) some mine
      where
        some : index_bits m (index_set_of s l) ≢ 0
        some z = omega (arith, (line_bits_is l).0)

        i : ℕ
        i = index_mode s

        hi : i < 2
        hi = good_index_mode g

        mine : pick (is_vector s) (pick (eqb (index_set_of s l) i) 0 1) (subset s q) ≡ l
        mine = go (is_vector s) refl
          where
            pair : (b : Bool) → eqb l 0 ≡ b → lines m ≡ 2 → pick (eqb (pick b i (1 - i)) i) 0 1 ≡ l
            pair true e two = rw (eq-eqb i i refl) (sym (eqb-true l 0 e))
            pair false e two = rw (ne_eqb (1 - i) i (λ z. omega arith)) (let n : l ≢ 0 = eqb-false l 0 e in let z : 1 ≡ l = omega arith in z)

            go : (v : Bool) → is_vector s ≡ v → pick v (pick (eqb (pick v (pick (eqb l 0) i (1 - i)) 0) i) 0 1) (subset s q) ≡ l
            go true e = pair (eqb l 0) refl (good_vector g e).two
            go false e = sub e
