-- A record's groups fit their widths, and together all of it.
-- Assumes nothing.
use mathlib.Core.Path.{◌≡◌, refl, sym, ap, ap₂, ◌∙◌, subst}
use mathlib.Core.Bool.{Bool, true, false}
use mathlib.Core.List.{List, [], ◌∷◌}
use Prim.Native.Nat.{ℕ, zero, suc, ◌+◌, ◌-◌, ◌*◌, ◌/◌, ◌%◌, ◌^◌, ◌≤◌, ◌<◌}
use native.Mathlib.Omega.{arith}
use borrow.Author.Tests.{eq-eqb, eqb-true, le-ltb, lt-ltb, ltb-true}
use lib.Dec.{T, eqb, ltb, ltb→lt}
use lib.ListN.{get_or, replicate}
use lib.Pow.{pow-lt}
use Rattle.bc7_format.specs.declared.Place.TheVariants.{Lead, Value, PBit, Index}
use Rattle.record_rules.specs.declared.Record.{Record}
use Rattle.bc7_places.specs.declared.splits.Anchors.{Anchors}
use Rattle.bc7_modes.specs.declared.ModeRow.{ModeRow}
use Rattle.laws.specs.Digits.{join, split}
use Rattle.laws.specs.Tables.{below, both, pick, table, table_from}
use Rattle.laws.proofs.Digits.{split_join}
use Rattle.laws.proofs.Fitting.{fits_all, fits_each}
use Rattle.laws.proofs.Part.{get_d_table}
use Rattle.laws.proofs.Rows.{fit_table}
use Rattle.laws.proofs.Scan.{scan_same}
use Rattle.laws.proofs.Tests.{both_left, both_right, both_true, no_both, not_so, true_T}
use Rattle.bc7_format.specs.Modes.{index_bits, second_bits}
use Rattle.bcn_format.specs.Partitions.{among, or}
use Rattle.bc7_format.specs.Places.{width}
use Rattle.bc7_format.specs.Splits.{anchors, index_mode, partition, rotation}
use Rattle.bc7_format.proofs.Modes.{by_subset}
use Rattle.bc7_format.proofs.Places.{inside_index, inside_pbit, inside_value}
use Rattle.record_rules.specs.Answers.{TopsZero, Within}
use Rattle.record_rules.specs.Records.{fits, says}
use Rattle.record_rules.proofs.Answering.{zero_tops_stored, fits_at, fits_of, stored_zero_tops}
use Rattle.bc7_places.specs.Splits.{ArePixels, anchors_of, three_of}
use Rattle.bc7_modes.specs.Modes.{mode_row_of}
use Rattle.bc7_modes.proofs.Bounds.{low_partition}
use Rattle.bc7_places.proofs.splits.AnchorPixels.{three_are, anchors_low}
use Rattle.record.specs.Fitting.{Full, split_fits, stored_fit, tops_zero, value_bits}
use Rattle.bc7_places.proofs.fits.Bytes.{one_width}

-- a pair of endpoints as one word
module _ (row : ModeRow) (e : List ℕ) (o : ℕ) (bytes : (i : ℕ) → get_or e i 0 < 2 ^ 8) (whole : o % 8 ≡ 0) where
  pair_bytes : {x : ℕ} → x ≡ join (replicate 8 8) (table 8 (λ i. get_or e (o + i) 0)) → (i : ℕ) → i < 8
      → get_or (split (replicate 8 8) x) i 0 ≡ get_or e (o + i) 0
  unfolding table table_from
  pair_bytes ex i h =
      ap (λ (y : ℕ). get_or (split (replicate 8 8) y) i 0) ex
      ∙ ap (λ (l : List ℕ). get_or l i 0) (split_join (fit_table 8 (λ i. 8) (λ i. get_or e (o + i) 0) (λ i l. bytes (o + i))))
      ∙ get_d_table 8 (λ i. get_or e (o + i) 0) 0 i h

  pair_by : (c a : ℕ) → ((i : ℕ) → i < 8 → pick (eqb (i % 4) 3) a c ≡ value_bits row (o + i)) → {x : ℕ} {t : Bool}
      → x ≡ join (replicate 8 8) (table 8 (λ i. get_or e (o + i) 0))
      → t ≡ below 8 (λ i. ltb (get_or (split (replicate 8 8) x) i 0) (2 ^ pick (eqb (i % 4) 3) a c))
      → t ≡ below 8 (λ i. ltb (get_or e (o + i) 0) (2 ^ value_bits row (o + i)))
  pair_by c a w ex et = et ∙ scan_same 8 _ _ (λ i h. ap₂ (λ (x y : ℕ). ltb x (2 ^ y)) (pair_bytes ex i h) (w i h))

  -- one that the mode has not
  pub pair_none : 4 * row.endpoints ≤ o → {x : ℕ} {t : Bool} → x ≡ join (replicate 8 8) (table 8 (λ i. get_or e (o + i) 0))
      → t ≡ below 8 (λ i. ltb (get_or (split (replicate 8 8) x) i 0) (2 ^ pick (eqb (i % 4) 3) 0 0))
      → t ≡ below 8 (λ i. ltb (get_or e (o + i) 0) (2 ^ value_bits row (o + i)))
  pair_none past =
      pair_by 0 0 (λ i h.
      one_width (eqb (i % 4) 3) 0 ∙ sym (rw (le-ltb ((o + i) / 4) row.endpoints (omega arith))))

  -- one that it has
  pub pair_has : row.endpoints % 2 ≡ 0 → o < 4 * row.endpoints → {x : ℕ} {t : Bool} → x ≡ join (replicate 8 8) (table 8 (λ i. get_or e (o + i) 0))
      → t ≡ below 8 (λ i. ltb (get_or (split (replicate 8 8) x) i 0) (2 ^ pick (eqb (i % 4) 3) row.alpha row.colour))
      → t ≡ below 8 (λ i. ltb (get_or e (o + i) 0) (2 ^ value_bits row (o + i)))
  pair_has even there =
      pair_by row.colour row.alpha (λ i h.
      let m : (o + i) % 4 ≡ i % 4 = omega arith in
      sym (rw (lt-ltb ((o + i) / 4) row.endpoints (omega arith), m)))

-- n values, each of its own width
abbrev all_fit : ℕ → (ℕ → ℕ) → (ℕ → ℕ) → Bool
all_fit n v w = below n (λ k. ltb (v k) (2 ^ w k))

-- ALL OF A RECORD at its full widths
module _ (r : Record) {row : ModeRow} (hm : r.mode < 8) (er : row ≡ mode_row_of r.mode) where
  -- what fits everywhere fits in each group
  pub split_from : Within r → split_fits r.split row ≡ true
  unfolding says width
  split_from w = rw (er, lt-ltb _ _ (w (Lead 1) tt), lt-ltb _ _ (w (Lead 2) tt)) (lt-ltb _ _ (w (Lead 3) tt))

  pub values_from_is : Within r → all_fit 24 (λ i. get_or r.endpoints i 0) (value_bits row) ≡ true
  unfolding says width
  values_from_is w =
      rw er (fits_all 24 (λ i. get_or r.endpoints i 0) (value_bits (mode_row_of r.mode)) (λ i l.
      subst (λ (j : ℕ). get_or r.endpoints j 0 < 2 ^ value_bits (mode_row_of r.mode) i) (let z : 4 * (i / 4) + i % 4 ≡ i = omega arith in z)
      (w (Value (i % 4) (i / 4)) (inside_value {c = i % 4} {e = i / 4} (omega arith) (omega arith)))))

  pub ps_from_is : Within r → all_fit 6 (λ k. get_or r.p k 0) (λ k. pick (ltb k row.p) 1 0) ≡ true
  unfolding says width
  ps_from_is w = rw er (fits_all 6 (λ k. get_or r.p k 0) (λ k. pick (ltb k (mode_row_of r.mode).p) 1 0) (λ k l. w (PBit k) (inside_pbit l)))

  pub first_from_is : Within r → all_fit 16 (λ q. get_or r.first q 0) (λ q. row.first) ≡ true
  unfolding says width
  first_from_is w =
      rw er (fits_all 16 (λ q. get_or r.first q 0) (λ q. (mode_row_of r.mode).first) (λ q l. w (Index 0 q) (inside_index {a = 0} (omega arith) l)))

  pub second_from : Within r → all_fit 16 (λ q. get_or r.second q 0) (λ q. row.second) ≡ true
  unfolding says width
  second_from w =
      rw er
      (fits_all 16 (λ q. get_or r.second q 0) (λ q. (mode_row_of r.mode).second) (λ q l. w (Index 1 q) (inside_index {a = 1} (omega arith) l)))

  -- and back
  module _ (s : split_fits r.split row ≡ true) (v : all_fit 24 (λ i. get_or r.endpoints i 0) (value_bits row) ≡ true)
      (p : all_fit 6 (λ k. get_or r.p k 0) (λ k. pick (ltb k row.p) 1 0) ≡ true)
      (f : all_fit 16 (λ q. get_or r.first q 0) (λ q. row.first) ≡ true) where
    leads : (partition r.split < 2 ^ row.partition) × (rotation r.split < 2 ^ row.rotation) × (index_mode r.split < 2 ^ row.index_mode)
    leads =
        let rest = both_true (ltb (partition r.split) (2 ^ row.partition))
        (both (ltb (rotation r.split) (2 ^ row.rotation)) (ltb (index_mode r.split) (2 ^ row.index_mode))) s in
        let last = both_true (ltb (rotation r.split) (2 ^ row.rotation)) (ltb (index_mode r.split) (2 ^ row.index_mode)) rest.1 in
        (ltb-true _ _ rest.0, ltb-true _ _ last.0, ltb-true _ _ last.1)

    within : all_fit 16 (λ q. get_or r.second q 0) (λ q. row.second) ≡ true → Within r
    unfolding says width
    within g (Lead zero) h = pow-lt {i = r.mode} {j = suc r.mode} (omega arith)
    within g (Lead (suc zero)) h = rw er at leads.0
    within g (Lead (suc (suc zero))) h = rw er at leads.1
    within g (Lead (suc (suc (suc zero)))) h = rw er at leads.2
    within g (Lead (suc (suc (suc (suc k))))) h = absurd (let l = ltb→lt (suc (suc (suc (suc k)))) 4 h in let z : ⊥ = omega arith in z)
    within g (Value c e) h =
        let hc : c < 4 = ltb→lt c 4 (both_left (ltb c 4) (ltb e 6) h) in
        let he : e < 6 = ltb→lt e 6 (both_right (ltb c 4) (ltb e 6) h) in
        let d : (4 * e + c) / 4 ≡ e = omega arith in
        let q : (4 * e + c) % 4 ≡ c = omega arith in
        rw (er, d, q) at (fits_each 24 (λ i. get_or r.endpoints i 0) (value_bits row) v (4 * e + c) (omega arith))
    within g (PBit k) h = rw er at (fits_each 6 (λ k. get_or r.p k 0) (λ k. pick (ltb k row.p) 1 0) p k (ltb→lt k 6 h))
    within g (Index zero q) h =
        rw er at (fits_each 16 (λ q. get_or r.first q 0) (λ q. row.first) f q (ltb→lt q 16 (both_right (ltb 0 2) (ltb q 16) h)))
    within g (Index (suc zero) q) h =
        rw er at (fits_each 16 (λ q. get_or r.second q 0) (λ q. row.second) g q (ltb→lt q 16 (both_right (ltb 1 2) (ltb q 16) h)))
    within g (Index (suc (suc a)) q) h =
        absurd (let l = ltb→lt (suc (suc a)) 2 (both_left (ltb (suc (suc a)) 2) (ltb q 16) h) in let z : ⊥ = omega arith in z)

  -- so where a group fails all fails, and where the others hold the last one decides
  pub one_fails : (b : Bool) → (Within r → b ≡ true) → b ≡ false → false ≡ fits r.mode [] (says r)
  one_fails b f e = sym (not_so _ (λ t. no_both (f (fits_at r.mode [] (says r) t)) e))

  pub last_decides : split_fits r.split row ≡ true → all_fit 24 (λ i. get_or r.endpoints i 0) (value_bits row) ≡ true
      → all_fit 6 (λ k. get_or r.p k 0) (λ k. pick (ltb k row.p) 1 0) ≡ true
      → all_fit 16 (λ q. get_or r.first q 0) (λ q. row.first) ≡ true
      → all_fit 16 (λ q. get_or r.second q 0) (λ q. row.second) ≡ fits r.mode [] (says r)
  last_decides s v p f = go (all_fit 16 (λ q. get_or r.second q 0) (λ q. row.second)) refl
    where
      go : (b : Bool) → all_fit 16 (λ q. get_or r.second q 0) (λ q. row.second) ≡ b → b ≡ fits r.mode [] (says r)
      go true e = sym (fits_of r.mode [] (says r) (within s v p f e))
      go false e = one_fails _ second_from e

-- THE ANCHORS at their stored widths, where everything fits its full one
-- one of three
or_true : (b : Bool) → or b true ≡ true
or_true true = refl
or_true false = refl

one_of_three : (P : ℕ → Type 0) (q a b c : ℕ) → T (among q (a ∷ b ∷ c ∷ [])) → P a → P b → P c → P q
one_of_three P q a b c t pa pb pc = first (eqb q a) refl t
  where
    third : (x : Bool) → eqb q c ≡ x → T (or x false) → P q
    third true e t = subst P (sym (eqb-true q c e)) pc
    third false e t = absurd t

    second : (x : Bool) → eqb q b ≡ x → T (or x (or (eqb q c) false)) → P q
    second true e t = subst P (sym (eqb-true q b e)) pb
    second false e t = third (eqb q c) refl t

    first : (x : Bool) → eqb q a ≡ x → T (or x (or (eqb q b) (or (eqb q c) false))) → P q
    first true e t = subst P (sym (eqb-true q a e)) pa
    first false e t = second (eqb q b) refl t

module _ {r : Record} {row : ModeRow} (full : Full r row) where
  pub part_64 : partition r.split < 64
  unfolding says width
  part_64 = low_partition r.mode _ full.low (full.within (Lead 1) tt)

  module _ {a : Anchors} (ea : a ≡ anchors_of r.split) where
    pub pixels : ArePixels a
    pixels = rw ea (anchors_low r.split part_64)

    are : (q : ℕ) → among q (three_of a) ≡ among q (anchors r.split)
    are q = rw ea (three_are r.split part_64 q)

    -- a set whose values are these
    module _ (k : ℕ) (hk : k < 2) (vs : List ℕ) (ev : (q : ℕ) → q < 16 → says r (Index k q) ≡ get_or vs q 0) where
      abbrev w : ℕ
      w = index_bits r.mode k - 1

      tops_from : TopsZero r → tops_zero vs a w ≡ true
      tops_from c =
          let tops_are_zero : (q : ℕ) → q < 16 → among q (three_of a) ≡ true → ltb (get_or vs q 0) (2 ^ w) ≡ true =
          λ q h t. lt-ltb _ _ (rw (ev q h) at (c k q (inside_index hk h) (true_T _ (sym (are q) ∙ t)))) in
          rw (
            tops_are_zero a.a pixels.first (rw (eq-eqb a.a a.a refl)),
            tops_are_zero a.b pixels.second (rw (eq-eqb a.b a.b refl, or_true)),
          )
          (tops_are_zero a.c pixels.third (rw (eq-eqb a.c a.c refl, or_true, or_true)))

      from_tops : tops_zero vs a w ≡ true → (q : ℕ) → q < 16 → T (among q (anchors r.split)) → says r (Index k q) < 2 ^ w
      from_tops t q h i =
          let rest = both_true (ltb (get_or vs a.a 0) (2 ^ w)) (both (ltb (get_or vs a.b 0) (2 ^ w)) (ltb (get_or vs a.c 0) (2 ^ w))) t in
          let last = both_true (ltb (get_or vs a.b 0) (2 ^ w)) (ltb (get_or vs a.c 0) (2 ^ w)) rest.1 in
          rw (ev q h)
          (one_of_three (λ q. get_or vs q 0 < 2 ^ w) q a.a a.b a.c (subst T (sym (are q)) i) (ltb-true _ _ rest.0)
          (ltb-true _ _ last.0) (ltb-true _ _ last.1))

    -- both sets
    abbrev first_zero : Bool
    first_zero = tops_zero r.first a (row.first - 1)

    abbrev second_zero : Bool
    second_zero = tops_zero r.second a (row.second - 1)

    first_from_zero : TopsZero r → first_zero ≡ true
    unfolding says
    first_from_zero c = rw full.is (tops_from 0 (omega arith) r.first (λ q h. refl) c)

    second_from_zero : TopsZero r → second_zero ≡ true
    unfolding says
    second_from_zero c = rw full.is (tops_from 1 (omega arith) r.second (λ q h. refl) c)

    tops_are_zero : first_zero ≡ true → ((q : ℕ) → q < 16 → T (among q (anchors r.split)) → says r (Index 1 q) < 2 ^ (second_bits r.mode - 1))
        → TopsZero r
    unfolding says
    tops_are_zero f g zero q i t =
        from_tops 0 (omega arith) r.first (λ q h. refl) (rw full.is at f) q (ltb→lt q 16 (both_right (ltb 0 2) (ltb q 16) i)) t
    tops_are_zero f g (suc zero) q i t = g q (ltb→lt q 16 (both_right (ltb 1 2) (ltb q 16) i)) t
    tops_are_zero f g (suc (suc k)) q i t =
        absurd (let l = ltb→lt (suc (suc k)) 2 (both_left (ltb (suc (suc k)) 2) (ltb q 16) i) in let z : ⊥ = omega arith in z)

    stored_of : TopsZero r → stored_fit r ≡ true
    stored_of c = fits_of r.mode (anchors r.split) (says r) (zero_tops_stored r full.within c)

    tops_of : stored_fit r ≡ true → TopsZero r
    tops_of e = stored_zero_tops r (fits_at r.mode (anchors r.split) (says r) e)

    -- what the code answers, group by group
    pub first_not : first_zero ≡ false → false ≡ stored_fit r
    first_not e = sym (not_so _ (λ t. no_both (first_from_zero (tops_of t)) e))

    pub first_only : first_zero ≡ true → (row.kind ≡ 3 → ⊥) → true ≡ stored_fit r
    unfolding width
    first_only e k =
        let none : second_bits r.mode ≡ 0 = (by_subset r.mode full.low (λ z. k (ap (λ (x : ModeRow). x.kind) full.is ∙ z))).second in
        sym (stored_of (tops_are_zero e (λ q h t. rw none (rw none at (full.within (Index 1 q) (inside_index {a = 1} (omega arith) h))))))

    pub second_decides : first_zero ≡ true → second_zero ≡ stored_fit r
    unfolding says
    second_decides e = go second_zero refl
      where
        go : (b : Bool) → second_zero ≡ b → b ≡ stored_fit r
        go true g = sym (stored_of (tops_are_zero e (from_tops 1 (omega arith) r.second (λ q h. refl) (rw full.is at g))))
        go false g = sym (not_so _ (λ t. no_both (second_from_zero (tops_of t)) g))
