-- The groups of a line one after the other, up to the whole block.
-- Assumes nothing.
use mathlib.Core.Path.{◌≡◌, refl, sym, ap, ◌∙◌, subst}
use mathlib.Core.Logic.{◌≢◌, ◌⊎◌, inl, inr, ⊎_elim}
use mathlib.Core.Bool.{Bool, true, false}
use mathlib.Core.List.{List}
use Prim.Native.Nat.{ℕ, zero, suc, ◌+◌, ◌-◌, ◌*◌, ◌/◌, ◌%◌, ◌^◌, ◌≤◌, ◌<◌}
use native.Mathlib.Nat.{div-one, mod-eq_of_lt, mod-lt}
use native.Mathlib.Omega.{arith}
use borrow.Author.Tests.{eq-eqb, ne_eqb}
use lib.Dec.{T, eqb, lit<, ltb, ltb→lt}
use lib.ListN.{get_or}
use Rattle.bc7_format.specs.declared.Place.{Place}
use Rattle.bc7_format.specs.declared.Place.TheVariants.{Lead, Value, PBit, Index}
use Rattle.bc7_format.specs.declared.Split.{Split}
use Rattle.laws.specs.Digits.{join, replaced_at, split, total}
use Rattle.laws.specs.Tables.{pick, table}
use Rattle.laws.proofs.Cases.{pick_lt}
use Rattle.laws.proofs.Digits.{join_split}
use Rattle.laws.proofs.Part.{get_d_table}
use Rattle.laws.proofs.Rows.{digit, length_split}
use Rattle.laws.proofs.Tests.{both_left, both_right, not_so}
use Rattle.bcn_format.specs.Block.{bytes_of}
use Rattle.bc7_format.specs.Lines.{Line, index_set_of, has, index_place, laid, p_place, value_place, with_line}
use Rattle.bc7_format.specs.Modes.{index_bits, lines, p_count}
use Rattle.bc7_format.specs.Places.{at_place, block_of, inside, pos, width, widths, values_from, ps_from, first_from}
use Rattle.bc7_format.specs.Places.{place_count}
use Rattle.bc7_format.specs.Splits.{anchors, is_vector}
use Rattle.bc7_format.specs.WellFormed.{WellFormed}
use Rattle.bc7_format.proofs.Lens.{has_lead}
use Rattle.bc7_format.proofs.Meaning.{index_set_lt, has_p, laid_p, laid_value}
use Rattle.bc7_format.proofs.Modes.{good_index_mode, lines_le}
use Rattle.bc7_format.proofs.Opening.{good_total}
use Rattle.bc7_format.proofs.Places.{inside_index, inside_pbit, inside_value, length_widths, list_at, list_ext, place_at_pos, pos_lt, pos_one}
use Rattle.bc7_format.proofs.Starts.{start, start_next}
use Rattle.bcn_format.specs.Indexes.{index_width, index_widths}
use Rattle.bc7_fields.proofs.Fields.{begins}
use Rattle.line_rules.specs.Acceptable.{OwnWidths}
use Rattle.line_rules.specs.Replace.{own_width}
use Rattle.line_rules.proofs.Own.{has_width}
use Rattle.line_rules.proofs.OwnWidths.{own_widths}
use Rattle.line_rules.proofs.Put.{has_index_set, own_pbit, own_value}
use Rattle.line.proofs.fields.Groups.{own_laid, pair_put}
use Rattle.line.proofs.fields.Runs.{Upto, begin, more, passed}

-- in mode 1 one p bit serves both endpoints
p_place_1 : (m l k : ℕ) → m ≡ 1 → p_place m l k ≡ PBit l
unfolding p_place
p_place_1 m l k e = rw (eq-eqb m 1 e)

laid_p_1 : (m l : ℕ) (o : Line) → m ≡ 1 → laid m o (p_place m l 0) ≡ o.p 0
unfolding laid p_place
laid_p_1 m l o e = rw (eq-eqb m 1 e)

-- the values and the p bits of a line are there, and stand side by side
module _ {m : ℕ} {s : Split} {f : Place → ℕ} (g : WellFormed m s f) (l : ℕ) (hl : l < lines m) where
  h3 : l < 3
  h3 = omega (arith, lines_le m g.mode)

  ws : OwnWidths m s l
  ws = own_widths g l hl

  pub value_there : (k c : ℕ) → k < 2 → c < 4 → T (inside (value_place s l k c))
  unfolding value_place
  value_there k c hk hc =
      inside_value {c = c} {e = pick (is_vector s) k (2 * l + k)} hc (pick_lt (is_vector s) k (2 * l + k) 6 (omega arith) (omega (arith, h3)))

  pub value_next : (c : ℕ) → pos (value_place s l 1 c) ≡ suc (pos (value_place s l 0 c))
  unfolding value_place pos
  value_next c = go (is_vector s)
    where
      go : (v : Bool) → values_from + (6 * c + pick v 1 (2 * l + 1)) ≡ suc (values_from + (6 * c + pick v 0 (2 * l + 0)))
      go true = omega arith
      go false = omega arith

  pub p_there : (k : ℕ) → k < 2 → T (inside (p_place m l k))
  unfolding p_place
  p_there k hk = inside_pbit (pick_lt (eqb m 1) l (2 * l + k) 6 (omega (arith, h3)) (omega (arith, h3)))

  pub p_next : m ≢ 1 → pos (p_place m l 1) ≡ suc (pos (p_place m l 0))
  unfolding p_place pos
  p_next n1 = rw (ne_eqb m 1 n1) (let z : ps_from + (2 * l + 1) ≡ suc (ps_from + (2 * l + 0)) = omega arith in z)

module _ {m : ℕ} {s : Split} {f : Place → ℕ} (g : WellFormed m s f) (l : ℕ) (hl : l < lines m) (o : Line) where
  abbrev Until : ℕ → ℕ → Type 0
  Until k n = Upto m s l o f k n

  -- the lead is no line's
  pub after_lead : (n : ℕ) → ((x : Place) → T (inside x) → at_place m s n x ≡ f x) → Until values_from n
  unfolding pos
  after_lead n e = passed m s l o f values_from (omega arith) (begin m s l o f n e) none
    where
      none : (x : Place) → T (inside x) → 0 ≤ pos x → pos x < values_from → has m s l x ≡ false
      none (Lead k) i p q = has_lead m s l k (omega (arith, h3 g l hl))
      none (Value c e) i p q = absurd (let y : ⊥ = omega arith in y)
      none (PBit k) i p q = absurd (let y : ⊥ = omega arith in y)
      none (Index a q') i p q = absurd (let y : ⊥ = omega arith in y)

  -- the pair of channel c
  either : (x : Place) (j : ℕ) (at : ℕ → Place) → j < 2 → at j ≡ x → (x ≡ at 0) ⊎ (x ≡ at 1)
  either x zero at h e = inl (sym e)
  either x (suc zero) at h e = inr (sym e)
  either x (suc (suc j)) at h e = absurd (let y : ⊥ = omega arith in y)

  pub channel_put : (c w n n' : ℕ) → c < 4 → own_width m s l (value_place s l 0 c) ≡ w → o.value 0 c < 2 ^ w → o.value 1 c < 2 ^ w
      → n' ≡ replaced_at n (start m s (pos (value_place s l 0 c))) (2 * w) (o.value 1 c * 2 ^ w + o.value 0 c) → Until (values_from + 6 * c) n
      → Until (values_from + 6 * c + 6) n'
  unfolding value_place pos width
  channel_put c w n n' hc hw h0 h1 e u =
      pair_put m s l o f (value_place s l 0 c) (value_place s l 1 c) (values_from + 6 * c) (values_from + 6 * c + 6) w
      (value_there g l hl 0 c (omega arith) hc)
      (value_there g l hl 1 c (omega arith) hc) (value_next g l hl c) (omega arith) (room (is_vector s)) (omega arith)
      hw ((ws g l hl).value 1 c (omega arith) hc ∙ sym ((ws g l hl).value 0 c (omega arith) hc) ∙ hw) refl refl only
      (o.value 0 c) (o.value 1 c) n n' h0 h1 (laid_value m s l o 0 c (omega arith)) (laid_value m s l o 1 c (omega arith)) e u
    where
      room : (v : Bool) → values_from + (6 * c + pick v 0 (2 * l + 0)) + 2 ≤ values_from + 6 * c + 6
      room true = omega arith
      room false = omega (arith, h3 g l hl)

      only : (x : Place) → T (inside x) → values_from + 6 * c ≤ pos x → pos x < values_from + 6 * c + 6 → has m s l x ≡ true
          → (x ≡ value_place s l 0 c) ⊎ (x ≡ value_place s l 1 c)
      only (Lead k) i p q h = absurd (let k4 : k < 4 = ltb→lt k 4 i in let y : ⊥ = omega arith in y)
      only (Value c' e) i p q h =
          let he : e < 6 = ltb→lt e 6 (both_right (ltb c' 4) (ltb e 6) i) in
          let ec : c' ≡ c = omega arith in
          either (Value c' e) (e % 2) (λ k. value_place s l k c) (mod-lt e (lit< tt)) (rw (← ec) (own_value g l c' e h))
      only (PBit k) i p q h = absurd (let y : ⊥ = omega arith in y)
      only (Index a q') i p q h = absurd (let y : ⊥ = omega arith in y)

  -- the p bits
  p_only : (x : Place) → T (inside x) → ps_from ≤ pos x → pos x < first_from → has m s l x ≡ true → (k : ℕ) × (x ≡ PBit k)
  unfolding pos
  p_only (Lead k) i p q h = absurd (let k4 : k < 4 = ltb→lt k 4 i in let y : ⊥ = omega arith in y)
  p_only (Value c e) i p q h =
      absurd
      (let c4 : c < 4 = ltb→lt c 4 (both_left (ltb c 4) (ltb e 6) i) in
      let e6 : e < 6 = ltb→lt e 6 (both_right (ltb c 4) (ltb e 6) i) in let y : ⊥ = omega arith in y)
  p_only (PBit k) i p q h = (k, refl)
  p_only (Index a q') i p q h = absurd (let y : ⊥ = omega arith in y)

  pub p_put : (w n n' : ℕ) → m ≢ 1 → pick (eqb (p_count m) 0) 0 1 ≡ w → o.p 0 < 2 ^ w → o.p 1 < 2 ^ w
      → n' ≡ replaced_at n (start m s (pos (p_place m l 0))) (2 * w) (o.p 1 * 2 ^ w + o.p 0) → Until ps_from n → Until first_from n'
  unfolding p_place pos width
  p_put w n n' n1 hw h0 h1 e u =
      pair_put m s l o f (p_place m l 0) (p_place m l 1) ps_from first_from w (p_there g l hl 0 (omega arith)) (p_there g l hl 1 (omega arith))
      (p_next g l hl n1)
      (omega arith) room (omega arith)
      ((ws g l hl).p 0 (omega arith) ∙ hw) ((ws g l hl).p 1 (omega arith) ∙ hw) refl refl only
      (o.p 0) (o.p 1) n n' h0 h1 (laid_p m l o 0 (omega arith) (λ z. absurd (n1 z))) (laid_p m l o 1 (omega arith) (λ z. absurd (n1 z))) e u
    where
      not_1 : eqb m 1 ≡ false
      not_1 = ne_eqb m 1 n1

      room : pos (p_place m l 0) + 2 ≤ first_from
      room = rw not_1 (omega (arith, h3 g l hl))

      only : (x : Place) → T (inside x) → ps_from ≤ pos x → pos x < first_from → has m s l x ≡ true → (x ≡ p_place m l 0) ⊎ (x ≡ p_place m l 1)
      only x i p q h =
          let (k, ex) = p_only x i p q h in
          either x (k % 2) (p_place m l) (mod-lt k (lit< tt))
          (ap (λ (b : Bool). p_place m l (pick b 0 (k % 2))) (sym not_1) ∙ own_pbit m s l k (rw ex at h) ∙ sym ex)

  -- in mode 1 the line has one
  pub p_put_1 : (n n' : ℕ) → m ≡ 1 → p_count m ≢ 0 → o.p 0 < 2 → n' ≡ replaced_at n (start m s (ps_from + l)) 1 (o.p 0) → Until ps_from n
      → Until first_from n'
  unfolding pos width
  p_put_1 n n' e1 some h0 e u =
      more m s l o f (ps_from + l) (ps_from + l + 1) first_from (o.p 0) n' (omega arith) (omega arith) (omega (arith, h3 g l hl)) (omega arith)
      (rw one h0)
      (rw one e) u holds others
    where
      here : p_place m l 0 ≡ PBit l
      here = p_place_1 m l 0 e1

      there : T (inside (PBit l))
      there = inside_pbit {k = l} (omega (arith, h3 g l hl))

      mine : has m s l (PBit l) ≡ true
      mine = rw here at (has_p g l hl 0 (omega arith) some)

      bit : width m (anchors s) (PBit l) ≡ 1
      bit = sym (has_width m s l (PBit l) mine) ∙ (rw (here, ne_eqb (p_count m) 0 some) at ((ws g l hl).p 0 (omega arith)))

      one : start m s (ps_from + l + 1) - start m s (ps_from + l) ≡ 1
      one =
          let z : ps_from + l + 1 ≡ suc (ps_from + l) = omega arith in
          let n : start m s (ps_from + l + 1) ≡ start m s (ps_from + l) + 1 =
          ap (start m s) z ∙ start_next m s (ps_from + l) (omega (arith, h3 g l hl))
          ∙ ap (λ (c : ℕ). start m s (ps_from + l) + c) (ap (width m (anchors s)) (place_at_pos (PBit l) there) ∙ bit) in
          omega (arith, n)

      holds : (x : Place) → T (inside x) → ps_from + l ≤ pos x → pos x < ps_from + l + 1
          → o.p 0 / 2 ^ (start m s (pos x) - start m s (ps_from + l)) % 2 ^ width m (anchors s) x ≡ with_line m s l o f x
      holds x i p q =
          let ex : PBit l ≡ x = pos_one (PBit l) x there i (let z : ps_from + l ≡ pos x = omega arith in z) in
          subst (λ (x : Place). o.p 0 / 2 ^ (start m s (pos x) - start m s (ps_from + l)) % 2 ^ width m (anchors s) x ≡ with_line m s l o f x) ex
          (let z : start m s (ps_from + l) - start m s (ps_from + l) ≡ 0 = omega arith in
          rw (z, bit, own_laid m s l o f (PBit l) mine, ← here, laid_p_1 m l o e1) (ap (λ (c : ℕ). c % 2) (div-one (o.p 0)) ∙ mod-eq_of_lt h0))

      others : (x : Place) → T (inside x) → ps_from ≤ pos x → pos x < first_from → (pos x < ps_from + l) ⊎ (ps_from + l + 1 ≤ pos x)
          → has m s l x ≡ false
      others x i p q r =
          not_so (has m s l x) (λ t.
          let (k, ex) = p_only x i p q t in
          let at : pos x ≡ ps_from + l = ap pos (ex ∙ sym (own_pbit m s l k (rw ex at t)) ∙ p_place_1 m l _ e1) in
          ⊎_elim {C = ⊥} (λ d. omega arith) (λ d. omega arith) r)

  -- the set of indexes, as they are stored
  pub indexes_put : (v n n' : ℕ) → v < 2 ^ total (index_widths (index_bits m (index_set_of s l)) (anchors s))
      → split (index_widths (index_bits m (index_set_of s l)) (anchors s)) v ≡ table 16 (λ q. with_line m s l o f (index_place s l q))
      → n' ≡ replaced_at n (start m s (first_from + (16 * index_set_of s l + 0))) (total (index_widths (index_bits m (index_set_of s l)) (anchors s))) v
      → Until first_from n
      → Until place_count n'
  unfolding index_widths index_place pos width
  indexes_put v n n' hv sv e u =
      more m s l o f (first_from + (16 * a + 0)) (first_from + (16 * a + 16)) place_count v n' (omega arith) (omega arith) (omega (arith, ha))
      (omega arith) (rw all hv)
      (rw all e) u holds others
    where
      a : ℕ
      a = index_set_of s l

      ha : a < 2
      ha = index_set_lt s l (good_index_mode g)

      wide : ℕ → ℕ
      wide q = index_width (index_bits m a) (anchors s) q

      all : start m s (first_from + (16 * a + 16)) - start m s (first_from + (16 * a + 0)) ≡ total (table 16 wide)
      all = omega (arith, begins m s a ha 16 (omega arith))

      at_pixel : (q : ℕ) → q < 16
          → v / 2 ^ (start m s (first_from + (16 * a + q)) - start m s (first_from + (16 * a + 0))) % 2 ^ wide q ≡ with_line m s l o f (Index a q)
      at_pixel q hq =
          let z : start m s (first_from + (16 * a + q)) - start m s (first_from + (16 * a + 0)) ≡ total (table q wide) =
          omega (arith, begins m s a ha q (omega arith)) in
          rw z (sym (digit 16 wide v q hq) ∙ ap (λ (vs : List ℕ). get_or vs q 0) sv ∙ get_d_table 16 (λ q. with_line m s l o f (Index a q)) 0 q hq)

      holds : (x : Place) → T (inside x) → first_from + (16 * a + 0) ≤ pos x → pos x < first_from + (16 * a + 16)
          → v / 2 ^ (start m s (pos x) - start m s (first_from + (16 * a + 0))) % 2 ^ width m (anchors s) x ≡ with_line m s l o f x
      holds x i p q =
          let k : ℕ = pos x - (first_from + 16 * a) in
          let hk : k < 16 = omega arith in
          subst
          (λ (x : Place). v / 2 ^ (start m s (pos x) - start m s (first_from + (16 * a + 0))) % 2 ^ width m (anchors s) x ≡ with_line m s l o f x)
          (pos_one (Index a k) x (inside_index ha hk) i (let z : first_from + (16 * a + k) ≡ pos x = omega arith in z)) (at_pixel k hk)

      others : (x : Place) → T (inside x) → first_from ≤ pos x → pos x < place_count
          → (pos x < first_from + (16 * a + 0)) ⊎ (first_from + (16 * a + 16) ≤ pos x) → has m s l x ≡ false
      others (Lead k) i p q r = absurd (let k4 : k < 4 = ltb→lt k 4 i in let y : ⊥ = omega arith in y)
      others (Value c e) i p q r =
          absurd
          (let c4 : c < 4 = ltb→lt c 4 (both_left (ltb c 4) (ltb e 6) i) in
          let e6 : e < 6 = ltb→lt e 6 (both_right (ltb c 4) (ltb e 6) i) in let y : ⊥ = omega arith in y)
      others (PBit k) i p q r = absurd (let k6 : k < 6 = ltb→lt k 6 i in let y : ⊥ = omega arith in y)
      others (Index b k) i p q r =
          not_so (has m s l (Index b k)) (λ t.
          let k16 : k < 16 = ltb→lt k 16 (both_right (ltb b 2) (ltb k 16) i) in
          let eb : b ≡ a = has_index_set g l b k t in
          ⊎_elim {C = ⊥} (λ d. omega arith) (λ d. omega arith) r)

  -- the block that is left
  pub put_whole : (n : ℕ) → n < 2 ^ 128 → Until place_count n → bytes_of n ≡ block_of m s (with_line m s l o f)
  unfolding block_of at_place
  put_whole n hn u =
      ap bytes_of
      (sym (join_split (widths m s) n (rw (good_total g) hn))
      ∙ ap (join (widths m s)) (sym (list_at (split (widths m s) n) (length_split (widths m s) n ∙ length_widths m s))
      ∙ list_ext _ _ (λ x i. u.done x i (pos_lt x i))))
