-- Each place of a block as a field of its number, by the mode alone; the words of indexes; and the splits of modes 4 and 5.
-- Assumes nothing.
use mathlib.Core.Path.{◌≡◌, refl, sym, ap, ap₂, ◌∙◌}
use mathlib.Core.Bool.{Bool}
use mathlib.Core.List.{List, []}
use Prim.Native.Nat.{ℕ, zero, suc, ◌+◌, ◌-◌, ◌*◌, ◌/◌, ◌%◌, ◌^◌, ◌≤◌, ◌<◌}
use native.Mathlib.Nat.{div-one, lt_of_lt_of_le, mod-one}
use native.Mathlib.Omega.{arith}
use borrow.Author.Tests.{lt-ltb}
use lib.Dec.{T, eqb, eqb→eq, leb, leb→le, ltb, lt→ltb}
use lib.Pow.{shr-shr}
use Rattle.bc7_format.specs.declared.Place.TheVariants.{Value, PBit, Index}
use Rattle.bc7_format.specs.declared.Split.{Split}
use Rattle.bc7_format.specs.declared.Split.TheVariants.{Vector}
use Rattle.laws.specs.Digits.{join, total}
use Rattle.laws.specs.Refusals.{first}
use Rattle.laws.specs.Tables.{below, implies, pick, table, table_from}
use Rattle.laws.proofs.Rows.{split_mod, total_more}
use Rattle.laws.proofs.Tests.{at, implied}
use Rattle.bcn_format.specs.Block.{field}
use Rattle.bc7_format.specs.Modes.{alpha_bits, channel_bits, colour_bits, endpoint_count, first_bits, index_bits, kind_of_mode, mode_row, p_count}
use Rattle.bc7_format.specs.Modes.{second_bits}
use Rattle.bc7_format.specs.Places.{at_place, place_at, pos, width, widths, first_from, second_from}
use Rattle.bc7_format.specs.Splits.{anchors, split_at}
use Rattle.bc7_format.proofs.Places.{inside_index, inside_pbit, inside_value, place_at_pos}
use Rattle.bc7_format.proofs.Starts.{at_field, start, start_next}
use Rattle.bcn_format.specs.Indexes.{anchor_count, expanded, index_width, index_widths, part}
use Rattle.bcn_format.proofs.Expanding.{part_expanded}
use Rattle.bc7_fields.specs.Fields.{lead_end, p_start, value_start}

-- where the values and the p bits start: one computed test over mode, channel and endpoint
value_test : Split → ℕ → ℕ → ℕ → Bool
value_test s m c e = implies (ltb e (endpoint_count m)) (eqb (start m s (pos (Value c e))) (value_start m c e))

values_start : (s : Split) → T (below 8 (λ m. below 4 (λ c. below 6 (value_test s m c))))
unfolding value_test start widths table table_from place_at width pos lead_end value_start implies mode_row endpoint_count
values_start s = tt

-- the p bits come behind the values, one bit each
abbrev pub values_end : ℕ → ℕ
values_end m = lead_end m + endpoint_count m * (3 * colour_bits m + alpha_bits m)

p_test : Split → ℕ → ℕ → Bool
p_test s m k = implies (ltb k (p_count m)) (eqb (start m s (pos (PBit k))) (values_end m + k))

ps_start : (s : Split) → T (below 8 (λ m. below 6 (p_test s m)))
unfolding p_test start widths table table_from place_at width pos lead_end implies mode_row endpoint_count
ps_start s = tt

-- and the indexes behind those
pub first_start_is : (m : ℕ) (s : Split) → m < 8 → start m s first_from ≡ values_end m + p_count m
unfolding start widths table table_from place_at width lead_end mode_row endpoint_count
first_start_is m s h = eqb→eq _ _ (at 8 (λ m. eqb (start m s first_from) (values_end m + p_count m)) tt m h)

-- THE GROUPS FILL THE BLOCK: behind the values the p bits, the first set of indexes, and the second, which has one anchor
pub groups_128 : (m : ℕ) → m < 8
    → values_end m + p_count m + (16 * first_bits m - anchor_count (kind_of_mode m)) + (16 * second_bits m - 1) ≡ 128
unfolding lead_end mode_row kind_of_mode endpoint_count
groups_128 m h =
    eqb→eq _ _ (at 8 (λ m. eqb (values_end m + p_count m + (16 * first_bits m - anchor_count (kind_of_mode m)) + (16 * second_bits m - 1)) 128) tt m h)

six_ends : (m : ℕ) → m < 8 → endpoint_count m ≤ 6
unfolding mode_row endpoint_count
six_ends m h = leb→le _ 6 (at 8 (λ m. leb (endpoint_count m) 6) tt m h)

six_ps : (m : ℕ) → m < 8 → p_count m ≤ 6
unfolding mode_row
six_ps m h = leb→le _ 6 (at 8 (λ m. leb (p_count m) 6) tt m h)

module _ (m : ℕ) (s : Split) (n : ℕ) (hm : m < 8) where
  pub value_at_is : (c e : ℕ) → c < 4 → e < endpoint_count m → at_place m s n (Value c e) ≡ field n (value_start m c e) (channel_bits m c)
  unfolding field width value_test
  value_at_is c e hc he =
      let six : e < 6 = lt_of_lt_of_le he (six_ends m hm) in
      let test : T (value_test s m c e) =
      at 6 (value_test s m c) (at 4 (λ c. below 6 (value_test s m c))
      (at 8 (λ m. below 4 (λ c. below 6 (value_test s m c))) (values_start s) m hm) c hc) e six in
      let begins : start m s (pos (Value c e)) ≡ value_start m c e =
      eqb→eq _ _ (implied (ltb e (endpoint_count m)) _ test (lt→ltb e (endpoint_count m) he)) in
      at_field m s n (Value c e) (inside_value hc six)
      ∙ ap₂ (λ (x y : ℕ). n / 2 ^ x % 2 ^ y) begins (ap (λ (b : Bool). pick b (channel_bits m c) 0) (lt-ltb e (endpoint_count m) he))

  pub bit_at : (k : ℕ) → k < p_count m → at_place m s n (PBit k) ≡ field n (values_end m + k) 1
  unfolding field width p_test
  bit_at k hk =
      let six : k < 6 = lt_of_lt_of_le hk (six_ps m hm) in
      let test : T (p_test s m k) = at 6 (p_test s m) (at 8 (λ m. below 6 (p_test s m)) (ps_start s) m hm) k six in
      let begins : start m s (pos (PBit k)) ≡ values_end m + k = eqb→eq _ _ (implied (ltb k (p_count m)) _ test (lt→ltb k (p_count m) hk)) in
      at_field m s n (PBit k) (inside_pbit six)
      ∙ ap₂ (λ (x y : ℕ). n / 2 ^ x % 2 ^ y) begins (ap (λ (b : Bool). pick {A = ℕ} b 1 0) (lt-ltb k (p_count m) hk))

  -- endpoint e's p: in mode 1 one serves both endpoints of a subset
  pub p_at : (e : ℕ) → e < 6 → pick (eqb m 1) (e / 2) e < p_count m → at_place m s n (PBit (pick (eqb m 1) (e / 2) e)) ≡ field n (p_start m e) 1
  unfolding p_start
  p_at e he hk = bit_at (pick (eqb m 1) (e / 2) e) hk

-- the indexes of set a, one after the other
module _ (m : ℕ) (s : Split) (a : ℕ) (ha : a < 2) where
  abbrev wide : ℕ → ℕ
  wide q = index_width (index_bits m a) (anchors s) q

  wide_is : (q : ℕ) → q < 16 → width m (anchors s) (place_at (first_from + (16 * a + q))) ≡ wide q
  unfolding pos width
  wide_is q hq = ap (width m (anchors s)) (place_at_pos (Index a q) (inside_index ha hq))

  pub begins : (q : ℕ) → q ≤ 16 → start m s (first_from + (16 * a + q)) ≡ start m s (first_from + (16 * a + 0)) + total (table q wide)
  unfolding table table_from
  begins zero h = omega arith
  begins (suc q) h =
      let next : start m s (suc (first_from + (16 * a + q))) ≡ start m s (first_from + (16 * a + q)) + width m (anchors s)
      (place_at (first_from + (16 * a + q))) =
      start_next m s (first_from + (16 * a + q)) (omega arith) in
      let before : start m s (first_from + (16 * a + q)) ≡ start m s (first_from + (16 * a + 0)) + total (table q wide) = begins q (omega arith) in
      let e : first_from + (16 * a + suc q) ≡ suc (first_from + (16 * a + q)) = omega arith in
      ap (start m s) e
      ∙ (let z : start m s (suc (first_from + (16 * a + q))) ≡ start m s (first_from + (16 * a + 0)) + total (table (suc q) wide) =
      omega (arith, wide_is q h, total_more q wide) in z)

  -- a word of indexes, read whole and expanded
  pub index_at : (n q : ℕ) → q < 16
      → let bits = index_bits m a in
      let stored = field n (start m s (first_from + (16 * a + 0))) (total (index_widths bits (anchors s))) in
      part (expanded bits (anchors s) stored) bits q ≡ at_place m s n (Index a q)
  unfolding field expanded pos width
  index_at n q hq =
      let w : ℕ = index_bits m a in
      let first : ℕ = start m s (first_from + (16 * a + 0)) in
      ap (λ (l : List ℕ). part (join (index_widths w []) l) w q) (split_mod (index_widths w (anchors s)) (n / 2 ^ first))
      ∙ part_expanded w (anchors s) (n / 2 ^ first) q hq
      ∙ ap (λ (x : ℕ). x % 2 ^ wide q) (shr-shr n first (total (table q wide)) ∙ ap (λ (x : ℕ). n / 2 ^ x) (sym (begins q (omega arith))))
      ∙ sym (at_field m s n (Index a q) (inside_index ha hq))

-- where the second indexes of modes 4 and 5 start, and what their split is
pub second_4 : (r i : ℕ) → start 4 (Vector r i) second_from ≡ 81
unfolding start widths table table_from place_at width mode_row endpoint_count
second_4 r i = refl

pub second_5 : (r i : ℕ) → start 5 (Vector r i) second_from ≡ 97
unfolding start widths table table_from place_at width mode_row endpoint_count
second_5 r i = refl

pub split_4 : (n : ℕ) → split_at 4 n ≡ Vector (field n 5 2) (field n 7 1)
unfolding split_at field mode_row kind_of_mode
split_4 n =
    λ j. Vector (ap (λ (x : ℕ). x % 2 ^ 2) (div-one (n / 2 ^ 5)) j)
    ((ap (λ (x : ℕ). x / 2 ^ 2 % 2 ^ 1) (div-one (n / 2 ^ 5)) ∙ ap (λ (x : ℕ). x % 2 ^ 1) (shr-shr n 5 2)) j)

pub split_5 : (n : ℕ) → split_at 5 n ≡ Vector (field n 6 2) 0
unfolding split_at field mode_row kind_of_mode
split_5 n = λ j. Vector (ap (λ (x : ℕ). x % 2 ^ 2) (div-one (n / 2 ^ 6)) j) (mod-one (n / 2 ^ 6 / 2 ^ 0 / 2 ^ 2) j)
