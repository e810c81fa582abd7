-- How many bits the values, p bits and indexes of a line have in it.
-- Assumes nothing.
use mathlib.Core.Path.{◌≡◌, refl, ◌∙◌}
use mathlib.Core.Logic.{◌≢◌}
use mathlib.Core.Bool.{Bool, true, false}
use mathlib.Core.List.{[]}
use Prim.Native.Nat.{ℕ, ◌+◌, ◌*◌, ◌/◌, ◌<◌}
use native.Mathlib.Omega.{arith}
use borrow.Author.Tests.{eqb-false, eqb-true, lt-ltb, le-ltb}
use lib.Dec.{eqb, ltb}
use Rattle.bc7_format.specs.declared.Place.{Place}
use Rattle.bc7_format.specs.declared.Place.TheVariants.{Value, PBit, Index}
use Rattle.bc7_format.specs.declared.Split.{Split}
use Rattle.laws.specs.Tables.{pick}
use Rattle.laws.proofs.Cases.{pick_lt}
use Rattle.laws.proofs.Tests.{no_both}
use Rattle.bc7_format.specs.Lines.{index_set_of, has, index_place, line_bits, line_of_place, p_place, value_place}
use Rattle.bc7_format.specs.Modes.{channel_bits, endpoint_count, index_bits, lines, p_count}
use Rattle.bc7_format.specs.Places.{width}
use Rattle.bc7_format.specs.Splits.{is_vector, subset}
use Rattle.bc7_format.specs.WellFormed.{WellFormed}
use Rattle.bc7_format.proofs.Meaning.{has_index}
use Rattle.bc7_format.proofs.Modes.{good_subset, good_vector, lines_le, p_count_is}
use Rattle.bc7_format.proofs.Places.{inside_pbit, inside_value}
use Rattle.line_rules.specs.Acceptable.{OwnWidths}
use Rattle.line_rules.specs.Replace.{own_width}
use Rattle.line_rules.proofs.Own.{own_is, own_not}

module _ {m : ℕ} {s : Split} {f : Place → ℕ} (g : WellFormed m s f) (l : ℕ) (hl : l < lines m) where
  h3 : l < 3
  h3 = omega (arith, lines_le m g.mode)

  wide : (q : ℕ) → width m [] (index_place s l q) ≡ index_bits m (index_set_of s l)
  unfolding width index_place
  wide q = refl

  outside : (q : ℕ) → line_of_place m s (Index (index_set_of s l) q) ≢ l → own_width m s l (index_place s l q) ≡ 0
  unfolding index_place
  outside q n = own_not m s l (Index (index_set_of s l) q) n

  value_bits_is : (k c : ℕ) → k < 2 → c < 4
      → own_width m s l (value_place s l k c) ≡ pick (is_vector s) (pick (eqb (pick (eqb c 3) 1 0) l) (channel_bits m c) 0) (channel_bits m c)
  unfolding value_place width
  value_bits_is k c hk hc = go (is_vector s) refl (eqb (pick (eqb c 3) 1 0) l) refl
    where
      go : (v : Bool) → is_vector s ≡ v → (b : Bool) → eqb (pick (eqb c 3) 1 0) l ≡ b
          → own_width m s l (Value c (pick v k (2 * l + k))) ≡ pick v (pick b (channel_bits m c) 0) (channel_bits m c)
      go true v true b =
          own_is m s l (Value c k) (inside_value {e = k} hc (omega arith)) (rw v (eqb-true (pick (eqb c 3) 1 0) l b))
          ∙ rw (lt-ltb k (endpoint_count m) (omega (arith, (good_vector g v).ends)))
      go true v false b = own_not m s l (Value c k) (λ e. eqb-false (pick (eqb c 3) 1 0) l b (rw v at e))
      go false v b e =
          own_is m s l (Value c (2 * l + k)) (inside_value {e = 2 * l + k} hc (omega (arith, h3)))
          (rw v (let z : (2 * l + k) / 2 ≡ l = omega arith in z))
          ∙ rw (lt-ltb (2 * l + k) (endpoint_count m) (omega (arith, (good_subset g v).ends)))

  p_bits : (k : ℕ) → k < 2 → own_width m s l (p_place m l k) ≡ pick (eqb (p_count m) 0) 0 1
  unfolding p_place width
  p_bits k hk = go (eqb (p_count m) 0) refl (eqb m 1) refl
    where
      none : (x : ℕ) → p_count m ≡ 0 → ◌≡◌ {A = ℕ} (pick (ltb x (p_count m)) 1 0) 0
      none x e = rw (le-ltb x (p_count m) (omega arith))

      some : (o : Bool) → eqb m 1 ≡ o → p_count m ≢ 0 → pick o l (2 * l + k) < p_count m
      some true e n = let c : lines m ≡ p_count m = rw e at (p_count_is m g.mode n).0 in omega arith
      some false e n = let c : 2 * lines m ≡ p_count m = rw e at (p_count_is m g.mode n).0 in omega arith

      line : (o : Bool) → eqb m 1 ≡ o → pick (eqb m 1) (pick o l (2 * l + k)) (pick o l (2 * l + k) / 2) ≡ l
      line true e = rw e refl
      line false e = rw e (let z : (2 * l + k) / 2 ≡ l = omega arith in z)

      own_p : (o : Bool) → eqb m 1 ≡ o → own_width m s l (PBit (pick o l (2 * l + k))) ≡ pick (ltb (pick o l (2 * l + k)) (p_count m)) 1 0
      own_p o e =
          own_is m s l (PBit (pick o l (2 * l + k))) (inside_pbit (pick_lt o l (2 * l + k) 6 (omega (arith, h3)) (omega (arith, h3)))) (line o e)

      go : (b : Bool) → eqb (p_count m) 0 ≡ b → (o : Bool) → eqb m 1 ≡ o → own_width m s l (PBit (pick o l (2 * l + k))) ≡ pick b 0 1
      go true z o e = own_p o e ∙ none _ (eqb-true (p_count m) 0 z)
      go false z o e = own_p o e ∙ rw (lt-ltb (pick o l (2 * l + k)) (p_count m) (some o e (eqb-false (p_count m) 0 z)))

  index_bits_is : (q : ℕ) → q < 16
      → own_width m s l (index_place s l q) ≡ pick (is_vector s) (line_bits m s l) (pick (eqb (subset s q) l) (line_bits m s l) 0)
  unfolding own_width line_bits
  index_bits_is q hq = go (is_vector s) refl (eqb (subset s q) l) refl
    where
      full : (is_vector s ≡ false → subset s q ≡ l)
          → pick (has m s l (index_place s l q)) (width m [] (index_place s l q)) 0 ≡ index_bits m (index_set_of s l)
      full e = rw (has_index g l hl q hq e) (wide q)

      go : (v : Bool) → is_vector s ≡ v → (b : Bool) → eqb (subset s q) l ≡ b
          → own_width m s l (index_place s l q) ≡ pick v (index_bits m (index_set_of s l)) (pick b (index_bits m (index_set_of s l)) 0)
      go true v b e = full (λ f. absurd (no_both v f))
      go false v true e = full (λ f. eqb-true (subset s q) l e)
      go false v false e = outside q (λ z. eqb-false (subset s q) l e (rw v at z))

pub own_widths : {m : ℕ} {s : Split} {f : Place → ℕ} → WellFormed m s f → (l : ℕ) → l < lines m → OwnWidths m s l
own_widths g l hl = record { value = value_bits_is g l hl; p = p_bits g l hl; index = index_bits_is g l hl }
