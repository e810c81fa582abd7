-- From palettes, maps and words of indexes to what the number shows.
-- Assumes nothing.
use mathlib.Core.Path.{◌≡◌, refl, sym, ap, ap₂, ◌∙◌, subst}
use mathlib.Core.Bool.{Bool, false, true}
use mathlib.Core.List.{List, [], ◌∷◌}
use Prim.Native.Nat.{ℕ, zero, suc, ◌+◌, ◌-◌, ◌*◌, ◌^◌, ◌<◌}
use native.Mathlib.Omega.{arith}
use lib.Dec.{T, eqb}
use lib.ListN.{get_or}
use Rattle.bc7_format.specs.declared.Place.TheVariants.{Index}
use Rattle.bc7_format.specs.declared.Split.{Split}
use Rattle.bc7_format.specs.declared.Split.TheVariants.{Three, Two, Vector, Whole}
use Rattle.laws.specs.Digits.{total}
use Rattle.laws.specs.Tables.{pick, table}
use Rattle.laws.proofs.Joining.{table_same}
use Rattle.laws.proofs.Part.{get_d_table}
use Rattle.bcn_format.proofs.Fields.{field_lt}
use Rattle.bcn_format.specs.Block.{field}
use Rattle.bcn_format.specs.Drawing.{drawn, weight_of}
use Rattle.bc7_format.specs.Lines.{index_set_of, line_at, rotated}
use Rattle.bc7_format.specs.Modes.{first_bits, index_bits}
use Rattle.bc7_format.specs.Places.{at_place, first_from}
use Rattle.bc7_format.specs.Splits.{anchors, is_vector, split_at, subset}
use Rattle.bc7_format.proofs.Meaning.{rotated_lt}
use Rattle.bc7_format.proofs.Starts.{start}
use Rattle.bcn_format.specs.Indexes.{expanded, index_widths, part}
use Rattle.bc7_fields.specs.Fields.{direct, direct_pixels, end_byte}
use Rattle.bc7_fields.specs.Painting.{four, between, painted}
use Rattle.bc7_fields.proofs.Fields.{index_at}
use Rattle.bc7_fields.specs.Rotating.{merged, swapped, merged_and_swapped}

four_at : (f : ℕ → ℕ) (c : ℕ) → c < 4 → get_or (four f) c 0 ≡ f c
four_at f zero h = refl
four_at f (suc zero) h = refl
four_at f (suc (suc zero)) h = refl
four_at f (suc (suc (suc zero))) h = refl
four_at f (suc (suc (suc (suc c)))) h = absurd (let z : ⊥ = omega arith in z)

pub four_ext : (f g : ℕ → ℕ) → ((c : ℕ) → c < 4 → f c ≡ g c) → four f ≡ four g
four_ext f g h = λ i. h 0 (omega arith) i ∷ h 1 (omega arith) i ∷ h 2 (omega arith) i ∷ h 3 (omega arith) i ∷ []

-- the word of the indexes of set a
pub indexes_at : (m : ℕ) (s : Split) (a n b t : ℕ) (an : List ℕ) {x : ℕ} → a < 2 → index_bits m a ≡ b → anchors s ≡ an → total (index_widths b an) ≡ t
    → x ≡ expanded b an (field n (start m s (first_from + (16 * a + 0))) t) → (q : ℕ) → q < 16 → part x b q ≡ at_place m s n (Index a q)
indexes_at m s a n b t an ha eb ea et ex q hq = rw (ex, ← et, ← ea, ← eb) (index_at m s a ha n q hq)

-- where there are subsets
flat_direct : (m : ℕ) (s : Split) (n q c : ℕ) → is_vector s ≡ false
    → direct m s n q c ≡ drawn (end_byte m n (2 * subset s q + 0) c) (end_byte m n (2 * subset s q + 1) c)
    (weight_of (first_bits m) (at_place m s n (Index 0 q)))
unfolding direct rotated index_set_of
flat_direct m Whole n q c e = refl
flat_direct m (Two a) n q c e = refl
flat_direct m (Three a) n q c e = refl
flat_direct m (Vector r i) n q c e = absurd (subst T e tt)

-- the colours of subset l
abbrev pub colour_between : ℕ → ℕ → ℕ → ℕ → ℕ → List ℕ
colour_between m n b l = between b (four (end_byte m n (2 * l + 0))) (four (end_byte m n (2 * l + 1)))

-- a mode with subsets, whose pixels are looked up: each finds the colour of its subset at its index
looked_up : (m n b : ℕ) (s : Split) (p : List (List ℕ)) → first_bits m ≡ b → split_at m n ≡ s → is_vector s ≡ false → (x : ℕ) (place : ℕ → ℕ)
    → ((q : ℕ) → q < 16 → part x b q ≡ at_place m s n (Index 0 q))
    → ((q : ℕ) → q < 16 → get_or p (place q) [] ≡ colour_between m n b (subset s q) (part x b q))
    → painted place p ≡ direct_pixels m n
unfolding painted direct_pixels between
looked_up m n b s p eb es flat x place indexes found =
    table_same [] 16 _ _ (λ q hq.
    found q hq
    ∙ four_ext _ _ (λ c hc. ap₂ (λ (w i : ℕ). drawn (end_byte m n (2 * subset s q + 0) c) (end_byte m n (2 * subset s q + 1) c) (weight_of w i))
    (sym eb) (indexes q hq) ∙ sym (flat_direct m s n q c flat)))
    ∙ ap (λ (s : Split). table 16 (λ q. four (direct m s n q))) (sym es)

-- a palette by keys: the colours of k subsets, that of index i and subset l at i * 2 ^ t + l
pub record Palette (m n b k t : ℕ) (p : List (List ℕ)) : Type 0 where
  pub at : (l i : ℕ) → l < k → i < 2 ^ b → get_or p (i * 2 ^ t + l) [] ≡ colour_between m n b l i

pub keyed_law : (m n b k t : ℕ) (s : Split) {p : List (List ℕ)} → first_bits m ≡ b → split_at m n ≡ s → is_vector s ≡ false
    → ((q : ℕ) → q < 16 → subset s q < k) → Palette m n b k t p → (x : ℕ) (place : ℕ → ℕ)
    → ((q : ℕ) → q < 16 → place q ≡ part x b q * 2 ^ t + subset s q)
    → ((q : ℕ) → q < 16 → part x b q ≡ at_place m s n (Index 0 q))
    → painted place p ≡ direct_pixels m n
keyed_law m n b k t s {p} eb es flat subsets palette x place places indexes =
    looked_up m n b s p eb es flat x place indexes (λ q hq.
    ap (λ (j : ℕ). get_or p j []) (places q hq) ∙ palette.at (subset s q) (part x b q) (subsets q hq) (field_lt x (q * b) b))

-- the palette of one subset, and pixels that are drawn by their own indexes
module _ (m n b : ℕ) {e0 e1 : List ℕ} (p0 : e0 ≡ four (end_byte m n 0)) (p1 : e1 ≡ four (end_byte m n 1)) where
  pub one_palette : Palette m n b 1 0 (table (2 ^ b) (between b e0 e1))
  one_palette = record { at = at }
    where
      at : (l i : ℕ) → l < 1 → i < 2 ^ b → get_or (table (2 ^ b) (between b e0 e1)) (i * 2 ^ 0 + l) [] ≡ colour_between m n b l i
      at zero i hl hi =
          ap (λ (j : ℕ). get_or (table (2 ^ b) (between b e0 e1)) j []) (omega arith)
          ∙ get_d_table (2 ^ b) (between b e0 e1) [] i hi
          ∙ ap₂ (λ (x y : List ℕ). between b x y i) p0 p1
      at (suc l) i hl hi = absurd (let z : ⊥ = omega arith in z)

pub drawn_each : (b x : ℕ) (e0 e1 : List ℕ) → table 16 (λ q. between b e0 e1 (part x b q)) ≡ painted (part x b) (table (2 ^ b) (between b e0 e1))
unfolding painted
drawn_each b x e0 e1 = table_same [] 16 _ _ (λ q hq. sym (get_d_table (2 ^ b) (between b e0 e1) [] (part x b q) (field_lt x (q * b) b)))

-- rotation after colour and alpha are joined
module _ (r : ℕ) (colours alphas : List (List ℕ)) (h : r < 4) where
  abbrev joint : ℕ → ℕ → ℕ
  joint q c = get_or (get_or (pick (eqb c 3) alphas colours) q []) c 0

  pub merged_and_swapped_is : swapped r (merged colours alphas) ≡ merged_and_swapped r colours alphas
  unfolding swapped merged merged_and_swapped
  merged_and_swapped_is =
      table_same [] 16 (λ q. four (λ c. get_or (get_or (table 16 (λ q. four (joint q))) q []) (rotated r c) 0)) (λ q. four (λ c. joint q (rotated r c)))
      (λ q hq. four_ext _ _ (λ c hc.
      ap (λ (l : List ℕ). get_or l (rotated r c) 0) (get_d_table 16 (λ q. four (joint q)) [] q hq) ∙ four_at (joint q) (rotated r c)
      (rotated_lt r c h hc)))

-- where there are a vector and its scalar
module _ (m n r i : ℕ) (hr : r < 4) (es : split_at m n ≡ Vector r i) where
  -- all pixels by the indexes of set a
  abbrev pub shade : ℕ → ℕ → ℕ → ℕ
  shade a q c = drawn (end_byte m n 0 c) (end_byte m n 1 c) (weight_of (index_bits m a) (at_place m (Vector r i) n (Index a q)))

  abbrev pub Picture : ℕ → List (List ℕ) → Type 0
  Picture a picture = (q : ℕ) → q < 16 → get_or picture q [] ≡ four (shade a q)

  pub vector_law : (colours alphas : List (List ℕ)) → Picture i colours → Picture (1 - i) alphas
      → swapped r (merged colours alphas) ≡ direct_pixels m n
  unfolding merged_and_swapped direct_pixels direct index_set_of line_at
  vector_law colours alphas vector scalar =
      merged_and_swapped_is r colours alphas hr
      ∙ table_same [] 16 _ _ (λ q hq. four_ext _ _ (λ c hc. one (eqb (rotated r c) 3) q (rotated r c) hq (rotated_lt r c hr hc)))
      ∙ ap (λ (s : Split). table 16 (λ q. four (direct m s n q))) (sym es)
    where
      one : (b : Bool) (q d : ℕ) → q < 16 → d < 4
          → get_or (get_or (pick b alphas colours) q []) d 0 ≡ shade (index_set_of (Vector r i) (pick b 1 0)) q d
      one true q d hq hd = ap (λ (l : List ℕ). get_or l d 0) (scalar q hq) ∙ four_at (shade (1 - i) q) d hd
      one false q d hq hd = ap (λ (l : List ℕ). get_or l d 0) (vector q hq) ∙ four_at (shade i q) d hd
