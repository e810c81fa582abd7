-- From what modes 4, 5 and 6 read and paint to what their number shows.
-- Assumes nothing.
use mathlib.Core.Path.{◌≡◌, refl, sym, ap, ap₂, ◌∙◌}
use mathlib.Core.Bool.{Bool, true, false, not}
use mathlib.Core.List.{List, [], ◌∷◌}
use Prim.Native.Nat.{ℕ, zero, suc, ◌+◌, ◌-◌, ◌*◌, ◌/◌, ◌%◌, ◌^◌, ◌≤◌, ◌<◌}
use native.Mathlib.Nat.{add_comm}
use native.Mathlib.Omega.{arith}
use lib.Dec.{eqb}
use lib.ListN.{get_or, replicate, take}
use Rattle.bc7_format.specs.declared.Split.TheVariants.{Vector, Whole}
use Rattle.laws.specs.Digits.{Fit}
use Rattle.laws.specs.Tables.{pick, table}
use Rattle.laws.proofs.Joining.{table_same}
use Rattle.laws.proofs.Part.{get_d_table}
use Rattle.bcn_format.proofs.Fields.{field_lt}
use Rattle.bcn_format.specs.Block.{field}
use Rattle.bcn_format.specs.Drawing.{drawn, weight_of}
use Rattle.bc7_format.specs.Lines.{rotated}
use Rattle.bc7_format.specs.Modes.{first_bits, index_bits}
use Rattle.bc7_format.specs.Splits.{split_at}
use Rattle.bc7_format.proofs.Starts.{index_start_is, index_start, start}
use Rattle.bcn_format.specs.Indexes.{expanded, part}
use Rattle.bcn_format.proofs.Expanding.{size_1}
use Rattle.bc7_fields.specs.Fields.{direct_pixels, end_byte}
use Rattle.bc7_fields.specs.Painting.{four, between, painted}
use Rattle.bc7_fields.specs.Rotating.{merged, swapped}
use Rattle.bc7_fields.proofs.Pictures.{Palette, Picture, indexes_at, keyed_law, vector_law}
use Rattle.bc7_drawing.specs.declared.colour.Ends.{Ends}
use Rattle.bc7_drawing.specs.Words.{Alone, endpoint, word_bytes}
use Rattle.drawing.specs.Keys.{key_at, keys_of}
use Rattle.drawing.proofs.keys.KeyWords.{key_at_is}
use Rattle.bc7_unpartitioned.specs.Crossing.{Apart, crossed, kept_word}
use Rattle.bc7_unpartitioned.proofs.Crossing.{between_fits, sum_bytes, sum_lt}
use Rattle.bc7_format.specs.Places.{first_from}

-- one subset, by the word of its indexes, which are stored without the top bit of pixel 0's
pub whole_keys : (m n b : ℕ) → m < 8 → first_bits m ≡ b → 0 < b → split_at m n ≡ Whole → {p : List (List ℕ)} → Palette m n b 1 0 p
    → painted (part (expanded b (0 ∷ []) (field n (index_start m) (16 * b - 1))) b) p ≡ direct_pixels m n
whole_keys m n b hm eb some es palette =
    keyed_law m n b 1 0 Whole eb es refl (λ q hq. omega arith) palette (expanded b (0 ∷ []) (field n (index_start m) (16 * b - 1))) _
    (λ q hq. omega arith)
    (indexes_at m Whole 0 n b (16 * b - 1) (0 ∷ []) (omega arith) eb refl (size_1 b some)
    (ap (λ (a : ℕ). expanded b (0 ∷ []) (field n a (16 * b - 1))) (sym (index_start_is m Whole hm))))

-- the channels chosen one by one
pub chosen_one_by_one : (r : ℕ) → r < 4 → (p : List ℕ)
    → pick (eqb r 1) (get_or p 3 0) (get_or p 0 0) ∷ pick (eqb r 2) (get_or p 3 0) (get_or p 1 0) ∷ pick (eqb r 3) (get_or p 3 0) (get_or p 2 0)
    ∷ pick (eqb r 3) (get_or p 2 0) (pick (eqb r 2) (get_or p 1 0) (pick (eqb r 1) (get_or p 0 0) (get_or p 3 0))) ∷ [] ≡ four (λ c. get_or p (rotated r c) 0)
unfolding rotated
chosen_one_by_one zero h p = refl
chosen_one_by_one (suc zero) h p = refl
chosen_one_by_one (suc (suc zero)) h p = refl
chosen_one_by_one (suc (suc (suc zero))) h p = refl
chosen_one_by_one (suc (suc (suc (suc r)))) h p = absurd (let z : ⊥ = omega arith in z)

-- a vector and its scalar, whose endpoints are given: the picture by the indexes of set a, which start at bit s
module _ (m n r i : ℕ) (hr : r < 4) (es : split_at m n ≡ Vector r i) {e0 e1 : List ℕ} (p0 : e0 ≡ four (end_byte m n 0))
    (p1 : e1 ≡ four (end_byte m n 1)) where
  pub by_set : (a b s : ℕ) → a < 2 → index_bits m a ≡ b → 2 ≤ b → start m (Vector r i) (first_from + (16 * a + 0)) ≡ s → {x : ℕ}
      → x ≡ expanded b (0 ∷ []) (field n s (16 * b - 1))
      → Picture m n r i hr es a (table 16 (λ q. between b e0 e1 (part x b q)))
  unfolding between
  by_set a b s ha eb least ea {x} ex q hq =
      let indexes =
      indexes_at m (Vector r i) a n b (16 * b - 1) (0 ∷ []) ha eb refl (size_1 b (omega arith))
      (ex ∙ ap (λ (s : ℕ). expanded b (0 ∷ []) (field n s (16 * b - 1))) (sym ea)) in
      get_d_table 16 _ [] q hq
      ∙ ap₂ (λ (u v : List ℕ). four (λ c. drawn (get_or u c 0) (get_or v c 0) (weight_of b (part x b q)))) p0 p1
      ∙ ap₂ (λ (w k : ℕ). four (λ c. drawn (end_byte m n 0 c) (end_byte m n 1 c) (weight_of w k))) (sym eb) (indexes q hq)

-- colour and alpha of two pictures
merged_is : (f g : ℕ → List ℕ) → merged (table 16 f) (table 16 g) ≡ table 16 (λ q. crossed (f q) (g q))
unfolding merged crossed
merged_is f g = table_same [] 16 _ _ (λ q hq. ap₂ crossed (get_d_table 16 f [] q hq) (get_d_table 16 g [] q hq))

-- the index mode says which set serves the vector
pub vector_either : (m n r i : ℕ) (hr : r < 4) (es : split_at m n ≡ Vector r i) → i < 2 → (f g : ℕ → List ℕ) → Picture m n r i hr es 0 (table 16 f)
    → Picture m n r i hr es 1 (table 16 g)
    → swapped r (table 16 (λ q. pick (eqb i 0) (crossed (f q) (g q)) (crossed (g q) (f q)))) ≡ direct_pixels m n
vector_either m n r zero hr es h f g p q = ap (swapped r) (sym (merged_is f g)) ∙ vector_law m n r 0 hr es (table 16 f) (table 16 g) p q
vector_either m n r (suc zero) hr es h f g p q = ap (swapped r) (sym (merged_is g f)) ∙ vector_law m n r 1 hr es (table 16 g) (table 16 f) q p
vector_either m n r (suc (suc i)) hr es h f g p q = absurd (let z : ⊥ = omega arith in z)

-- all pairs, looked up by keys
pub paired : (x y : ℕ) (f : ℕ → List ℕ)
    → painted (key_at 2 2 (keys_of 2 2 y x)) (table 16 (λ i. crossed (f (i % 4)) (f (i / 4))))
    ≡ table 16 (λ q. crossed (f (part x 2 q)) (f (part y 2 q)))
unfolding painted
paired x y f =
    table_same [] 16 _ _ (λ q hq.
    let px = field_lt x (q * 2) 2 in
    let py = field_lt y (q * 2) 2 in
    let low : (part y 2 q * 2 ^ 2 + part x 2 q) % 4 ≡ part x 2 q = omega arith in
    let high : (part y 2 q * 2 ^ 2 + part x 2 q) / 4 ≡ part y 2 q = omega arith in
    ap (λ (j : ℕ). get_or (table 16 (λ i. crossed (f (i % 4)) (f (i / 4)))) j []) (key_at_is 2 2 y x (omega arith) (λ j hj. field_lt x (j * 2) 2) q hq)
    ∙ get_d_table 16 _ [] (part y 2 q * 2 ^ 2 + part x 2 q) (omega arith)
    ∙ ap₂ (λ (j k : ℕ). crossed (f j) (f k)) low high)

-- the sums of words
summed : (colour : Bool) {l a : List ℕ} → Fit (replicate 4 8) l → Fit (replicate 4 8) a
    → take 4 (word_bytes (kept_word colour l + kept_word (not colour) a)) ≡ pick colour (crossed l a) (crossed a l)
summed true {l} {a} fl fa = sum_bytes fl fa
summed false {l} {a} fl fa = ap (λ (x : ℕ). take 4 (word_bytes x)) (add_comm (kept_word false l) (kept_word true a)) ∙ sum_bytes fa fl

summed_lt : (colour : Bool) {l a : List ℕ} → Fit (replicate 4 8) l → Fit (replicate 4 8) a → kept_word colour l + kept_word (not colour) a < 2 ^ 32
summed_lt true fl fa = sum_lt fl fa
summed_lt false {l} {a} fl fa = rw (add_comm (kept_word false l) (kept_word true a)) (sum_lt fa fl)

module _ (colour : Bool) (e : Ends) (one : Alone e) {p q : List ℕ}
    (ep : p ≡ table 4 (λ k. kept_word colour (between 2 (endpoint e 0 0) (endpoint e 0 1) k)))
    (eq : q ≡ table 8 (λ k. kept_word (not colour) (between 3 (endpoint e 0 0) (endpoint e 0 1) k))) where
  pub words_apart : Apart p q
  words_apart i j hi hj =
      rw (
        ep,
        eq,
        get_d_table 4 (λ k. kept_word colour (between 2 (endpoint e 0 0) (endpoint e 0 1) k)) 0 i hi,
        get_d_table 8
            (λ k. kept_word (not colour) (between 3 (endpoint e 0 0) (endpoint e 0 1) k)) 0 j hj,
      )
      (summed_lt colour (between_fits 2 i e one (omega arith) (omega arith) hi) (between_fits 3 j e one (omega arith) (omega arith) hj))

  pub words_summed : (x y : ℕ) → table 16 (λ i. take 4 (word_bytes (get_or p (part x 2 i) 0 + get_or q (part y 3 i) 0)))
      ≡ table 16 (λ i. pick colour (crossed (between 2 (endpoint e 0 0) (endpoint e 0 1) (part x 2 i))
      (between 3 (endpoint e 0 0) (endpoint e 0 1) (part y 3 i)))
      (crossed (between 3 (endpoint e 0 0) (endpoint e 0 1) (part y 3 i)) (between 2 (endpoint e 0 0) (endpoint e 0 1) (part x 2 i))))
  words_summed x y =
      table_same [] 16 _ _ (λ i hi.
      ap₂ (λ (u v : ℕ). take 4 (word_bytes (u + v)))
      (ap (λ (l : List ℕ). get_or l (part x 2 i) 0) ep ∙ get_d_table 4 _ 0 (part x 2 i) (field_lt x (i * 2) 2))
      (ap (λ (l : List ℕ). get_or l (part y 3 i) 0) eq ∙ get_d_table 8 _ 0 (part y 3 i) (field_lt y (i * 3) 3))
      ∙ summed colour (between_fits 2 (part x 2 i) e one (omega arith) (omega arith) (field_lt x (i * 2) 2))
      (between_fits 3 (part y 3 i) e one (omega arith) (omega arith) (field_lt y (i * 3) 3)))
