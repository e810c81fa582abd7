-- From lanes and keys to the pixels of the format.
-- Assumes nothing.
use Rattle.std.proofs.Common.{◌≡◌, ℕ, zero, suc, ◌+◌, ◌*◌, ◌/◌, ◌%◌, ◌^◌, ◌<◌, ◌≤◌, Bool, List, [], ◌∷◌, get_or, sym, refl, ap, ◌∙◌, ap₂, arith, pow_pos}
use native.Mathlib.Decide.{ℕ_discrete}
use Rattle.laws.specs.Tables.{table, table_from}
use Rattle.laws.proofs.Part.{get_d_table}
use Rattle.bcn_format.specs.Drawing.{drawn, weight_of}
use Rattle.bcn_format.proofs.Drawing.{weight_most}
use Rattle.bc6h_format.specs.Modes.{Row, row_of}
use Rattle.bc6h_format.specs.Widening.{endpoint, widened}
use Rattle.bc6h_format.specs.Halves.{finished}
use Rattle.bc6h_format.proofs.Bounds.{base_le, drawn_lt, endpoint_lt, finished_lt, widened_lt}
use Rattle.bc6h_modes.specs.Lanes.{colour, lanes}
use Rattle.bc6h.specs.Lanes.{AnyEndpoints, Doubled, Sixteen, colours, finished_lanes, widened_lanes}
use Rattle.bc6h.specs.Painting.{pixel_at, words_of}

-- widened lanes have sixteen bits, and what was there twice is
pub sixteen_widened : (signed : Bool) (w : ℕ) (v : List ℕ) {e : List ℕ} → w ≤ 16 → ((i : ℕ) → i < 16 → get_or v i 0 < 2 ^ w)
    → e ≡ widened_lanes signed w v
    → Sixteen e
sixteen_widened signed w v l fit ee =
    record { each = λ i h. rw (ee, get_d_table 16 (λ i. widened signed w (get_or v i 0)) 0 i h) (widened_lt signed w (get_or v i 0) l (fit i h)) }

pub doubled_widened : (signed : Bool) (w : ℕ) (v : List ℕ) {e : List ℕ} → Doubled v → e ≡ widened_lanes signed w v → Doubled e
doubled_widened signed w v {e} d ee = record {
  first = λ i l. here (i + 4) (omega arith) ∙ (ap (widened signed w) (d.first i l) ∙ sym (here i (omega arith)));
  second = λ i l. here (i + 12) (omega arith) ∙ (ap (widened signed w) (d.second i l) ∙ sym (here (i + 8) (omega arith)));
}
  where
    here : (i : ℕ) → i < 16 → get_or e i 0 ≡ widened signed w (get_or v i 0)
    here i l = ap (λ (x : List ℕ). get_or x i 0) ee ∙ get_d_table 16 (λ i. widened signed w (get_or v i 0)) 0 i l

-- the endpoints in their lanes are within the mode's width
colour_fit : (m n e : ℕ) (more : List ℕ) → e < 4 → ((i : ℕ) → get_or more i 0 < 2 ^ (row_of m).base) → (i : ℕ)
    → get_or (colour (row_of m) n e more) i 0 < 2 ^ (row_of m).base
colour_fit m n e more h rest zero = endpoint_lt m n 0 e (omega arith) h
colour_fit m n e more h rest (suc zero) = endpoint_lt m n 1 e (omega arith) h
colour_fit m n e more h rest (suc (suc zero)) = endpoint_lt m n 2 e (omega arith) h
colour_fit m n e more h rest (suc (suc (suc zero))) = pow_pos (row_of m).base
colour_fit m n e more h rest (suc (suc (suc (suc i)))) = rest i

nothing_fit : (m : ℕ) (i : ℕ) → get_or [] i 0 < 2 ^ (row_of m).base
nothing_fit m zero = pow_pos (row_of m).base
nothing_fit m (suc i) = pow_pos (row_of m).base

pub lanes_fit : (k m n : ℕ) → k < 2 → (i : ℕ) → get_or (lanes k (row_of m) n) i 0 < 2 ^ (row_of m).base
unfolding lanes
lanes_fit k m n h =
    let r = row_of m in
    let last : List ℕ = colour r n (2 * k + 1) [] in
    let third : List ℕ = colour r n 1 last in
    let second : List ℕ = colour r n (2 * k) third in
    colour_fit m n 0 second (omega arith)
    (colour_fit m n (2 * k) third (omega arith) (colour_fit m n 1 last (omega arith) (colour_fit m n (2 * k + 1) [] (omega arith) (nothing_fit m))))

-- which lane an endpoint is in
lane_first : (k : ℕ) (r : Row) (n s c : ℕ) → s < 2 → c < 3 → get_or (lanes k r n) (4 * s + c) 0 ≡ endpoint r n c (2 * (s * k))
unfolding lanes
lane_first k r n zero zero hs hc = ap (λ (e : ℕ). endpoint r n 0 e) (let y : 0 ≡ 2 * (0 * k) = omega arith in y)
lane_first k r n zero (suc zero) hs hc = ap (λ (e : ℕ). endpoint r n 1 e) (let y : 0 ≡ 2 * (0 * k) = omega arith in y)
lane_first k r n zero (suc (suc zero)) hs hc = ap (λ (e : ℕ). endpoint r n 2 e) (let y : 0 ≡ 2 * (0 * k) = omega arith in y)
lane_first k r n zero (suc (suc (suc c))) hs hc = absurd (let z : ⊥ = omega arith in z)
lane_first k r n (suc zero) zero hs hc = ap (λ (e : ℕ). endpoint r n 0 e) (let y : 2 * k ≡ 2 * (1 * k) = omega arith in y)
lane_first k r n (suc zero) (suc zero) hs hc = ap (λ (e : ℕ). endpoint r n 1 e) (let y : 2 * k ≡ 2 * (1 * k) = omega arith in y)
lane_first k r n (suc zero) (suc (suc zero)) hs hc = ap (λ (e : ℕ). endpoint r n 2 e) (let y : 2 * k ≡ 2 * (1 * k) = omega arith in y)
lane_first k r n (suc zero) (suc (suc (suc c))) hs hc = absurd (let z : ⊥ = omega arith in z)
lane_first k r n (suc (suc s)) c hs hc = absurd (let z : ⊥ = omega arith in z)

lane_second : (k : ℕ) (r : Row) (n s c : ℕ) → s < 2 → c < 3 → get_or (lanes k r n) (4 * s + c + 8) 0 ≡ endpoint r n c (2 * (s * k) + 1)
unfolding lanes
lane_second k r n zero zero hs hc = ap (λ (e : ℕ). endpoint r n 0 e) (let y : 1 ≡ 2 * (0 * k) + 1 = omega arith in y)
lane_second k r n zero (suc zero) hs hc = ap (λ (e : ℕ). endpoint r n 1 e) (let y : 1 ≡ 2 * (0 * k) + 1 = omega arith in y)
lane_second k r n zero (suc (suc zero)) hs hc = ap (λ (e : ℕ). endpoint r n 2 e) (let y : 1 ≡ 2 * (0 * k) + 1 = omega arith in y)
lane_second k r n zero (suc (suc (suc c))) hs hc = absurd (let z : ⊥ = omega arith in z)
lane_second k r n (suc zero) zero hs hc = ap (λ (e : ℕ). endpoint r n 0 e) (let y : 2 * k + 1 ≡ 2 * (1 * k) + 1 = omega arith in y)
lane_second k r n (suc zero) (suc zero) hs hc = ap (λ (e : ℕ). endpoint r n 1 e) (let y : 2 * k + 1 ≡ 2 * (1 * k) + 1 = omega arith in y)
lane_second k r n (suc zero) (suc (suc zero)) hs hc = ap (λ (e : ℕ). endpoint r n 2 e) (let y : 2 * k + 1 ≡ 2 * (1 * k) + 1 = omega arith in y)
lane_second k r n (suc zero) (suc (suc (suc c))) hs hc = absurd (let z : ⊥ = omega arith in z)
lane_second k r n (suc (suc s)) c hs hc = absurd (let z : ⊥ = omega arith in z)

-- one channel of a pixel of the subset u at the index i
abbrev pub channel : Bool → Row → ℕ → ℕ → ℕ → ℕ → ℕ → ℕ
channel signed r n u b i c =
    finished signed
    (drawn (widened signed r.base (endpoint r n c (2 * u))) (widened signed r.base (endpoint r n c (2 * u + 1))) (weight_of b i))

-- a word of two lanes
two_lanes : (a b : ℕ) → a < 65536 → (a + b * 65536) / 65536 ≡ b
two_lanes a b h = omega arith

low_lane : (a b : ℕ) → a < 65536 → (a + b * 65536) % 65536 ≡ a
low_lane a b h = omega arith

module _ (signed : Bool) (k m n b st : ℕ) (hk : k < 2) {q : List ℕ}
    (eq : q ≡ finished_lanes signed (colours b st (widened_lanes signed (row_of m).base (lanes k (row_of m) n)))) where
  -- a lane of the finished colours
  lane_value : (j : ℕ) → j < 64 → get_or q j 0 ≡ finished signed
      (drawn (widened signed (row_of m).base (get_or (lanes k (row_of m) n) (j % 8) 0))
      (widened signed (row_of m).base (get_or (lanes k (row_of m) n) (j % 8 + 8) 0))
      (weight_of b (j / st)))
  unfolding colours
  lane_value j l =
      ap (λ (x : List ℕ). get_or x j 0) eq
      ∙ (get_d_table 64 _ 0 j l
      ∙ ap (finished signed)
      (get_d_table 64 _ 0 j l
      ∙ ap₂ (λ (x y : ℕ). drawn x y (weight_of b (j / st))) (get_d_table 16 _ 0 (j % 8) (omega arith)) (get_d_table 16 _ 0 (j % 8 + 8) (omega arith))))

  lane_lt : (j : ℕ) → j < 64 → get_or q j 0 < 65536
  lane_lt j l =
      rw (lane_value j l)
      (finished_lt signed _ (drawn_lt _ _ _ (weight_most b (j / st))
      (widened_lt signed _ _ (base_le m) (lanes_fit k m n hk (j % 8))) (widened_lt signed _ _ (base_le m) (lanes_fit k m n hk (j % 8 + 8)))))

  module _ {w : List ℕ} (ew : w ≡ words_of q) (key u i : ℕ) (hkey : key < 16) (eu : u ≡ key % 2 * k)
      (ei : (c : ℕ) → c < 3 → (4 * key + c) / st ≡ i) where
    word : (j : ℕ) → j < 32 → get_or w j 0 ≡ get_or q (2 * j) 0 + get_or q (2 * j + 1) 0 * 65536
    word j l = ap (λ (x : List ℕ). get_or x j 0) ew ∙ get_d_table 32 _ 0 j l

    lane_is : (c : ℕ) → c < 3 → get_or q (4 * key + c) 0 ≡ channel signed (row_of m) n u b i c
    lane_is c hc =
        let place : (4 * key + c) % 8 ≡ 4 * (key % 2) + c = omega arith in
        let half : key % 2 < 2 = omega arith in
        lane_value (4 * key + c) (omega arith)
        ∙ rw (place, ei c hc, lane_first k (row_of m) n (key % 2) c half hc, lane_second k (row_of m) n (key % 2) c half hc, eu) refl

    pub pixel_is : pixel_at w key ≡ table 3 (channel signed (row_of m) n u b i)
    unfolding table table_from
    pixel_is =
        let r : 2 * (2 * key) ≡ 4 * key + 0 = omega arith in
        let g : 2 * (2 * key) + 1 ≡ 4 * key + 1 = omega arith in
        let bl : 2 * (2 * key + 1) ≡ 4 * key + 2 = omega arith in
        let x = word (2 * key) (omega arith) in
        let y = word (2 * key + 1) (omega arith) in
        let red : get_or w (2 * key) 0 % 65536 ≡ channel signed (row_of m) n u b i 0 =
        ap (λ (z : ℕ). z % 65536) x
        ∙ (low_lane _ _ (lane_lt (2 * (2 * key)) (omega arith))
        ∙ (ap (λ (j : ℕ). get_or q j 0) r ∙ lane_is 0 (omega arith))) in
        let green : get_or w (2 * key) 0 / 65536 ≡ channel signed (row_of m) n u b i 1 =
        ap (λ (z : ℕ). z / 65536) x
        ∙ (two_lanes _ _ (lane_lt (2 * (2 * key)) (omega arith))
        ∙ (ap (λ (j : ℕ). get_or q j 0) g ∙ lane_is 1 (omega arith))) in
        let blue : get_or w (2 * key + 1) 0 % 65536 ≡ channel signed (row_of m) n u b i 2 =
        ap (λ (z : ℕ). z % 65536) y
        ∙ (low_lane _ _ (lane_lt (2 * (2 * key + 1)) (omega arith))
        ∙ (ap (λ (j : ℕ). get_or q j 0) bl ∙ lane_is 2 (omega arith))) in
        λ t. red t ∷ green t ∷ blue t ∷ []

-- a width is no more than sixteen
pub any_most : {w : ℕ} {v : List ℕ} → AnyEndpoints w v → w ≤ 16
any_most {w} {v} h = go (ℕ_discrete w 16)
  where
    go : Dec (w ≡ 16) → w ≤ 16
    go (yes e) = omega (arith, e)
    go (no n) = let l = h.most n in omega (arith, l)

-- one subset has its endpoints twice
pub lanes_doubled : (r : Row) (n : ℕ) → Doubled (lanes 0 r n)
unfolding lanes
lanes_doubled r n = record { first = λ i l. four_same i l; second = λ i l. later_same i l }
  where
    four_same : (i : ℕ) → i < 4 → get_or (colour r n 0 (colour r n 0 (colour r n 1 (colour r n 1 [])))) (i + 4) 0
        ≡ get_or (colour r n 0 (colour r n 0 (colour r n 1 (colour r n 1 [])))) i 0
    four_same zero l = refl
    four_same (suc zero) l = refl
    four_same (suc (suc zero)) l = refl
    four_same (suc (suc (suc zero))) l = refl
    four_same (suc (suc (suc (suc i)))) l = absurd (let z : ⊥ = omega arith in z)

    later_same : (i : ℕ) → i < 4 → get_or (colour r n 0 (colour r n 0 (colour r n 1 (colour r n 1 [])))) (i + 12) 0
        ≡ get_or (colour r n 0 (colour r n 0 (colour r n 1 (colour r n 1 [])))) (i + 8) 0
    later_same zero l = refl
    later_same (suc zero) l = refl
    later_same (suc (suc zero)) l = refl
    later_same (suc (suc (suc zero))) l = refl
    later_same (suc (suc (suc (suc i)))) l = absurd (let z : ⊥ = omega arith in z)
