-- From weight to weight by sums that wrap.
-- Assumes nothing.
use Rattle.std.proofs.Common.{◌≡◌, ℕ, zero, suc, ◌+◌, ◌-◌, ◌*◌, ◌/◌, ◌%◌, ◌^◌, ◌<◌, ◌≤◌, T, eqb, leb, List, [], ◌∷◌, length, get_or, ap, ◌∙◌, ap₂, le_of_suc-le-suc, mul-le-mul_right, add-mul, mul-le-mul_left, arith, eqb→eq, leb→le}
use Rattle.laws.specs.Tables.{below, both, table}
use Rattle.laws.proofs.Joining.{table_same}
use Rattle.laws.proofs.Part.{get_d_table}
use Rattle.laws.proofs.Tests.{at, both_left, both_right}
use Rattle.bcn_format.specs.Drawing.{drawn, weight_of, weights}
use Rattle.bc6h.specs.Lanes.{AllDividing, Dividing, Sixteen, colours, level, mixed_at, rise, rises_of, rows_of}

-- 64 times a value of sixteen bits, and a half
pub mixed_lt : (w a b : ℕ) → w ≤ 64 → a < 65536 → b < 65536 → mixed_at w a b < 4194304
mixed_lt w a b h la lb =
    let p : (64 - w) * a ≤ (64 - w) * 65535 = mul-le-mul_left (64 - w) (le_of_suc-le-suc la) in
    let q : w * b ≤ w * 65535 = mul-le-mul_left w (le_of_suc-le-suc lb) in
    omega arith

-- one lane at the next weight
pub next : (w k a b : ℕ) → w + k ≤ 64 → a < 65536 → b < 65536 → (mixed_at w a b + rise k a b) % 4294967296 ≡ mixed_at (w + k) a b
next w k a b h la lb =
    let e : 64 - w ≡ (64 - (w + k)) + k = omega arith in
    let p : (64 - w) * a ≡ (64 - (w + k)) * a + k * a = ap (λ (x : ℕ). x * a) e ∙ add-mul (64 - (w + k)) k a in
    let q : (w + k) * b ≡ w * b + k * b = add-mul w k b in
    let r = mixed_lt (w + k) a b h la lb in
    let s : k * a ≤ 64 * a = mul-le-mul_right a (let y : k ≤ 64 = omega arith in y) in
    omega (arith, p, q, r, s)

module _ (e : List ℕ) (small : Sixteen e) where
  -- eight lanes at the next weights
  pub stepped : (g h : ℕ → ℕ) (k : ℕ) {v d r : List ℕ} → T (below 8 (λ i. both (eqb (g i + k) (h i)) (leb (h i) 64)))
      → v ≡ level e g → d ≡ rises_of k e → r ≡ table 8 (λ i. (get_or v i 0 + get_or d i 0) % 2 ^ 32) → r ≡ level e h
  stepped g h k {v} {d} {r} t ev ed er =
      er
      ∙ table_same 0 8 _ _ (λ i l.
      let u = at 8 (λ i. both (eqb (g i + k) (h i)) (leb (h i) 64)) t i l in
      let same : g i + k ≡ h i = eqb→eq (g i + k) (h i) (both_left (eqb (g i + k) (h i)) _ u) in
      let most : h i ≤ 64 = leb→le (h i) 64 (both_right (eqb (g i + k) (h i)) _ u) in
      ap₂ (λ (x y : ℕ). (x + y) % 2 ^ 32)
      (ap (λ (l : List ℕ). get_or l i 0) ev ∙ get_d_table 8 _ 0 i l)
      (ap (λ (l : List ℕ). get_or l i 0) ed ∙ get_d_table 8 _ 0 i l)
      ∙ (next (g i) k (get_or e i 0) (get_or e (i + 8) 0) (let y : g i + k ≤ 64 = omega (arith, same, most) in y) (small.each i (omega arith))
      (small.each (i + 8) (omega arith))
      ∙ ap (λ (w : ℕ). mixed_at w (get_or e i 0) (get_or e (i + 8) 0)) same))

  pub divides : (g : ℕ → ℕ) {v : List ℕ} → T (below 8 (λ i. leb (g i) 64)) → v ≡ level e g → Dividing v
  divides g {v} t ev =
      record {
        small = λ i l. rw (ev, get_d_table 8 (λ i. mixed_at (g i) (get_or e i 0) (get_or e (i + 8) 0)) 0 i l)
            (mixed_lt (g i) _ _ (leb→le (g i) 64 (at 8 (λ i. leb (g i) 64) t i l)) (small.each i (omega arith))
            (small.each (i + 8) (omega arith)));
      }

-- a loop that lays eight lanes from lane `at` on
pub record Laying (q : List ℕ) (at : ℕ) (v : List ℕ) (i : ℕ) (r : List ℕ) : Type 0 where
  pub within : i ≤ 8
  pub long : length r ≡ 64
  pub kept : (k : ℕ) → k < at → get_or r k 0 ≡ get_or q k 0
  pub new : (j : ℕ) → j < i → get_or r (at + j) 0 ≡ get_or v j 0 / 64

-- rows at their weights are the colours
pub coloured : (b s : ℕ) (e : List ℕ) (g : ℕ → ℕ → ℕ) (vs : List (List ℕ)) → ((k : ℕ) → k < 8 → get_or vs k [] ≡ level e (g k))
    → T (below 64 (λ j. eqb (g (j / 8) (j % 8)) (weight_of b (j / s)))) → rows_of vs ≡ colours b s e
unfolding colours drawn
coloured b s e g vs ev t =
    table_same 0 64 _ _ (λ j l.
    let k : j / 8 < 8 = omega arith in
    let m : j % 8 < 8 = omega arith in
    ap (λ (v : List ℕ). get_or v (j % 8) 0 / 64) (ev (j / 8) k)
    ∙ (ap (λ (x : ℕ). x / 64) (get_d_table 8 _ 0 (j % 8) m)
    ∙ ap (λ (w : ℕ). mixed_at w (get_or e (j % 8) 0) (get_or e (j % 8 + 8) 0) / 64)
    (eqb→eq (g (j / 8) (j % 8)) (weight_of b (j / s)) (at 64 (λ j. eqb (g (j / 8) (j % 8)) (weight_of b (j / s))) t j l))))

-- eight rows by their numbers
pub eight_rows : (P : ℕ → Type 0) → P 0 → P 1 → P 2 → P 3 → P 4 → P 5 → P 6 → P 7 → (k : ℕ) → k < 8 → P k
eight_rows P a b c d e f g h zero l = a
eight_rows P a b c d e f g h (suc zero) l = b
eight_rows P a b c d e f g h (suc (suc zero)) l = c
eight_rows P a b c d e f g h (suc (suc (suc zero))) l = d
eight_rows P a b c d e f g h (suc (suc (suc (suc zero)))) l = e
eight_rows P a b c d e f g h (suc (suc (suc (suc (suc zero))))) l = f
eight_rows P a b c d e f g h (suc (suc (suc (suc (suc (suc zero)))))) l = g
eight_rows P a b c d e f g h (suc (suc (suc (suc (suc (suc (suc zero))))))) l = h
eight_rows P a b c d e f g h (suc (suc (suc (suc (suc (suc (suc (suc k)))))))) l = absurd (let z : ⊥ = omega arith in z)

-- eight lanes whose weights are the same
pub level_same : (e : List ℕ) (g h : ℕ → ℕ) → T (below 8 (λ i. eqb (g i) (h i))) → level e g ≡ level e h
level_same e g h t =
    table_same 0 8 _ _ (λ i l. ap (λ (w : ℕ). mixed_at w (get_or e i 0) (get_or e (i + 8) 0)) (eqb→eq (g i) (h i) (at 8 (λ i. eqb (g i) (h i)) t i l)))

abbrev pub sums : List ℕ → List ℕ → List ℕ
sums v d = table 8 (λ i. (get_or v i 0 + get_or d i 0) % 2 ^ 32)

pub all_dividing : (e : List ℕ) → Sixteen e → (g : ℕ → ℕ → ℕ) (vs : List (List ℕ))
    → ((k : ℕ) → k < 8 → get_or vs k [] ≡ level e (g k)) → T (below 8 (λ k. below 8 (λ i. leb (g k i) 64))) → AllDividing vs
all_dividing e small g vs ev t =
    record { each = λ k l. divides e small (g k) (at 8 (λ k. below 8 (λ i. leb (g k i) 64)) t k l) (ev k l) }

-- the weights of three bits, by 9 and once by 1 more
abbrev pub weight2 : ℕ → ℕ → ℕ
weight2 k i = weight_of 3 k

pub two_levels : (e : List ℕ) → Sixteen e → {v0 v1 v2 v3 m v4 v5 v6 v7 d1 d9 : List ℕ} → v0 ≡ level e (λ i. 0) → d1 ≡ rises_of 1 e → d9 ≡ rises_of 9 e
    → v1 ≡ sums v0 d9 → v2 ≡ sums v1 d9 → v3 ≡ sums v2 d9 → m ≡ sums v3 d1 → v4 ≡ sums m d9 → v5 ≡ sums v4 d9 → v6 ≡ sums v5 d9 → v7 ≡ sums v6 d9
    → (k : ℕ) → k < 8 → get_or (v0 ∷ v1 ∷ v2 ∷ v3 ∷ v4 ∷ v5 ∷ v6 ∷ v7 ∷ []) k [] ≡ level e (weight2 k)
unfolding weight_of weights
two_levels e small {v0} {v1} {v2} {v3} {m} {v4} {v5} {v6} {v7} e0 e1 e9 p1 p2 p3 pm p4 p5 p6 p7 =
    let l1 = stepped e small (λ i. 0) (λ i. 9) 9 tt e0 e9 p1 in
    let l2 = stepped e small (λ i. 9) (λ i. 18) 9 tt l1 e9 p2 in
    let l3 = stepped e small (λ i. 18) (λ i. 27) 9 tt l2 e9 p3 in
    let lm = stepped e small (λ i. 27) (λ i. 28) 1 tt l3 e1 pm in
    let l4 = stepped e small (λ i. 28) (λ i. 37) 9 tt lm e9 p4 in
    let l5 = stepped e small (λ i. 37) (λ i. 46) 9 tt l4 e9 p5 in
    let l6 = stepped e small (λ i. 46) (λ i. 55) 9 tt l5 e9 p6 in
    let l7 = stepped e small (λ i. 55) (λ i. 64) 9 tt l6 e9 p7 in
    eight_rows (λ k. get_or (v0 ∷ v1 ∷ v2 ∷ v3 ∷ v4 ∷ v5 ∷ v6 ∷ v7 ∷ []) k [] ≡ level e (weight2 k)) e0 l1 l2 l3 l4 l5 l6 l7

pub two_most : T (below 8 (λ k. below 8 (λ i. leb (weight2 k i) 64)))
unfolding weight_of weights
two_most = tt

pub two_weights : T (below 64 (λ j. eqb (weight2 (j / 8) (j % 8)) (weight_of 3 (j / 8))))
unfolding weight_of weights
two_weights = tt

-- the weights of four bits, two in a row, by 9 and 8 in turn
abbrev pub weight1 : ℕ → ℕ → ℕ
weight1 k i = weight_of 4 (2 * k + i / 4)

pub one_levels : (e : List ℕ) → Sixteen e → {v0 v1 v2 v3 v4 v5 v6 v7 d8 d9 : List ℕ} → v0 ≡ level e (λ i. weight_of 4 (i / 4))
    → d8 ≡ rises_of 8 e → d9 ≡ rises_of 9 e
    → v1 ≡ sums v0 d9 → v2 ≡ sums v1 d8 → v3 ≡ sums v2 d9 → v4 ≡ sums v3 d8 → v5 ≡ sums v4 d9 → v6 ≡ sums v5 d8 → v7 ≡ sums v6 d9
    → (k : ℕ) → k < 8 → get_or (v0 ∷ v1 ∷ v2 ∷ v3 ∷ v4 ∷ v5 ∷ v6 ∷ v7 ∷ []) k [] ≡ level e (weight1 k)
unfolding weight_of weights
one_levels e small {v0} {v1} {v2} {v3} {v4} {v5} {v6} {v7} e0 e8 e9 p1 p2 p3 p4 p5 p6 p7 =
    let l0 = e0 ∙ level_same e (λ i. weight_of 4 (i / 4)) (weight1 0) tt in
    let l1 = stepped e small (weight1 0) (weight1 1) 9 tt l0 e9 p1 in
    let l2 = stepped e small (weight1 1) (weight1 2) 8 tt l1 e8 p2 in
    let l3 = stepped e small (weight1 2) (weight1 3) 9 tt l2 e9 p3 in
    let l4 = stepped e small (weight1 3) (weight1 4) 8 tt l3 e8 p4 in
    let l5 = stepped e small (weight1 4) (weight1 5) 9 tt l4 e9 p5 in
    let l6 = stepped e small (weight1 5) (weight1 6) 8 tt l5 e8 p6 in
    let l7 = stepped e small (weight1 6) (weight1 7) 9 tt l6 e9 p7 in
    eight_rows (λ k. get_or (v0 ∷ v1 ∷ v2 ∷ v3 ∷ v4 ∷ v5 ∷ v6 ∷ v7 ∷ []) k [] ≡ level e (weight1 k)) l0 l1 l2 l3 l4 l5 l6 l7

pub one_most : T (below 8 (λ k. below 8 (λ i. leb (weight1 k i) 64)))
unfolding weight_of weights
one_most = tt

pub one_weights : T (below 64 (λ j. eqb (weight1 (j / 8) (j % 8)) (weight_of 4 (j / 4))))
unfolding weight_of weights
one_weights = tt
