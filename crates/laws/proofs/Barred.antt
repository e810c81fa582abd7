-- Bytes that keep out of the bits above their widths fit them: one mask for a row of bytes.
-- Assumes nothing.
use mathlib.Core.Path.{◌≡◌, refl, sym, ap, ap₂, ◌∙◌, subst}
use mathlib.Core.List.{List, ◌∷◌}
use Prim.Native.Nat.{ℕ, zero, suc, ◌+◌, ◌-◌, ◌*◌, ◌/◌, ◌%◌, ◌^◌, ◌≤◌, ◌<◌}
use native.Mathlib.Nat.{div-eq_of_lt, mod-lt, zero-mul, not-suc-le-zero}
use native.Mathlib.Omega.{arith}
use lib.Dec.{eqb, ltb, ltb→lt, lt→ltb, eqb→eq}
use lib.ListN.{get_or, replicate}
use lib.Pow.{pow_pos, split as split_at}
use lib.Bits.{bit_and}
use Rattle.laws.specs.Digits.{Fit, join, more, none}
use Rattle.laws.specs.Tables.{below, table}
use Rattle.laws.proofs.Masks.{over}
use Rattle.laws.proofs.Putting.{ands, and_join}
use Rattle.laws.proofs.Rows.{table_cons, table_none}
use Rattle.laws.proofs.Tests.{at, below_intro, eqb_of, same_test}

-- the bits that a byte of width w may not have
abbrev pub barred : ℕ → ℕ
barred w = 2 ^ 8 - 2 ^ w

kept_byte : (w v : ℕ) → w ≤ 8 → v < 2 ^ 8 → bit_and v (barred w) ≡ v / 2 ^ w * 2 ^ w
kept_byte w v hw hv =
    let e : 8 - w + w ≡ 8 = omega arith in
    subst (λ (k : ℕ). v < 2 ^ k → bit_and v (2 ^ k - 2 ^ w) ≡ v / 2 ^ w * 2 ^ w) e (over (8 - w) w v) hv

barred_fits : (w : ℕ) → barred w < 2 ^ 8
barred_fits w = omega (arith, pow_pos w)

-- nothing is left above w bits exactly where the value fits them
none_above : (w v : ℕ) → v / 2 ^ w * 2 ^ w ≡ 0 → v < 2 ^ w
none_above w v e = subst (λ (x : ℕ). x < 2 ^ w) (let z : v % 2 ^ w ≡ v = omega (arith, split_at v w) in z) (mod-lt v (pow_pos w))

all_below : (w v : ℕ) → v < 2 ^ w → v / 2 ^ w * 2 ^ w ≡ 0
all_below w v h = rw (div-eq_of_lt h, zero-mul (2 ^ w))

-- a row of bytes under the mask of their widths
masked : (n : ℕ) (w : ℕ → ℕ) {vs : List ℕ} → ((i : ℕ) → i < n → w i ≤ 8) → Fit (replicate n 8) vs
    → bit_and (join (replicate n 8) vs) (join (replicate n 8) (table n (λ i. barred (w i))))
    ≡ join (replicate n 8) (table n (λ i. get_or vs i 0 / 2 ^ w i * 2 ^ w i))
masked n w hw f = and_join f (fit_barred n w) ∙ ap (join (replicate n 8)) (each n w hw f)
  where
    fit_barred : (n : ℕ) (w : ℕ → ℕ) → Fit (replicate n 8) (table n (λ i. barred (w i)))
    fit_barred zero w = rw (table_none (λ i. barred (w i))) none
    fit_barred (suc n) w = rw (table_cons n (λ i. barred (w i))) (more (barred_fits (w 0)) (fit_barred n (λ i. w (suc i))))

    each : (n : ℕ) (w : ℕ → ℕ) {vs : List ℕ} → ((i : ℕ) → i < n → w i ≤ 8) → Fit (replicate n 8) vs
        → ands vs (table n (λ i. barred (w i))) ≡ table n (λ i. get_or vs i 0 / 2 ^ w i * 2 ^ w i)
    each zero w hw none = sym (table_none _)
    each (suc n) w hw (more {v = v} {vs = vs} h f) =
        rw (table_cons n (λ i. barred (w i)))
        (ap₂ {C = List ℕ} (λ x l. x ∷ l) (kept_byte (w 0) v (hw 0 (omega arith)) h) (each n (λ i. w (suc i)) (λ i l. hw (suc i) (omega arith)) f))
        ∙ sym (table_cons n (λ i. get_or (v ∷ vs) i 0 / 2 ^ w i * 2 ^ w i))

-- a join is 0 where each digit is
join_zero : (n : ℕ) (x : ℕ → ℕ) → ((i : ℕ) → i < n → x i ≡ 0) → join (replicate n 8) (table n x) ≡ 0
join_zero zero x h = refl
join_zero (suc n) x h = rw (table_cons n x, join_zero n (λ i. x (suc i)) (λ i l. h (suc i) (omega arith)), h 0 (omega arith))

zero_join : (n : ℕ) (x : ℕ → ℕ) → join (replicate n 8) (table n x) ≡ 0 → (i : ℕ) → i < n → x i ≡ 0
zero_join zero x e i h = absurd (not-suc-le-zero h)
zero_join (suc n) x e zero h = let z = rw (table_cons n x) at e in omega arith
zero_join (suc n) x e (suc i) h = let z = rw (table_cons n x) at e in zero_join n (λ i. x (suc i)) (omega arith) i (omega arith)

-- so one test tells whether all fit
pub mask_fits : (n : ℕ) (w : ℕ → ℕ) (vs : List ℕ) → ((i : ℕ) → i < n → w i ≤ 8) → Fit (replicate n 8) vs
    → eqb (bit_and (join (replicate n 8) vs) (join (replicate n 8) (table n (λ i. barred (w i))))) 0 ≡ below n (λ i. ltb (get_or vs i 0) (2 ^ w i))
mask_fits n w vs hw f =
    let x : ℕ → ℕ = λ i. get_or vs i 0 / 2 ^ w i * 2 ^ w i in
    ap (λ (y : ℕ). eqb y 0) (masked n w hw f)
    ∙ same_test _ _ (λ t. below_intro n _ (λ i l. lt→ltb _ _ (none_above (w i) _ (zero_join n x (eqb→eq _ 0 t) i l))))
    (λ t. eqb_of _ 0 (join_zero n x (λ i l. all_below (w i) _ (ltb→lt _ _ (at n (λ i. ltb (get_or vs i 0) (2 ^ w i)) t i l)))))
