-- Rows of widths f 0, f 1, ..: how many bits they have together, the digits of a number at them, and the join of values.
-- Assumes nothing.
use mathlib.Core.Path.{◌≡◌, refl, sym, ap, ap₂, ◌∙◌}
use mathlib.Core.List.{List, [], ◌∷◌, ◌++◌}
use Prim.Native.Nat.{ℕ, zero, suc, ◌+◌, ◌*◌, ◌/◌, ◌%◌, ◌^◌, ◌≤◌, ◌<◌}
use native.Mathlib.Nat.{le_of_suc-le-suc, le_refl, not-suc-le-zero, suc-add, zero-add, zero-mul}
use native.Mathlib.Decide.{le_ind}
use native.Mathlib.Omega.{arith}
use lib.ListN.{length, get_or, take}
use lib.Pow.{field, mod-mod-pow}
use lib.Seq.{ext_get_or}
use Rattle.laws.specs.Digits.{Fit, join, more, none, split, total}
use Rattle.laws.specs.Tables.{table, table_from}
use Rattle.laws.proofs.Digits.{join_append, split_at_place, total_append}
use Rattle.laws.proofs.Part.{get_d_table, length_table}

module _ {A : Type 0} where
  shift_from : (i n : ℕ) (f : ℕ → A) → table_from (suc i) n f ≡ table_from i n (λ k. f (suc k))
  unfolding table_from
  shift_from i zero f = refl
  shift_from i (suc n) f = ap {B = List A} (λ l. f (suc i) ∷ l) (shift_from (suc i) n f)

  -- a table by its first, its last and one of its elements
  pub table_cons : (n : ℕ) (f : ℕ → A) → table (suc n) f ≡ f 0 ∷ table n (λ k. f (suc k))
  unfolding table table_from
  table_cons n f = ap {B = List A} (λ l. f 0 ∷ l) (shift_from 0 n f)

  pub table_none : (f : ℕ → A) → table 0 f ≡ []
  unfolding table table_from
  table_none f = refl

  pub table_mid : (i j : ℕ) (f : ℕ → A) → table (i + suc j) f ≡ table i f ++ (f i ∷ table j (λ k. f (suc (i + k))))
  table_mid zero j f = rw (zero-add (suc j), table_none f) (table_cons j f ∙ ap {B = List A} (λ l. f 0 ∷ l) (simp zero-add))
  table_mid (suc i) j f =
      rw (suc-add i (suc j), table_cons i f) (table_cons (i + suc j) f ∙ ap {B = List A} (λ l. f 0 ∷ l)
      (table_mid i j (λ k. f (suc k)) ∙ simp suc-add))

  pub table_more : (n : ℕ) (f : ℕ → A) → table (suc n) f ≡ table n f ++ (f n ∷ [])
  table_more zero f = rw (table_cons 0 f, table_none f, table_none (λ k. f (suc k)))
  table_more (suc n) f =
      table_cons (suc n) f ∙ ap {B = List A} (λ l. f 0 ∷ l) (table_more n (λ k. f (suc k)))
      ∙ ap {B = List A} (λ l. l ++ (f (suc n) ∷ [])) (sym (table_cons n f))

  pub take_table : (i n : ℕ) (f : ℕ → A) → i ≤ n → take i (table n f) ≡ table i f
  take_table zero n f h = sym (table_none f)
  take_table (suc i) zero f h = absurd (not-suc-le-zero h)
  take_table (suc i) (suc n) f h =
      ap (take (suc i)) (table_cons n f) ∙ ap {B = List A} (λ l. f 0 ∷ l) (take_table i n (λ k. f (suc k)) (le_of_suc-le-suc h))
      ∙ sym (table_cons i f)

-- totals
pub total_more : (n : ℕ) (f : ℕ → ℕ) → total (table (suc n) f) ≡ total (table n f) + f n
total_more n f = ap total (table_more n f) ∙ total_append (table n f) (f n ∷ []) ∙ ap (λ (x : ℕ). total (table n f) + x) (zero-add (f n))

total_mono : (f : ℕ → ℕ) (i n : ℕ) → i ≤ n → total (table i f) ≤ total (table n f)
total_mono f i n h =
    le_ind (λ (m : ℕ). total (table i f) ≤ total (table m f)) (le_refl (total (table i f)))
    (λ m k e. omega (arith, total_more m f)) n h

-- what the widths up to i need
pub total_room : (f : ℕ → ℕ) (i n : ℕ) → i < n → total (table i f) + f i ≤ total (table n f)
total_room f i n h = omega (arith, total_mono f (suc i) n h, total_more i f)

pub total_same : (f : ℕ → ℕ) (w n : ℕ) → ((k : ℕ) → k < n → f k ≡ w) → total (table n f) ≡ n * w
total_same f w zero h = rw (table_none f) (sym (zero-mul w))
total_same f w (suc n) h =
    let r : total (table n f) ≡ n * w = total_same f w n (λ k l. h k (omega arith)) in
    let s : f n ≡ w = h n (le_refl (suc n)) in
    omega (arith, total_more n f)

-- a split sees only the bits that its widths reach
pub split_mod : (ws : List ℕ) (n : ℕ) → split ws (n % 2 ^ total ws) ≡ split ws n
split_mod [] n = refl
split_mod (w ∷ ws) n = ap₂ {C = List ℕ} (λ x l. x ∷ l) (mod-mod-pow n (total ws) w) (ap (split ws) (field n (total ws) w) ∙ split_mod ws (n / 2 ^ w))

pub length_split : (ws : List ℕ) (n : ℕ) → length (split ws n) ≡ length ws
length_split [] n = refl
length_split (w ∷ ws) n = ap suc (length_split ws (n / 2 ^ w))

-- the digits of a number are its fields, each at the total of the widths before it
pub digit : (n : ℕ) (f : ℕ → ℕ) (x k : ℕ) → k < n → get_or (split (table n f) x) k 0 ≡ x / 2 ^ total (table k f) % 2 ^ f k
digit n f x k h =
    split_at_place (table n f) x k (rw (length_table n f) h)
    ∙ ap₂ (λ (s w : ℕ). x / 2 ^ s % 2 ^ w) (ap total (take_table k n f (omega arith))) (get_d_table n f 0 k h)

pub split_table : (n : ℕ) (f : ℕ → ℕ) (x : ℕ) → split (table n f) x ≡ table n (λ k. x / 2 ^ total (table k f) % 2 ^ f k)
split_table n f x =
    let g : ℕ → ℕ = λ k. x / 2 ^ total (table k f) % 2 ^ f k in
    let e : length (split (table n f) x) ≡ n = length_split (table n f) x ∙ length_table n f in
    ext_get_or 0 (split (table n f) x) (table n g) (e ∙ sym (length_table n g))
    (λ k l. let h : k < n = rw e at l in digit n f x k h ∙ sym (get_d_table n g 0 k h))

-- values v 0, v 1, .. within the widths, and one more on top of those that are joined
fit_snoc : {us xs : List ℕ} → Fit us xs → (w v : ℕ) → v < 2 ^ w → Fit (us ++ (w ∷ [])) (xs ++ (v ∷ []))
fit_snoc none w v h = more h none
fit_snoc (more k f) w v h = more k (fit_snoc f w v h)

pub fit_table : (n : ℕ) (f v : ℕ → ℕ) → ((k : ℕ) → k < n → v k < 2 ^ f k) → Fit (table n f) (table n v)
fit_table zero f v h = rw (table_none f, table_none v) none
fit_table (suc n) f v h =
    rw (table_more n f, table_more n v) (fit_snoc (fit_table n f v (λ k l. h k (omega arith))) (f n) (v n) (h n (le_refl (suc n))))

pub join_more : (n : ℕ) (f v : ℕ → ℕ) → ((k : ℕ) → k < n → v k < 2 ^ f k)
    → join (table (suc n) f) (table (suc n) v) ≡ v n * 2 ^ total (table n f) + join (table n f) (table n v)
join_more n f v h =
    ap₂ join (table_more n f) (table_more n v) ∙ join_append (fit_table n f v h) (f n ∷ []) (v n ∷ [])
    ∙ ap (λ (x : ℕ). x * 2 ^ total (table n f) + join (table n f) (table n v)) (rw (zero-mul, zero-add))
