-- A loop that tests each number below n, and leaves at the first that fails.
-- Assumes nothing.
use mathlib.Core.Path.{◌≡◌, refl, ap, ap₂, ◌∙◌, sym}
use mathlib.Core.Logic.{⊎_elim}
use mathlib.Core.Bool.{Bool, true, false}
use Prim.Native.Nat.{ℕ, zero, suc, ◌+◌, ◌<◌}
use native.Mathlib.Nat.{add-suc, add-zero, eq-or-lt_of_le, le_of_suc-le-suc, le_refl, lt_trans, not-suc-le-zero}
use native.Mathlib.Numerals.{add-one}
use Rattle.laws.specs.Tables.{below, both}
use Rattle.laws.proofs.Tests.{no_both}

pub scan_more : (f : ℕ → Bool) (i : ℕ) → below i f ≡ true → f i ≡ true → below (i + 1) f ≡ true
scan_more f i h e = rw (add-one, e, h)

both_false : (b : Bool) → both b false ≡ false
both_false true = refl
both_false false = refl

pub scan_fails : (n : ℕ) (f : ℕ → Bool) (i : ℕ) → i < n → f i ≡ false → below n f ≡ false
scan_fails zero f i h e = absurd (not-suc-le-zero h)
scan_fails (suc n) f i h e =
    ⊎_elim (λ q. ap (λ (b : Bool). both b (below n f)) (ap f (sym q) ∙ e))
    (λ l. ap (both (f n)) (scan_fails n f i l e) ∙ both_false (f n))
    (eq-or-lt_of_le (le_of_suc-le-suc h))

-- where not all pass, one fails
pub scan_found : (n : ℕ) (f : ℕ → Bool) → below n f ≡ false → (k : ℕ) × ((k < n) × (f k ≡ false))
scan_found zero f e = absurd (no_both refl e)
scan_found (suc n) f e = go (f n) refl e (scan_found n f)
  where
    go : (b : Bool) → f n ≡ b → both b (below n f) ≡ false → (below n f ≡ false → (k : ℕ) × ((k < n) × (f k ≡ false)))
        → (k : ℕ) × ((k < suc n) × (f k ≡ false))
    go true t e more = let (k, (h, x)) = more e in (k, (lt_trans h (le_refl (suc n)), x))
    go false t e more = (n, (le_refl (suc n), t))

pub scan_same : (n : ℕ) (f g : ℕ → Bool) → ((k : ℕ) → k < n → f k ≡ g k) → below n f ≡ below n g
scan_same zero f g h = refl
scan_same (suc n) f g h = ap₂ both (h n (le_refl (suc n))) (scan_same n f g (λ k l. h k (lt_trans l (le_refl (suc n)))))

-- n numbers, and m more
all_of : (a : Bool) → a ≡ both a true
all_of true = refl
all_of false = refl

first_of : (a b c : Bool) → both a (both b c) ≡ both b (both a c)
first_of true b c = refl
first_of false true c = refl
first_of false false c = refl

pub below_add : (n m : ℕ) (f : ℕ → Bool) → below (n + m) f ≡ both (below n f) (below m (λ k. f (n + k)))
below_add n zero f = rw (add-zero n) (all_of (below n f))
below_add n (suc m) f = rw (add-suc n m) (ap (both (f (n + m))) (below_add n m f) ∙ first_of (f (n + m)) (below n f) (below m (λ k. f (n + k))))
