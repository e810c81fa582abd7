-- Bytes stored one after another, into zeros at first.
-- Assumes nothing.
use mathlib.Core.Path.{◌≡◌, refl, ◌∙◌, ap, ap₂, sym}
use mathlib.Core.List.{List, [], ◌∷◌, ◌++◌}
use Prim.Native.Nat.{ℕ, zero, suc, ◌+◌, ◌-◌, ◌<◌, ◌≤◌}
use native.Mathlib.Nat.{add_assoc, add-suc, add-zero, suc-add, sub-zero, zero-add, zero-sub}
use native.Mathlib.Numerals.{add-one, unary_clauses}
use native.Mathlib.Omega.{arith}
use lib.ListN.{length, drop, get_or, replicate, set, take, length-append, length-replicate}
use lib.Seq.{length-sets, length-take-le, sets, sets-eq, take-suc}
use Rattle.laws.specs.Padding.{Written, padded, stored}

-- values stored behind values
pub sets_append : {A : Type 0} (l : List A) (i : ℕ) (xs ys : List A) → sets (sets l i xs) (i + length xs) ys ≡ sets l i (xs ++ ys)
sets_append l i [] ys = rw add-zero
sets_append l i (x ∷ xs) ys = rw (add-suc i (length xs), ← suc-add i (length xs)) (sets_append _ (suc i) xs ys)

-- the first values of a list, one more
pub sets_next : {A : Type 0} (l : List A) (at : ℕ) (xs : List A) (d : A) (i : ℕ) {m : List A} → m ≡ sets l at (take i xs) → i < length xs
    → set m (at + i) (get_or xs i d) ≡ sets l at (take (i + 1) xs)
sets_next {A} l at xs d i e h =
    ap₂ (λ (m : List A) (j : ℕ). set m (at + j) (get_or xs i d)) e (sym (length-take-le i xs (omega arith)))
    ∙ sets_append l at (take i xs) (get_or xs i d ∷ [])
    ∙ ap (sets l at) (sym (take-suc xs i d h) ∙ ap (λ (j : ℕ). take j xs) (sym (add-one i)))

-- bytes behind bytes
pub stored_append : (p : List ℕ × ℕ) (xs ys : List ℕ) → stored (stored p xs) ys ≡ stored p (xs ++ ys)
stored_append p xs ys =
    ap₂ (λ (l : List ℕ) (n : ℕ). (l, n)) (sets_append p.0 p.1 xs ys)
    (add_assoc p.1 (length xs) (length ys) ∙ ap (λ (n : ℕ). p.1 + n) (sym (length-append xs ys)))

drop_zeros : (k n : ℕ) → drop k (replicate {A = ℕ} n 0) ≡ replicate (n - k) 0
drop_zeros zero n = rw sub-zero
drop_zeros (suc k) zero = rw zero-sub
drop_zeros (suc k) (suc n) = simp unary_clauses (drop_zeros k n)

-- bytes stored into zeros
pub stored_zeros : (n : ℕ) (bs : List ℕ) → length bs ≤ n → stored (replicate n 0, 0) bs ≡ (padded n bs, length bs)
unfolding padded
stored_zeros n bs h =
    ap₂ (λ (l : List ℕ) (k : ℕ). (l, k))
    (sets-eq bs (replicate n 0) 0 (rw (zero-add, length-replicate {A = ℕ} n 0) h)
    ∙ ap (λ (t : List ℕ). bs ++ t) (ap (λ (k : ℕ). drop k (replicate {A = ℕ} n 0)) (zero-add (length bs)) ∙ drop_zeros (length bs) n))
    (zero-add (length bs))

-- nothing written, and bytes written behind bytes
pub written_none : {l : List ℕ} {i : ℕ} → Written l i [] l i
written_none {l} {i} = record { bytes = refl; ends = sym (add-zero i) }

pub written_then : {k l m : List ℕ} {g i j : ℕ} {xs ys : List ℕ} → Written k g xs l i → Written l i ys m j → Written k g (xs ++ ys) m j
written_then {k} {l} {m} {g} {i} {j} {xs} {ys} v w =
    let first : (l, i) ≡ stored (k, g) xs = ap₂ (λ (l : List ℕ) (n : ℕ). (l, n)) v.bytes v.ends in
    let second : (m, j) ≡ stored (l, i) ys = ap₂ (λ (l : List ℕ) (n : ℕ). (l, n)) w.bytes w.ends in
    let both = second ∙ ap (λ (q : List ℕ × ℕ). stored q ys) first ∙ stored_append (k, g) xs ys in
    record { bytes = ap (λ (q : List ℕ × ℕ). q.0) both; ends = ap (λ (q : List ℕ × ℕ). q.1) both }

-- the list stays as long as it was
pub written_long : {k l : List ℕ} {g i : ℕ} {xs : List ℕ} → Written k g xs l i → length l ≡ length k
written_long {k} {l} {g} {i} {xs} w = ap length w.bytes ∙ length-sets k g xs
