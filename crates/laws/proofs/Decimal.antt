-- The decimal digits of a number.
-- Assumes nothing.
use mathlib.Core.Path.{◌≡◌, refl, ◌∙◌, ap, sym, subst}
use mathlib.Core.Logic.{⊎_elim}
use mathlib.Core.List.{List, [], ◌∷◌, ◌++◌, append_assoc}
use Prim.Native.Nat.{ℕ, zero, suc, ◌+◌, ◌-◌, ◌*◌, ◌/◌, ◌%◌, ◌^◌, ◌<◌, ◌≤◌}
use native.Mathlib.Nat.{div-lt_iff_lt-mul, pow-suc}
use native.Mathlib.Omega.{arith}
use borrow.Author.Tests.{lt-ltb, le-ltb}
use Rattle.laws.proofs.Cases.{lt_or}
use Rattle.laws.specs.Text.{decimal, digits_in, last_four}

digits_last : (k n : ℕ) → n < 10 → digits_in (suc k) n ≡ (48 + n % 10) ∷ []
unfolding digits_in
digits_last k n h = rw (lt-ltb n 10 h)

digits_more : (k n : ℕ) → 10 ≤ n → digits_in (suc k) n ≡ digits_in k (n / 10) ++ ((48 + n % 10) ∷ [])
unfolding digits_in
digits_more k n h = rw (le-ltb n 10 h)

tenth : (k n : ℕ) → n < 10 ^ suc k → n / 10 < 10 ^ k
tenth k n h = (div-lt_iff_lt-mul {k = 10} {x = n} {y = 10 ^ k} (omega arith)).1 (subst (λ (m : ℕ). n < m) (pow-suc 10 k) h)

-- a place more than are needed changes nothing
enough : (k n : ℕ) → n < 10 ^ suc k → digits_in (suc (suc k)) n ≡ digits_in (suc k) n
enough zero n h = digits_last 1 n h ∙ sym (digits_last 0 n h)
enough (suc k) n h =
    ⊎_elim (λ l. digits_last (suc (suc k)) n l ∙ sym (digits_last (suc k) n l))
    (λ l. digits_more (suc (suc k)) n l ∙ ap (λ (ds : List ℕ). ds ++ ((48 + n % 10) ∷ [])) (enough k (n / 10) (tenth (suc k) n h))
    ∙ sym (digits_more (suc k) n l))
    (lt_or n 10)

pub one_digit : (n : ℕ) → n < 10 → decimal n ≡ (48 + n % 10) ∷ []
unfolding decimal
one_digit n h = digits_last 9 n h

-- the digits of the tenth part, and the last one
more_digits : (n : ℕ) → 10 ≤ n → n < 10000000000 → {ds : List ℕ} → decimal (n / 10) ≡ ds → decimal n ≡ ds ++ ((48 + n % 10) ∷ [])
unfolding decimal
more_digits n h l e = digits_more 9 n h ∙ ap (λ (ds : List ℕ). ds ++ ((48 + n % 10) ∷ [])) (sym (enough 8 (n / 10) (tenth 9 n l)) ∙ e)

pub two_digits : (n : ℕ) → 10 ≤ n → n < 100 → decimal n ≡ (48 + n / 10 % 10) ∷ (48 + n % 10) ∷ []
two_digits n h l = more_digits n h (omega arith) (one_digit (n / 10) (omega arith))

pub three_digits : (n : ℕ) → 100 ≤ n → n < 1000 → decimal n ≡ (48 + n / 100 % 10) ∷ (48 + n / 10 % 10) ∷ (48 + n % 10) ∷ []
three_digits n h l =
    let hundreds : n / 10 / 10 ≡ n / 100 = omega arith in
    rw (← hundreds) (more_digits n (omega arith) (omega arith) (two_digits (n / 10) (omega arith) (omega arith)))

pub four_digits : (n : ℕ) → 1000 ≤ n → n < 10000 → decimal n ≡ last_four n
four_digits n h l =
    let hundreds : n / 10 / 10 ≡ n / 100 = omega arith in
    let thousands : n / 10 / 100 ≡ n / 1000 = omega arith in
    rw (← hundreds, ← thousands) (more_digits n (omega arith) (omega arith) (three_digits (n / 10) (omega arith) (omega arith)))

-- the last four digits, and those of what stands above them
pub four_more : (n : ℕ) → 10000 ≤ n → n < 10000000000 → decimal n ≡ decimal (n / 10000) ++ last_four n
four_more n h l =
    let hundreds : n / 10 / 10 ≡ n / 100 = omega arith in
    let thousands : n / 100 / 10 ≡ n / 1000 = omega arith in
    let above : n / 1000 / 10 ≡ n / 10000 = omega arith in
    let tens = more_digits (n / 1000) (omega arith) (omega arith) (ap decimal above) in
    let one = more_digits (n / 100) (omega arith) (omega arith) (ap decimal thousands ∙ tens) in
    more_digits n (omega arith) (omega arith) (more_digits (n / 10) (omega arith) (omega arith) (ap decimal hundreds ∙ one)) ∙ simp append_assoc

-- read as a decimal number, the digits are the number again
abbrev pub value_of : ℕ → List ℕ → ℕ
value_of v [] = v
value_of v (d ∷ ds) = value_of (v * 10 + (d - 48)) ds

value_append : (v : ℕ) (xs ys : List ℕ) → value_of v (xs ++ ys) ≡ value_of (value_of v xs) ys
value_append v [] ys = refl
value_append v (x ∷ xs) ys = value_append (v * 10 + (x - 48)) xs ys

digits_value : (k n : ℕ) → n < 10 ^ suc k → value_of 0 (digits_in (suc k) n) ≡ n
digits_value zero n h = rw (digits_last 0 n h) (omega arith)
digits_value (suc k) n h =
    ⊎_elim (λ l. rw (digits_last (suc k) n l) (omega arith))
    (λ l. rw (digits_more (suc k) n l, value_append 0 (digits_in (suc k) (n / 10))) (omega (arith, digits_value k (n / 10) (tenth (suc k) n h))))
    (lt_or n 10)

pub decimal_reads_back : (n : ℕ) → n < 10000000000 → value_of 0 (decimal n) ≡ n
unfolding decimal
decimal_reads_back n h = digits_value 9 n h
