-- A loop that fills a list of n elements from the first to the last: after i turns its first i elements are f 0, .., f (i - 1).
-- Assumes nothing.
use mathlib.Core.Path.{◌≡◌}
use mathlib.Core.List.{List}
use Prim.Native.Nat.{ℕ, ◌+◌, ◌*◌, ◌<◌, ◌≤◌}
use native.Mathlib.Nat.{not-suc-le-zero, lt_of_lt_of_le}
use native.Mathlib.Omega.{arith}
use lib.ListN.{length, set}
use Rattle.laws.specs.Tables.{table}
use Rattle.laws.proofs.Part.{Part, part_all, part_none, part_set}

abbrev pub Filled : {A : Type 0} → ℕ → A → (ℕ → A) → ℕ → List A → Type 0
Filled n d f i out = Part n d f (λ k. k < i) out

module _ {A : Type 0} {n : ℕ} {d : A} {f : ℕ → A} where
  pub filled_none : {out : List A} → length out ≡ n → Filled n d f 0 out
  filled_none e = part_none e (λ k h. not-suc-le-zero h)

  pub filled_next : {out : List A} (i : ℕ) (v : A) → Filled n d f i out → i < n → v ≡ f i → Filled n d f (i + 1) (set out i v)
  filled_next i v h l e = part_set i v h l e (λ k lk q ne. omega arith)

  -- two and four at a time
  pub filled_two : {out : List A} {a b : A} (i : ℕ) → Filled n d f (2 * i) out → 2 * i + 1 < n → a ≡ f (2 * i) → b ≡ f (2 * i + 1)
      → Filled n d f (2 * (i + 1)) (set (set out (2 * i) a) (2 * i + 1) b)
  filled_two i h l ea eb =
      let next : 2 * i + 1 + 1 ≡ 2 * (i + 1) = omega arith in
      rw next at (filled_next (2 * i + 1) _ (filled_next (2 * i) _ h (omega arith) ea) l eb)

  pub filled_four : {out : List A} {a b c e : A} (i : ℕ) → Filled n d f (4 * i) out → 4 * i + 3 < n
      → a ≡ f (4 * i) → b ≡ f (4 * i + 1) → c ≡ f (4 * i + 2) → e ≡ f (4 * i + 3)
      → Filled n d f (4 * (i + 1)) (set (set (set (set out (4 * i) a) (4 * i + 1) b) (4 * i + 2) c) (4 * i + 3) e)
  filled_four i h l ea eb ec ee =
      let at2 : 4 * i + 1 + 1 ≡ 4 * i + 2 = omega arith in
      let at3 : 4 * i + 2 + 1 ≡ 4 * i + 3 = omega arith in
      let next : 4 * i + 3 + 1 ≡ 4 * (i + 1) = omega arith in
      let two = rw at2 at (filled_next (4 * i + 1) _ (filled_next (4 * i) _ h (omega arith) ea) (omega arith) eb) in
      let three = rw at3 at (filled_next (4 * i + 2) _ two (omega arith) ec) in
      rw next at (filled_next (4 * i + 3) _ three l ee)

  pub filled_all : {out : List A} {i : ℕ} → Filled n d f i out → n ≤ i → out ≡ table n f
  filled_all h l = part_all h (λ k lk. lt_of_lt_of_le lk l)

-- the same where the places from m on stand already
abbrev pub Upto : {A : Type 0} → ℕ → A → (ℕ → A) → ℕ → ℕ → List A → Type 0
Upto n d f m j out = Part n d f (λ k. j ≤ k → m ≤ k) out

pub upto_next : {A : Type 0} {n m : ℕ} {d : A} {f : ℕ → A} {out : List A} (j : ℕ) (v : A) → Upto n d f m j out → j < n → v ≡ f j
    → Upto n d f m (j + 1) (set out j v)
upto_next j v h l e = part_set j v h l e (λ k lk q ne above. q (omega arith))
