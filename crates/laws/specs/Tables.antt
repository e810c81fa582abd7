-- A choice, a test at each number below a bound, a list by its elements, and a run of values laid over a list.
-- Assumes nothing.
use Rattle.std.specs.Prelude.{ℕ, zero, suc, ◌+◌, Bool, true, false, List, [], ◌∷◌, set}

abbrev pub pick : {A : Type 0} → Bool → A → A → A
pick true a b = a
pick false a b = b

abbrev pub both : Bool → Bool → Bool
both true b = b
both false b = false

unfoldable pub implies : Bool → Bool → Bool
implies true b = b
implies false b = true

-- the test passes at each number below n
abbrev pub below : ℕ → (ℕ → Bool) → Bool
below zero f = true
below (suc n) f = both (f n) (below n f)

unfoldable pub table_from : {A : Type 0} → ℕ → ℕ → (ℕ → A) → List A
table_from i zero f = []
table_from i (suc n) f = f i ∷ table_from (suc i) n f

-- f 0, f 1, .., f (n - 1)
unfoldable pub table : {A : Type 0} → ℕ → (ℕ → A) → List A
table n f = table_from 0 n f

-- l, whose n places from o on now hold f 0, f 1, .., f (n - 1)
unfoldable pub over : {A : Type 0} → List A → ℕ → ℕ → (ℕ → A) → List A
over l o zero f = l
over l o (suc n) f = set (over l o n f) (o + n) (f n)
