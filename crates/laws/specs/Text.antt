-- Words and numbers as text, in bytes, and the text of a refusal.
-- Assumes nothing.
use Rattle.std.specs.Prelude.{ℕ, zero, suc, ◌+◌, ◌/◌, ◌%◌, List, [], ◌∷◌, ◌++◌, ltb}
use Prim.Native.Char.{code}
use Prim.Native.String.{String, [] as empty, ◌∷◌ as ◌then◌}
use Rattle.laws.specs.Tables.{pick}

unfoldable pub ascii : String → List ℕ
ascii empty = []
ascii (c then s) = code c ∷ ascii s

abbrev pub space : ℕ
space = 32

abbrev pub newline : ℕ
newline = 10

-- the decimal digits of n, the high ones first, in at most k places (48 is the digit 0)
unfoldable pub digits_in : ℕ → ℕ → List ℕ
digits_in zero n = []
digits_in (suc k) n = pick (ltb n 10) [] (digits_in k (n / 10)) ++ ((48 + n % 10) ∷ [])

-- a number of 32 bits has at most ten
unfoldable pub decimal : ℕ → List ℕ
decimal n = digits_in 10 n

-- its last four, zeros in front too
abbrev pub last_four : ℕ → List ℕ
last_four n = (48 + n / 1000 % 10) ∷ (48 + n / 100 % 10) ∷ (48 + n / 10 % 10) ∷ (48 + n % 10) ∷ []

abbrev pub spaced : ℕ → List ℕ
spaced n = space ∷ decimal n

-- `refused` and the number
unfoldable pub refused_text : ℕ → List ℕ
refused_text n = ascii "refused" ++ spaced n ++ (newline ∷ [])
