-- Numbers in groups of seven bits, low group first, the high bit set on all but the last byte; the shortest form only, at most
-- three groups.
-- Assumes nothing.
use Rattle.std.specs.Prelude.{ℕ, zero, suc, ◌+◌, ◌*◌, ◌/◌, ◌%◌, ◌<◌, List, [], ◌∷◌, eqb, ltb, get_or, drop}
use Rattle.head_rules.specs.Answers.{Number}
use Rattle.laws.specs.Tables.{pick}

abbrev pub Bytes : List ℕ → Type 0
Bytes bs = (i : ℕ) → get_or bs i 0 < 256

-- the bytes of n, in at most k groups
unfoldable pub groups : ℕ → ℕ → List ℕ
groups zero n = []
groups (suc k) n = pick (ltb n 128) (n ∷ []) ((n % 128 + 128) ∷ groups k (n / 128))

abbrev pub found : ℕ → ℕ → Number
found value next = record { refusal = 0; value = value; next = next }

abbrev pub no_number : Number
no_number = record { refusal = 7; value = 0; next = 0 }

-- a number above the low group that the byte b holds: 0 stands there where no number could be read, and where its only group is
-- empty, so that the form is not the shortest
unfoldable pub raised : ℕ → Number → Number
raised b r = pick (eqb r.value 0) no_number (found (r.value * 128 + b % 128) r.next)

-- the number that the bytes start with, in at most k groups; the first byte stands at a place
unfoldable pub read_groups : ℕ → ℕ → List ℕ → Number
read_groups zero at bs = no_number
read_groups (suc k) at [] = no_number
read_groups (suc k) at (b ∷ bs) = pick (ltb b 128) (found b (at + 1)) (raised b (read_groups k (at + 1) bs))

abbrev pub number_bytes : ℕ → List ℕ
number_bytes n = groups 3 n

-- the first number that three groups don't hold
abbrev pub numbers_end : ℕ
numbers_end = 2097152

unfoldable pub read_number : List ℕ → ℕ → Number
read_number s at = read_groups 3 at (drop at s)
