-- A number as a row of digits of any widths in bits, the lowest first. A width may be 0.
-- Assumes nothing.
use Rattle.std.specs.Prelude.{List, [], ◌∷◌, ℕ, ◌+◌, ◌*◌, ◌/◌, ◌%◌, ◌^◌, ◌<◌}
use Rattle.laws.specs.Tables.{table}

-- how many bits the widths have together
abbrev pub total : List ℕ → ℕ
total [] = 0
total (w ∷ ws) = total ws + w

-- the digits of n at these widths
abbrev pub split : List ℕ → ℕ → List ℕ
split [] n = []
split (w ∷ ws) n = n % 2 ^ w ∷ split ws (n / 2 ^ w)

-- the number whose digits these are
abbrev pub join : List ℕ → List ℕ → ℕ
join [] vs = 0
join (w ∷ ws) [] = 0
join (w ∷ ws) (v ∷ vs) = join ws vs * 2 ^ w + v

-- the number whose digits are f 0, f 1, .., f (n - 1), in k bits each
unfoldable pub evenly : ℕ → ℕ → (ℕ → ℕ) → ℕ
evenly n k f = join (table n (λ i. k)) (table n f)

-- as many values as widths, each within its width
pub data Fit : List ℕ → List ℕ → Type 0 where
  none : Fit [] []
  more : {w v : ℕ} {ws vs : List ℕ} → v < 2 ^ w → Fit ws vs → Fit (w ∷ ws) (v ∷ vs)

-- a zero put in at bit p of a number, and the bit taken out
unfoldable pub inserted : ℕ → ℕ → ℕ
inserted n p = n / 2 ^ p * 2 ^ (p + 1) + n % 2 ^ p

unfoldable pub removed : ℕ → ℕ → ℕ
removed n p = n / 2 ^ (p + 1) * 2 ^ p + n % 2 ^ p

-- v in the place of the c bits of n at position a
unfoldable pub replaced_at : ℕ → ℕ → ℕ → ℕ → ℕ
replaced_at n a c v = n / 2 ^ (a + c) * 2 ^ (a + c) + (v * 2 ^ a + n % 2 ^ a)
