-- A loop that makes sixteen pixels in order: after i turns the first i are f 0, .., f (i - 1).
-- Assumes nothing.
use mathlib.Core.Path.{◌≡◌}
use mathlib.Core.List.{List, []}
use Prim.Native.Nat.{ℕ, ◌+◌, ◌*◌, ◌≤◌, ◌<◌}
use native.Mathlib.Omega.{arith}
use lib.ListN.{length, set}
use Rattle.laws.specs.Tables.{table}
use Rattle.laws.proofs.Filled.{Filled, filled_all, filled_next, filled_none, filled_two}

pub record Made (f : ℕ → List ℕ) (i : ℕ) (output : List (List ℕ)) : Type 0 where
  pub within : i ≤ 16
  pub filled : Filled 16 [] f i output

module _ {f : ℕ → List ℕ} {output : List (List ℕ)} where
  pub made_none : length output ≡ 16 → Made f 0 output
  made_none e = record { within = omega arith; filled = filled_none e }

  pub made_next : {i : ℕ} {pixel : List ℕ} → Made f i output → i < 16 → pixel ≡ f i → Made f (i + 1) (set output i pixel)
  made_next {i} h l e = record { within = omega arith; filled = filled_next i _ h.filled l e }

  -- two at a time
  pub made_two : {i : ℕ} {even odd : List ℕ} → Made f (2 * i) output → i < 8 → even ≡ f (2 * i) → odd ≡ f (2 * i + 1)
      → Made f (2 * (i + 1)) (set (set output (2 * i) even) (2 * i + 1) odd)
  made_two {i} h l e o = record { within = omega arith; filled = filled_two i h.filled (omega arith) e o }

  pub made_all : {i : ℕ} → Made f i output → 16 ≤ i → output ≡ table 16 f
  made_all h l = filled_all h.filled l
