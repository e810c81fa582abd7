-- Texts put one behind the other.
-- Assumes nothing.
use mathlib.Core.List.{List, ◌++◌}
use Prim.Native.Nat.{ℕ, ◌+◌, ◌≤◌}
use native.Mathlib.Omega.{arith}
use Rattle.laws.proofs.Padding.{written_then}
use Rattle.text.specs.Puts.{Puts}

module _ {k l : List ℕ} {g i a : ℕ} {xs : List ℕ} (v : Puts a k g xs l i) where
  pub puts_then : {m : List ℕ} {j b : ℕ} {ys : List ℕ} → Puts b l i ys m j → Puts (a + b) k g (xs ++ ys) m j
  puts_then w = record { text = written_then v.text w.text; within = omega arith }

  pub puts_within : (b : ℕ) → a ≤ b → Puts b k g xs l i
  puts_within b h = record { text = v.text; within = omega arith }
