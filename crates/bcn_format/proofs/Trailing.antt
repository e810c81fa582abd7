-- The machine's count of trailing zero bits is the format's.
-- Assumes nothing.
use mathlib.Core.Path.{◌≡◌, refl, ap, ◌∙◌}
use Prim.Native.Nat.{ℕ, zero, suc, ◌/◌, ◌%◌}
use lib.Count.{count_trailing_zeros, under}
use native.Mathlib.Omega.{arith}
use borrow.Author.Tests.{ne_eqb}
use lib.Dec.{eqb}
use Rattle.laws.specs.Tables.{pick}
use Rattle.bcn_format.specs.Block.{trailing}

by_bit : (b t : ℕ) → under b t ≡ pick (eqb b 0) (suc t) 0
by_bit zero t = refl
by_bit (suc b) t = rw (ne_eqb (suc b) 0 (λ z. let y : ⊥ = omega arith in y))

pub trailing_count : (k n : ℕ) → count_trailing_zeros k n ≡ trailing k n
unfolding count_trailing_zeros trailing
trailing_count zero n = refl
trailing_count (suc k) n = ap (under (n % 2)) (trailing_count k (n / 2)) ∙ by_bit (n % 2) (trailing k (n / 2))
