-- The subset of a pixel is below the number of subsets: one computed test over each whole table.
-- Assumes nothing.
use Prim.Native.Nat.{ℕ, ◌<◌}
use lib.Dec.{T, ltb, ltb→lt}
use Rattle.laws.specs.Tables.{below}
use Rattle.laws.proofs.Tests.{at}
use Rattle.bcn_format.specs.Partitions.{digits, strings2, strings3, subset2, subset3}

two_below : T (below 64 (λ a. below 16 (λ q. ltb (subset2 a q) 2)))
unfolding digits strings2 subset2
two_below = tt

three_below : T (below 64 (λ a. below 16 (λ q. ltb (subset3 a q) 3)))
unfolding digits strings3 subset3
three_below = tt

pub subset2_lt : (a q : ℕ) → a < 64 → q < 16 → subset2 a q < 2
subset2_lt a q ha hq =
    ltb→lt (subset2 a q) 2 (at 16 (λ q. ltb (subset2 a q) 2) (at 64 (λ a. below 16 (λ q. ltb (subset2 a q) 2)) two_below a ha) q hq)

pub subset3_lt : (a q : ℕ) → a < 64 → q < 16 → subset3 a q < 3
subset3_lt a q ha hq =
    ltb→lt (subset3 a q) 3 (at 16 (λ q. ltb (subset3 a q) 3) (at 64 (λ a. below 16 (λ q. ltb (subset3 a q) 3)) three_below a ha) q hq)
