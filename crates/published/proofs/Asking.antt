-- What the readers and the indexes ask always holds, for the widths and anchors that there are.
-- Assumes nothing.
use mathlib.Core.Bool.{Bool, true, false}
use mathlib.Core.List.{[], ◌∷◌}
use Prim.Native.Nat.{ℕ, ◌*◌, ◌≤◌, ◌<◌}
use native.Mathlib.Omega.{arith}
use lib.Dec.{T, eqb}
use Rattle.laws.specs.Tables.{pick}
use Rattle.bcn_format.specs.Partitions.{among}
use Rattle.bcn_format.proofs.Expanding.{times_width}
use Rattle.published.specs.Asserts.{ConsumeBits, DecompressSingleIndex, ExtractPartitionSetId, GetEndPoints2, GetEndPoints4, GetEndPoints6}
use Rattle.published.specs.Asserts.{GetIndex, NewP1, NewP2, NewP3}

pub reads : (k : ℕ) → 0 < k → k ≤ 8 → ConsumeBits k
reads k h l = (h, l, omega arith, omega arith)

-- indexes of b bits
module _ (b : ℕ) (hb : 0 < b) (most : b ≤ 4) where
  at_anchor : (i : ℕ) → i < 16 → DecompressSingleIndex b i
  at_anchor i hi = let z : i * b ≤ 15 * b = times_width b i 15 (omega arith) in (omega arith, omega arith, omega arith)

  pub one_asks : NewP1 b
  one_asks = (omega arith, omega arith, (omega arith, omega arith, omega arith), most, at_anchor 0 (omega arith))

  pub two_ask : (p : ℕ) → 0 < p → p < 16 → NewP2 b p
  two_ask p h0 hp = (omega arith, omega arith, (omega arith, omega arith, omega arith), most, h0, at_anchor 0 (omega arith), at_anchor p hp)

  pub three_ask : (p q : ℕ) → 0 < p → p < q → q < 16 → NewP3 b p q
  three_ask p q h0 hp hq =
      let first = at_anchor 0 (omega arith) in
      (omega arith, omega arith, (omega arith, omega arith, omega arith), most, h0, hp, first, at_anchor p (omega arith), at_anchor q hq)

  pub index_asks : (q : ℕ) → q < 16 → GetIndex b q
  index_asks q hq = let z : q * b ≤ 15 * b = times_width b q 15 (omega arith) in (hq, omega arith, omega arith)

-- the known modes, and what they read
pub id_asks : (m : ℕ) → T (among m (0 ∷ 1 ∷ 2 ∷ 3 ∷ 7 ∷ [])) → ExtractPartitionSetId m
id_asks m t = (t, go (eqb m 0))
  where
    go : (z : Bool) → ConsumeBits (pick z 4 6)
    go true = reads 4 (omega arith) (omega arith)
    go false = reads 6 (omega arith) (omega arith)

module _ (m : ℕ) where
  pub ends_2_ask : T (among m (4 ∷ 5 ∷ 6 ∷ [])) → GetEndPoints2 m
  ends_2_ask t = (
    t,
    reads 5 (omega arith) (omega arith),
    reads 6 (omega arith) (omega arith),
    reads 7 (omega arith) (omega arith),
    reads 8 (omega arith) (omega arith),
    (omega arith, omega arith),
    (omega arith, omega arith),
    (omega arith, omega arith),
  )

  pub ends_4_ask : T (among m (1 ∷ 3 ∷ 7 ∷ [])) → GetEndPoints4 m
  ends_4_ask t = (
    t,
    reads 5 (omega arith) (omega arith),
    reads 6 (omega arith) (omega arith),
    reads 7 (omega arith) (omega arith),
    (omega arith, omega arith),
    (omega arith, omega arith),
    λ i h. omega arith,
  )

  pub ends_6_ask : T (among m (0 ∷ 2 ∷ [])) → GetEndPoints6 m
  ends_6_ask t = (t, reads 4 (omega arith) (omega arith), reads 5 (omega arith) (omega arith), (omega arith, omega arith))
