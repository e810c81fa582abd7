-- A block's bytes, copied and stored.
-- Assumes nothing.
use mathlib.Core.Path.{◌≡◌, ◌∙◌, ap, sym}
use mathlib.Core.List.{List, ◌++◌}
use Prim.Native.Nat.{ℕ, ◌+◌, ◌-◌, ◌≤◌}
use native.Mathlib.Omega.{arith}
use lib.ListN.{length, take, drop}
use lib.Seq.{drop-drop, take_all}
use Rattle.laws.proofs.Over.{over_spliced}
use Rattle.bcn_format.specs.Block.{block_at, put_block}

-- sixteen bytes from a place on
pub loaded : (s : List ℕ) (at : ℕ) → take (at + 16 - at) (drop at s) ≡ block_at s at
unfolding block_at
loaded s at = let e : at + 16 - at ≡ 16 = omega arith in rw e

-- sixteen bytes laid over as many
pub stored : (s : List ℕ) (at : ℕ) (block : List ℕ) → at + 16 ≤ length s → length block ≡ 16
    → take at s ++ (block ++ drop (at + 16 - at) (drop at s)) ≡ put_block s at block
unfolding put_block
stored s at block h long =
    let e : at + 16 - at ≡ 16 = omega arith in
    rw (e, drop-drop 16 at s)
    (ap (λ (w : List ℕ). take at s ++ (w ++ drop (at + 16) s)) (sym (take_all 16 block (omega arith)))
    ∙ sym (over_spliced s block at 16 0 h (omega arith)))
