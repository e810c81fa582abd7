-- A set of indexes read, replaced in part and stored.
-- Assumes nothing.
use mathlib.Core.Path.{◌≡◌, ap}
use mathlib.Core.List.{[]}
use Prim.Native.Nat.{ℕ, zero, suc, ◌+◌, ◌-◌, ◌*◌, ◌^◌, ◌<◌, ◌≤◌}
use native.Mathlib.Nat.{lt_of_lt_of_le}
use native.Mathlib.Omega.{arith}
use lib.Bits.{bit_and}
use lib.Pow.{pow_mono}
use Rattle.bits.specs.declared.stream.BitStream.{BitStream}
use Rattle.indexes.specs.declared.NewIndexes.{NewIndexes}
use Rattle.bc7_places.specs.declared.lines.LinePart.{LinePart}
use Rattle.laws.specs.Digits.{join, split}
use Rattle.laws.proofs.Digits.{join_lt}
use Rattle.bits.specs.Stream.{held}
use Rattle.bcn_format.specs.Indexes.{anchor_count, index_widths}
use Rattle.indexes.specs.Reading.{new_indexes}
use Rattle.indexes.proofs.Reading.{got_indexes}
use Rattle.indexes.proofs.Remove.{size_with}
use Rattle.line.specs.Fields.{SetReady, anchors_in, set_after, set_before, size_in, standing}

module _ (s : BitStream) (k a : ℕ) (x : LinePart) (mask new : ℕ) where
  pub before_is : {q : BitStream} {r : NewIndexes} → q ≡ standing s a
      → r ≡ new_indexes x.index (anchors_in k x) q (size_in k x) → r.indexes.uncompressed ≡ set_before (held s) k a x
  unfolding set_before held
  before_is eq er =
      got_indexes (record { of = ap held eq; stands = ap (λ (t : BitStream). t.at) eq }) x.index (anchors_in k x) (size_in k x) er

  module _ {b : ℕ} (e : b ≡ set_before (held s) k a x) (r : SetReady (held s) k a x mask new) where
    pub after_is : b - bit_and b mask + new ≡ set_after (held s) k a x mask new
    after_is = rw e

    pub after_fits : b - bit_and b mask + new < 2 ^ 64
    after_fits = rw after_is (lt_of_lt_of_le r.small (pow_mono {i = 16 * x.index} {j = 64} (omega (arith, r.width.most))))

  pub stored_lt : {v t : ℕ} → SetReady (held s) k a x mask new → t ≡ size_in k x
      → v ≡ join (index_widths x.index (anchors_in k x)) (split (index_widths x.index []) (set_after (held s) k a x mask new)) → v < 2 ^ t
  stored_lt r et ev = rw (ev, et, ← (size_with k x.index x.anchors.b x.anchors.c r.width.least r.rising)) (join_lt r.fits)

pub size_lt : (k w : ℕ) → 0 < w → w ≤ 4 → 16 * w - anchor_count k < 64
size_lt zero w h l = omega arith
size_lt (suc zero) w h l = omega arith
size_lt (suc (suc zero)) w h l = omega arith
size_lt (suc (suc (suc k))) w h l = omega arith
