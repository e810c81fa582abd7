-- WHAT IS PROVED OF WHAT BLOCK FORMATS SHARE, in one place.
-- Assumes nothing.
use mathlib.Core.Path.{◌≡◌, refl}
use mathlib.Core.List.{List, map}
use Prim.Native.Nat.{ℕ, zero, suc, ◌+◌, ◌-◌, ◌*◌, ◌/◌, ◌^◌, ◌<◌, ◌≤◌}
use native.Mathlib.Omega.{arith}
use lib.Dec.{T, eqb, eqb→eq}
use lib.ListN.{get_or-map}
use Rattle.laws.specs.Digits.{Fit, join, split, total}
use Rattle.laws.specs.Tables.{below, both}
use Rattle.laws.proofs.Digits.{join_split, split_join}
use Rattle.laws.proofs.Tests.{at, both_left, both_right}
use Rattle.bcn_format.specs.Drawing.{drawn, weight_of, weights}
use Rattle.bcn_format.proofs.Drawing.{weight_of256, weights256, opposite, scaled, weight_le}
use Rattle.bcn_format.specs.Partitions.{OneAnchor, anchors2, anchors3, digits, strings2, strings3, subset2, subset3}
use Rattle.bcn_format.proofs.Anchors.{one_anchor2, one_anchor3}

-- every subset of every partition holds exactly one anchor
pub one_anchor_in_every_subset : ((a k : ℕ) → a < 64 → k < 2 → OneAnchor (anchors2 a) (subset2 a) k)
    × ((a k : ℕ) → a < 64 → k < 3 → OneAnchor (anchors3 a) (subset3 a) k)
one_anchor_in_every_subset = (one_anchor2, one_anchor3)

zeros : T (below 64 (λ a. both (eqb (subset2 a 0) 0) (eqb (subset3 a 0) 0)))
unfolding digits strings2 strings3 subset2 subset3
zeros = tt

-- and that of subset 0 is pixel 0, which is always an anchor
pub pixel_0_in_subset_0 : (a : ℕ) → a < 64 → (subset2 a 0 ≡ 0) × (subset3 a 0 ≡ 0)
pixel_0_in_subset_0 a h =
    let t = at 64 (λ a. both (eqb (subset2 a 0) 0) (eqb (subset3 a 0) 0)) zeros a h in
    (eqb→eq _ 0 (both_left (eqb (subset2 a 0) 0) _ t), eqb→eq _ 0 (both_right (eqb (subset2 a 0) 0) _ t))

-- the Rust's weights are four times the format's
pub weights_are_four_times : (b : ℕ) → weights256 b ≡ map (λ (w : ℕ). 4 * w) (weights b)
unfolding weights weights256
weights_are_four_times zero = refl
weights_are_four_times (suc zero) = refl
weights_are_four_times (suc (suc zero)) = refl
weights_are_four_times (suc (suc (suc zero))) = refl
weights_are_four_times (suc (suc (suc (suc b)))) = refl

pub weight_is_four_times : (b i : ℕ) → weight_of256 b i ≡ 4 * weight_of b i
unfolding weight_of weight_of256
weight_is_four_times b i = rw (weights_are_four_times b) (get_or-map (λ (w : ℕ). 4 * w) (weights b) i 0)

-- a number is what its digits join to, and digits are what their number splits into, at any list of widths
pub number_of_its_digits : (ws : List ℕ) (n : ℕ) → n < 2 ^ total ws → join ws (split ws n) ≡ n
number_of_its_digits = join_split

pub digits_of_their_number : (ws vs : List ℕ) → Fit ws vs → split ws (join ws vs) ≡ vs
digits_of_their_number ws vs f = split_join f

-- of the widths that an index has: 2, 3 and 4
module _ (b i : ℕ) (least : 2 ≤ b) (most : b ≤ 4) (h : i < 2 ^ b) where
  -- and draw the format's channel
  pub drawn_by_256 : (e0 e1 : ℕ) → ((256 - weight_of256 b i) * e0 + weight_of256 b i * e1 + 128) / 256 ≡ drawn e0 e1 (weight_of b i)
  drawn_by_256 e0 e1 = rw (weight_is_four_times b i) (scaled (weight_of b i) e0 e1 (weight_le b i least most h))

  -- the weights of i and of last - i sum to the whole
  pub weights_are_symmetric : (weight_of b i + weight_of b ((2 ^ b - 1) - i) ≡ 64) × (weight_of256 b i + weight_of256 b ((2 ^ b - 1) - i) ≡ 256)
  weights_are_symmetric =
      let e = opposite b i least most h in
      (e, omega (arith, weight_is_four_times b i, weight_is_four_times b ((2 ^ b - 1) - i), e))
