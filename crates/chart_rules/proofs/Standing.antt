-- Where the places of a block stand: what the theorems on charts rest on.
-- Assumes nothing.
use mathlib.Core.Path.{◌≡◌, refl, ap, ◌∙◌}
use Prim.Native.Nat.{ℕ, zero, suc, ◌+◌, ◌-◌, ◌^◌, ◌<◌, ◌≤◌}
use native.Mathlib.Nat.{add-suc, add-zero, le_refl}
use native.Mathlib.Omega.{arith}
use lib.Seq.{take_all}
use Rattle.bc7_format.specs.declared.Split.{Split}
use Rattle.laws.specs.Digits.{total}
use Rattle.bc7_format.specs.Modes.{kind_of_mode, partition_bits}
use Rattle.bc7_format.specs.Places.{place_at, place_count, start, width, widths}
use Rattle.bc7_format.specs.Splits.{anchors, kind_of, partition}
use Rattle.bc7_format.proofs.Places.{length_widths}
use Rattle.bc7_format.proofs.Starts.{start_le, start_next}
use Rattle.bc7_format.proofs.Theorems.{widths_sum_to_128}

module _ (m : ℕ) (s : Split) where
  -- the width of the i-th place
  abbrev pub wide : ℕ → ℕ
  wide i = width m (anchors s) (place_at i)

  pub start_zero : start m s 0 ≡ 0
  unfolding start
  start_zero = refl

  -- places without bits move nothing
  moved : (i k : ℕ) → i + k ≤ place_count → ((j : ℕ) → i ≤ j → j < i + k → wide j ≡ 0) → start m s (i + k) ≡ start m s i
  moved i zero h z = ap (start m s) (add-zero i)
  moved i (suc k) h z =
      let before : start m s (i + k) ≡ start m s i = moved i k (omega arith) (λ j l u. z j l (omega arith)) in
      let none : wide (i + k) ≡ 0 = z (i + k) (omega arith) (omega arith) in
      let next : start m s (suc (i + k)) ≡ start m s (i + k) + wide (i + k) = start_next m s (i + k) (omega arith) in
      ap (start m s) (add-suc i k) ∙ (let e : start m s (suc (i + k)) ≡ start m s i = omega arith in e)

  pub nothing_between : (i j : ℕ) → i ≤ j → j ≤ place_count → ((k : ℕ) → i ≤ k → k < j → wide k ≡ 0) → start m s j ≡ start m s i
  nothing_between i j l h z =
      let e : j ≡ i + (j - i) = omega arith in
      ap (start m s) e ∙ moved i (j - i) (omega arith) (λ k a b. z k a (omega arith))

  -- behind the last place all 128 bits are passed
  module _ (low : m < 8) (kind : kind_of s ≡ kind_of_mode m) (few : partition s < 2 ^ partition_bits m) where
    pub all_passed : start m s place_count ≡ 128
    unfolding start
    all_passed =
        let l = length_widths m s in
        ap total (take_all place_count (widths m s) (omega arith)) ∙ widths_sum_to_128 m s low kind few

    pub start_low : (i : ℕ) → i ≤ place_count → start m s i ≤ 128
    start_low i h = omega (arith, start_le m s i place_count h (le_refl place_count), all_passed)
