-- What code goes by: the places of a line read with no test of whose they are.
-- Assumes nothing.
use mathlib.Core.Path.{◌≡◌, refl, sym}
use mathlib.Core.Logic.{◌≢◌}
use mathlib.Core.Bool.{true}
use Prim.Native.Nat.{ℕ, ◌<◌}
use borrow.Author.Tests.{eqb-false, not-true}
use Rattle.bc7_format.specs.declared.Place.{Place}
use Rattle.bc7_format.specs.declared.Split.{Split}
use Rattle.bc7_format.specs.Lines.{Line, has, index_place, is_drawn, line_at, line_of, means_stored, own, p_place, rotated, shown, value_place}
use Rattle.bc7_format.specs.Modes.{channel_bits, lines, p_count}
use Rattle.bc7_format.specs.Splits.{rotation}
use Rattle.bc7_format.specs.WellFormed.{WellFormed}
use Rattle.bc7_format.proofs.Meaning.{good_rotation, has_index, has_p, has_value, means_ext, rotated_lt}
use Rattle.bc7_format.proofs.Subsets.{line_below}

-- the line as it is read straight from its places
unfoldable pub plain_line : ℕ → Split → ℕ → (Place → ℕ) → Line
plain_line m s l f = record {
  value = λ k c. f (value_place s l k c);
  p = λ k. f (p_place m l k);
  index = λ q. f (index_place s l q);
}

own_is : (m : ℕ) (s : Split) (l : ℕ) (f : Place → ℕ) (x : Place) → has m s l x ≡ true → own m s l f x ≡ f x
unfolding own
own_is m s l f x h = rw h

-- a decoder reads the places of the line that draws, and nothing else
pub shown_direct : {m : ℕ} {s : Split} {f : Place → ℕ} → WellFormed m s f → (q c : ℕ) → q < 16 → c < 4 → is_drawn m (rotated (rotation s) c) ≡ true
    → let d = rotated (rotation s) c in
    let l = line_at s q d in
    shown m s f q c ≡ means_stored m s l (plain_line m s l f) q d
unfolding shown line_of plain_line line_at
shown_direct {m} {s} {f} g q c hq hc dr = rw dr (means_ext m s l _ _ q d values ps ix)
  where
    d : ℕ
    d = rotated (rotation s) c

    l : ℕ
    l = line_at s q d

    hl : l < lines m
    hl = line_below g q d hq

    values : (k : ℕ) → k < 2 → own m s l f (value_place s l k d) ≡ f (value_place s l k d)
    values k hk =
        own_is m s l f _ (has_value g l hl k d hk (rotated_lt (rotation s) c (good_rotation g) hc) (eqb-false (channel_bits m d) 0 (not-true _ dr))
        (λ v. sym (rw v refl)))

    ps : p_count m ≢ 0 → (k : ℕ) → k < 2 → own m s l f (p_place m l k) ≡ f (p_place m l k)
    ps n k hk = own_is m s l f _ (has_p g l hl k hk n)

    ix : own m s l f (index_place s l q) ≡ f (index_place s l q)
    ix = own_is m s l f _ (has_index g l hl q hq (λ v. sym (rw v refl)))
