-- WHAT IS PROVED OF THE FORMAT, in one place.
-- Assumes nothing.
use mathlib.Core.Path.{◌≡◌}
use mathlib.Core.List.{List}
use Prim.Native.Nat.{ℕ, ◌^◌, ◌<◌}
use lib.ListN.{get_or, replicate}
use Rattle.bc7_format.specs.declared.Place.{Place}
use Rattle.bc7_format.specs.declared.Split.{Split}
use Rattle.laws.specs.Digits.{total}
use Rattle.bc7_format.specs.Lines.{Line, line_bits, means_stored, pixels, turned}
use Rattle.bc7_format.specs.Modes.{kind_of_mode, partition_bits}
use Rattle.bc7_format.specs.Places.{widths}
use Rattle.bc7_format.specs.Splits.{kind_of, partition}
use Rattle.bc7_format.specs.WellFormed.{WellFormed}
use Rattle.bc7_format.proofs.Meaning.{line_bits_is, turned_means}
use Rattle.bc7_format.proofs.Places.{total_128}
use Rattle.bc7_format.proofs.Reserved.{nothing_shown, reserved_mode}

-- every block has 128 bits, whatever its mode and its partition
pub widths_sum_to_128 : (m : ℕ) (s : Split) → m < 8 → kind_of s ≡ kind_of_mode m → partition s < 2 ^ partition_bits m → total (widths m s) ≡ 128
widths_sum_to_128 = total_128

-- a reserved block, one whose first byte is zero, shows sixteen pixels 0 0 0 0
pub reserved_shows_nothing : (bs : List ℕ) → get_or bs 0 0 ≡ 0 → pixels bs ≡ replicate 16 (replicate 4 0)
reserved_shows_nothing bs e = nothing_shown bs (reserved_mode bs e)

-- a line turned round, its endpoints and p bits exchanged and each index i made last - i, draws the same
pub line_turned_draws_the_same : {m : ℕ} {s : Split} {f : Place → ℕ} → WellFormed m s f → (l : ℕ) (ln : Line) (q c : ℕ)
    → ln.index q < 2 ^ line_bits m s l
    → means_stored m s l (turned (line_bits m s l) ln) q c ≡ means_stored m s l ln q c
line_turned_draws_the_same {m} {s} g l ln q c h = turned_means m s l ln q c (line_bits_is g l).0 (line_bits_is g l).1 h
