-- ONE PIXEL, READ STRAIGHT FROM THE PAGE: the letters of the partition's string in the place of a table, and each field by the number of
-- its first bit. `pixel` is what it comes to (proofs/Theorems).
-- Assumes nothing.
use Rattle.std.specs.Prelude.{List, ℕ, suc, ◌+◌, ◌-◌, ◌*◌, ◌≤◌, ◌<◌, eqb}
use Rattle.laws.specs.Tables.{pick}
use Rattle.bcn_format.specs.Block.{field, number}
use Rattle.bcn_format.specs.Drawing.{drawn, weight_of}
use Rattle.bc7_fields.specs.Fields.{end_byte, lead_end}
use Rattle.bc7_format.specs.Lines.{rotated}
use Rattle.bc7_format.specs.Modes.{alpha_bits, colour_bits, endpoint_count, first_bits, index_bits, index_mode_bits, mode_of}
use Rattle.bc7_format.specs.Modes.{p_count, partition_bits, rotation_bits}
use Rattle.pixel_rules.specs.Columns.{subset_count}
use Rattle.pixel_rules.specs.Strings.{Sixteen, anchors_before, is_anchor_in, letters, string_for, subset_spelt}

-- what a block of mode m and number n says of its split, behind the marker
abbrev pub partition_in : ℕ → ℕ → ℕ
partition_in m n = field n (suc m) (partition_bits m)

abbrev pub rotation_in : ℕ → ℕ → ℕ
rotation_in m n = field n (suc m + partition_bits m) (rotation_bits m)

abbrev pub index_mode_in : ℕ → ℕ → ℕ
index_mode_in m n = field n (suc m + partition_bits m + rotation_bits m) (index_mode_bits m)

-- the indexes come behind the values and the p bits; the second ones, where there are any, behind all sixteen first
unfoldable pub first_start : ℕ → ℕ
first_start m = lead_end m + endpoint_count m * (3 * colour_bits m + alpha_bits m) + p_count m

unfoldable pub set_start : ℕ → List ℕ → ℕ → ℕ
set_start m cs a = first_start m + pick (eqb a 0) 0 (16 * first_bits m - anchors_before cs 16)

-- the index of pixel q in set a: behind those of the pixels before, of which each anchor's has a bit less
unfoldable pub index_start : ℕ → List ℕ → ℕ → ℕ → ℕ
index_start m cs a q = set_start m cs a + (q * index_bits m a - anchors_before cs q)

unfoldable pub index_wide : ℕ → List ℕ → ℕ → ℕ → ℕ
index_wide m cs a q = pick (is_anchor_in cs q) (index_bits m a - 1) (index_bits m a)

abbrev pub index_in : ℕ → List ℕ → ℕ → ℕ → ℕ → ℕ
index_in m cs n a q = field n (index_start m cs a q) (index_wide m cs a q)

-- the index set that serves channel d (before rotation) under the index mode i: alpha takes the other one, where there are two
unfoldable pub set_for : ℕ → ℕ → ℕ → ℕ
set_for m i d = pick (eqb (rotation_bits m) 0) 0 (pick (eqb d 3) (1 - i) i)

-- channel d of pixel q, before rotation
unfoldable pub channel_in : ℕ → ℕ → List ℕ → ℕ → ℕ → ℕ → ℕ
channel_in m i cs n q d =
    let a = set_for m i d in
    drawn (end_byte m n (2 * subset_spelt cs q + 0) d) (end_byte m n (2 * subset_spelt cs q + 1) d) (weight_of (index_bits m a) (index_in m cs n a q))

-- the letters of a block's partition
unfoldable pub letters_of : ℕ → ℕ → List ℕ
letters_of m n = letters (string_for (subset_count m) (partition_in m n))

-- channel c of pixel q as it is shown, by a block of mode m and number n; a reserved block shows 0
unfoldable pub plain_channel : ℕ → ℕ → ℕ → ℕ → ℕ
plain_channel m n q c = channel_in m (index_mode_in m n) (letters_of m n) n q (rotated (rotation_in m n) c)

unfoldable pub plain_pixel : List ℕ → ℕ → ℕ → ℕ
plain_pixel bs q c = pick (eqb (mode_of bs) 8) 0 (plain_channel (mode_of bs) (number bs) q c)

-- letters by which a pixel of a block of mode m can be read
pub record Spelt (m : ℕ) (cs : List ℕ) : Type 0 where
  pub sixteen : Sixteen cs
  pub inside : (q : ℕ) → q < 16 → 2 * subset_spelt cs q + 1 < endpoint_count m
  pub room : (a q : ℕ) → a < 2 → q < 16 → index_start m cs a q + index_wide m cs a q ≤ 128
