-- What a number shows in a mode, straight from its fields.
-- Assumes nothing.
use Rattle.std.specs.Prelude.{ℕ, suc, ◌+◌, ◌*◌, ◌/◌, List, eqb}
use Rattle.bc7_format.specs.declared.Place.TheVariants.{Index}
use Rattle.bc7_format.specs.declared.Split.{Split}
use Rattle.laws.specs.Tables.{pick, table}
use Rattle.bcn_format.specs.Block.{field}
use Rattle.bcn_format.specs.Drawing.{drawn, weight_of}
use Rattle.bc7_format.specs.Lines.{eight, index_set_of, is_drawn, line_at, rotated}
use Rattle.bc7_format.specs.Modes.{alpha_bits, channel_bits, colour_bits, endpoint_count, index_bits, index_mode_bits, partition_bits, rotation_bits}
use Rattle.bc7_format.specs.Places.{at_place}
use Rattle.bc7_format.specs.Splits.{rotation, split_at, subset}
use Rattle.bc7_fields.specs.Painting.{four}

-- the bit at which the values start, and that of channel c of endpoint e
unfoldable pub lead_end : ℕ → ℕ
lead_end m = suc m + partition_bits m + rotation_bits m + index_mode_bits m

unfoldable pub value_start : ℕ → ℕ → ℕ → ℕ
value_start m c e = lead_end m + endpoint_count m * (colour_bits m * c) + channel_bits m c * e

-- the bit of endpoint e's p: in mode 1 one serves both endpoints of a subset
unfoldable pub p_start : ℕ → ℕ → ℕ
p_start m e = lead_end m + endpoint_count m * (3 * colour_bits m + alpha_bits m) + pick (eqb m 1) (e / 2) e

-- channel c of endpoint e as eight bits, 255 where the mode stores none
unfoldable pub end_byte : ℕ → ℕ → ℕ → ℕ → ℕ
end_byte m n e c = pick (is_drawn m c) (eight m c (field n (value_start m c e) (channel_bits m c)) (field n (p_start m e) 1)) 255

-- channel c of pixel q: the two endpoints of its subset (of a vector and its scalar, 0 and 1), and the index that serves the
-- channel before rotation
unfoldable pub direct : ℕ → Split → ℕ → ℕ → ℕ → ℕ
direct m s n q c =
    let d = rotated (rotation s) c in
    let a = index_set_of s (line_at s q d) in
    drawn (end_byte m n (2 * subset s q + 0) d) (end_byte m n (2 * subset s q + 1) d) (weight_of (index_bits m a) (at_place m s n (Index a q)))

-- the sixteen pixels of a number in a mode
unfoldable pub direct_pixels : ℕ → ℕ → List (List ℕ)
direct_pixels m n = table 16 (λ q. four (direct m (split_at m n) n q))
