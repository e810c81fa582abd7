-- What stands in a block, in stored order, and how many bits each has. What a mode hasn't got has width 0. (src/lib.rt has the kinds of
-- places.)
-- Assumes nothing.
use Rattle.std.specs.Prelude.{ℕ, ◌+◌, ◌-◌, ◌*◌, ◌/◌, ◌%◌, Bool, List, ltb, get_or, take}
use Rattle.bc7_format.specs.declared.Place.{Place}
use Rattle.bc7_format.specs.declared.Place.TheVariants.{Lead, Value, PBit, Index}
use Rattle.bc7_format.specs.declared.Split.{Split}
use Rattle.laws.specs.Digits.{join, split, total}
use Rattle.laws.specs.Tables.{both, pick, table}
use Rattle.bcn_format.specs.Block.{bytes_of, number}
use Rattle.bc7_format.specs.Modes.{mode_of, channel_bits, endpoint_count, index_bits, p_count}
use Rattle.bcn_format.specs.Partitions.{among}
use Rattle.bc7_format.specs.Splits.{anchors, lead_bits, split_of}

-- where the groups start in the list of places: the values behind the four of the lead, the p bits, the first and the second
-- indexes; and how many places there are. (A record's 66 bytes have their groups there too)
abbrev pub values_from : ℕ
values_from = 4

abbrev pub ps_from : ℕ
ps_from = 28

abbrev pub first_from : ℕ
first_from = 34

abbrev pub second_from : ℕ
second_from = 50

abbrev pub place_count : ℕ
place_count = 66

-- the places there are: four of the lead (marker, partition, rotation, index mode), a value for each channel and endpoint, the p bits,
-- an index for each set and pixel
abbrev pub inside : Place → Bool
inside (Lead k) = ltb k values_from
inside (Value c e) = both (ltb c 4) (ltb e 6)
inside (PBit k) = ltb k 6
inside (Index a q) = both (ltb a 2) (ltb q 16)

-- the stored order: red of the endpoints 0 to 5, green, blue, alpha, the p bits, the first and the second indexes; and back
unfoldable pub place_at : ℕ → Place
place_at i =
    pick (ltb i values_from) (Lead i)
    (pick (ltb i ps_from) (Value ((i - values_from) / 6) ((i - values_from) % 6))
    (pick (ltb i first_from) (PBit (i - ps_from))
    (Index ((i - first_from) / 16) ((i - first_from) % 16))))

unfoldable pub pos : Place → ℕ
pos (Lead k) = k
pos (Value c e) = values_from + (6 * c + e)
pos (PBit k) = ps_from + k
pos (Index a q) = first_from + (16 * a + q)

-- how many bits a place has in a mode, where the pixels of `an` are anchors: an anchor's index has one bit less
unfoldable pub width : ℕ → List ℕ → Place → ℕ
width m an (Lead k) = get_or (lead_bits m) k 0
width m an (Value c e) = pick (ltb e (endpoint_count m)) (channel_bits m c) 0
width m an (PBit k) = pick (ltb k (p_count m)) 1 0
width m an (Index a q) = pick (among q an) (index_bits m a - 1) (index_bits m a)

-- all widths in stored order
unfoldable pub widths : ℕ → Split → List ℕ
widths m s = table place_count (λ i. width m (anchors s) (place_at i))

-- the number of the first bit of the i-th place: so many bits have the places before it
unfoldable pub start : ℕ → Split → ℕ → ℕ
start m s i = total (take i (widths m s))

-- what stands at all places, in stored order
unfoldable pub list_of : (Place → ℕ) → List ℕ
list_of f = table place_count (λ i. f (place_at i))

-- what stands at a place of a number, in a mode and a split; and of a block
unfoldable pub at_place : ℕ → Split → ℕ → Place → ℕ
at_place m s n x = get_or (split (widths m s) n) (pos x) 0

unfoldable pub opened : List ℕ → Place → ℕ
opened bs x = at_place (mode_of bs) (split_of bs) (number bs) x

-- the block in which f stands at the places
unfoldable pub block_of : ℕ → Split → (Place → ℕ) → List ℕ
block_of m s f = bytes_of (join (widths m s) (list_of f))
