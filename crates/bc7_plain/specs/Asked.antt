-- What the reader's inner functions ask of what they are given, and answer.
-- Assumes nothing.
use Rattle.std.specs.Prelude.{◌≡◌, List, ℕ, ◌+◌, ◌^◌, ◌≤◌, ◌<◌}
use Rattle.bc7_format.specs.Modes.{endpoint_count, index_bits}
use Rattle.pixel_rules.specs.Columns.{column_of}
use Rattle.pixel_rules.specs.Plain.{Spelt, index_mode_in, partition_in, rotation_in}
use Rattle.pixel_rules.specs.Strings.{Sixteen}

-- a field of a block that a byte has room for
pub record ShortField (start width : ℕ) : Type 0 where
  pub inside : start + width ≤ 128
  pub short : width ≤ 8

-- a column of the table of modes, each of which is 8 at the most
pub record Column (m k r : ℕ) : Type 0 where
  pub is : r ≡ column_of m k
  pub few : r ≤ 8

-- a number of bits, and of a block's at that
pub record Bits (n r : ℕ) : Type 0 where
  pub is : r ≡ n
  pub few : r ≤ 128

pub record Byte (n r : ℕ) : Type 0 where
  pub is : r ≡ n
  pub small : r < 256

-- a value to promote
pub record Promoted (w v : ℕ) : Type 0 where
  pub least : 4 ≤ w
  pub most : w ≤ 8
  pub within : v < 2 ^ w

-- a channel and an endpoint that the mode has
pub record Has (m c e : ℕ) : Type 0 where
  pub channel : c < 4
  pub endpoint : e < endpoint_count m

-- a pixel of a string, and the pixels before one, or all sixteen
pub record PixelOfString (cs : List ℕ) (q : ℕ) : Type 0 where
  pub sixteen : Sixteen cs
  pub pixel : q < 16

pub record PixelsBefore (cs : List ℕ) (q : ℕ) : Type 0 where
  pub sixteen : Sixteen cs
  pub most : q ≤ 16

-- where a set of indexes starts
pub record SetAsked (m : ℕ) (cs : List ℕ) (a : ℕ) : Type 0 where
  pub spelt : Spelt m cs
  pub set : a < 2

-- an index of a set that the mode has
pub record IndexAsked (m : ℕ) (cs : List ℕ) (a q : ℕ) : Type 0 where
  pub spelt : Spelt m cs
  pub set : a < 2
  pub some : 1 ≤ index_bits m a
  pub pixel : q < 16

-- two bytes and a weight of 64
pub record TwoBytes (x y w : ℕ) : Type 0 where
  pub first : x < 256
  pub second : y < 256
  pub weight : w ≤ 64

-- a channel of a pixel, before rotation, and a pixel
pub record ChannelAsked (m i : ℕ) (cs : List ℕ) (q d : ℕ) : Type 0 where
  pub index_mode : i < 2
  pub spelt : Spelt m cs
  pub pixel : q < 16
  pub channel : d < 4

pub record PixelAsked (m r i : ℕ) (cs : List ℕ) (q : ℕ) : Type 0 where
  pub rotation : r < 4
  pub index_mode : i < 2
  pub spelt : Spelt m cs
  pub pixel : q < 16

-- a channel under a rotation
pub record Rotatable (r c : ℕ) : Type 0 where
  pub rotation : r < 4
  pub channel : c < 4

-- partition, rotation and index mode as a block says them
pub record SplitRead (m n p r i : ℕ) : Type 0 where
  pub partition : p ≡ partition_in m n
  pub rotation : r ≡ rotation_in m n
  pub index_mode : i ≡ index_mode_in m n
