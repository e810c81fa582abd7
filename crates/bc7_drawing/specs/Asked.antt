-- What the functions ask of their arguments, and what some answer, each clause by its name.
-- Assumes nothing.
use Rattle.std.specs.Prelude.{◌≡◌, ℕ, ◌+◌, ◌-◌, ◌*◌, ◌/◌, ◌%◌, ◌^◌, ◌≤◌, ◌<◌}
use Rattle.bc7_drawing.specs.declared.colour.Ends.{Ends}
use Rattle.bc7_drawing.specs.declared.colour.Stored.{Stored}
use Rattle.bc7_drawing.specs.Words.{Alone, EndsOfBytes, Fitting, Lanes, LanesOfOne}

-- four values, each of which fits a lane
pub record FourLanes (a b c d : ℕ) : Type 0 where
  pub first : a < 2 ^ 16
  pub second : b < 2 ^ 16
  pub third : c < 2 ^ 16
  pub fourth : d < 2 ^ 16

-- a width that promotion takes, alone and with a p bit below
pub record Width (bits : ℕ) : Type 0 where
  pub least : 4 ≤ bits
  pub most : bits ≤ 8

pub record WidthP (bits : ℕ) : Type 0 where
  pub least : 3 ≤ bits
  pub most : bits ≤ 7

-- lanes that are promoted
pub record Promotable (bits x : ℕ) : Type 0 where
  pub width : Width bits
  pub lanes : Lanes bits x

pub record PromotableP (bits x p : ℕ) : Type 0 where
  pub width : WidthP bits
  pub lanes : Lanes bits x
  pub ps : Lanes 1 p

-- endpoint k of lanes that have both
pub record OneEnd (bits k : ℕ) : Type 0 where
  pub width : Width bits
  pub two : k < 2

pub record OneEndP (bits k : ℕ) : Type 0 where
  pub width : WidthP bits
  pub two : k < 2

-- two values that are all ones, in a lane
pub record AllOnes (bits r : ℕ) : Type 0 where
  pub is : r ≡ 2 ^ (bits + bits) - 1
  pub fits : r < 2 ^ 16

-- what is stored of two colours, of one, and of one whose alpha has a width of its own
pub record TwoStored (bits : ℕ) (x y : Stored) : Type 0 where
  pub width : Width bits
  pub first : Fitting x
  pub second : Fitting y

pub record TwoStoredP (bits : ℕ) (x y : Stored) : Type 0 where
  pub width : WidthP bits
  pub first : Fitting x
  pub second : Fitting y

pub record OneStoredP (bits : ℕ) (x : Stored) : Type 0 where
  pub width : WidthP bits
  pub stored : Fitting x

pub record OneStored (bits alpha_bits : ℕ) (x : Stored) : Type 0 where
  pub width : Width bits
  pub alpha : Width alpha_bits
  pub stored : Fitting x

-- a weight of 256 and what is mixed at it; two of them, the second 32 bits above the first
pub record Mixable (w e0 e1 : ℕ) : Type 0 where
  pub weight : w ≤ 256
  pub first : Lanes 8 e0
  pub second : Lanes 8 e1

pub record TwoWeights (ws : ℕ) : Type 0 where
  pub low : ws % 2 ^ 32 ≤ 256
  pub high : ws / 2 ^ 32 ≤ 256

pub record Mixable2 (ws e0 e1 : ℕ) : Type 0 where
  pub weights : TwoWeights ws
  pub first : LanesOfOne e0
  pub second : LanesOfOne e1

-- the same of endpoints
pub record Shaded (w : ℕ) (e : Ends) : Type 0 where
  pub weight : w ≤ 256
  pub ends : EndsOfBytes e

pub record Shaded2 (ws : ℕ) (e : Ends) : Type 0 where
  pub weights : TwoWeights ws
  pub ends : Alone e

pub record ThreeSubsets (e f : Ends) : Type 0 where
  pub two : EndsOfBytes e
  pub third : EndsOfBytes f

-- a palette of n colours, looked up by indexes of w bits above subsets of s
pub record Keyed (w s n : ℕ) : Type 0 where
  pub width : w ≤ 4
  pub subsets : s ≤ 2
  pub colours : n ≡ 2 ^ (w + s)

-- a palette of n colours: t for each index of w bits
pub record Coloured (w t n : ℕ) : Type 0 where
  pub least : 2 ≤ w
  pub most : w ≤ 4
  pub colours : n ≡ t * 2 ^ w
