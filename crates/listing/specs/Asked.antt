-- What the functions of the listing ask.
-- Assumes nothing.
use Rattle.std.specs.Prelude.{ℕ, ◌+◌, ◌*◌, ◌/◌, ◌<◌, ◌≤◌}
use Rattle.head_rules.specs.Answers.{Head}
use Rattle.head_rules.specs.Answers.{HeadReader}
use Rattle.head_rules.specs.Geometry.{blocks_of}
use Rattle.head_rules.specs.Heads.{Sized}
use Rattle.head_rules.specs.Reader.{Going}
use Rattle.listing_rules.specs.Machine.{Machine}
use Rattle.listing_rules.specs.Machine.{InBlocks, Ready, spare_of, wanted_of}

-- of a state before a block of the sheet, or behind its last
pub record WithinBlocks (head : Head) (from : ℕ) : Type 0 where
  pub sized : Sized head.width head.height
  pub within : from ≤ blocks_of head

-- of block `number`, with a place and the length of the output: that it is the sheet's, and that there is room for its text
pub record BlockAsked (head : Head) (number at room : ℕ) : Type 0 where
  pub sized : Sized head.width head.height
  pub there : number < blocks_of head
  pub fits : at + 40 ≤ room

-- of the whole blocks among so many bytes, numbered from `from` on
pub record BlocksAsked (head : Head) (from many at room : ℕ) : Type 0 where
  pub sized : Sized head.width head.height
  pub there : from + many / 16 ≤ blocks_of head
  pub fits : at + 40 * (many / 16) ≤ room

-- of so many bytes of a run that came: behind their texts there may be a refusal
pub record RunAsked (head : Head) (from many at room : ℕ) : Type 0 where
  pub inside : InBlocks head from
  pub blocks : BlocksAsked head from many (at + 40) room

-- of what came of the head
pub record HeadAsked (reader : HeadReader) (at room : ℕ) : Type 0 where
  pub going : Going reader
  pub fits : at + 80 ≤ room

-- of so many bytes that came: that the machine wanted them, and that there is room for what it may still say
pub record NextAsked (m : Machine) (many at room : ℕ) : Type 0 where
  pub ready : Ready m
  pub few : many ≤ wanted_of m
  pub fits : at + 40 * (many / 16) + spare_of m ≤ room
