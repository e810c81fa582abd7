-- What the functions on heads and their geometry ask.
-- Assumes nothing.
use Rattle.std.specs.Prelude.{ℕ, ◌<◌, ◌≤◌}
use Rattle.head_rules.specs.Answers.{Head}
use Rattle.head_rules.specs.Answers.{HeadReader}
use Rattle.head_rules.specs.Geometry.{blocks_of}
use Rattle.head_rules.specs.Heads.{Sized, limit}
use Rattle.head_rules.specs.Reader.{Going}

-- of scanlines: a sheet's width, and no more than a row of blocks shows
pub record ScanlinesAsked (width scanlines : ℕ) : Type 0 where
  pub wide : width ≤ limit
  pub few : scanlines ≤ 4

-- of a block's number, or of a stored number: it is one of a sheet's
pub record BlockAsked (head : Head) (block : ℕ) : Type 0 where
  pub size : Sized head.width head.height
  pub number : block < blocks_of head

-- of the last byte of a number
pub record LastAsked (reader : HeadReader) (byte : ℕ) : Type 0 where
  pub going : Going reader
  pub last : byte < 128
