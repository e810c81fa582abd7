-- Blocks looked at in the order that they are stored in, and the lowest number of one that breaks the profile kept.
-- Assumes nothing.
use Rattle.std.specs.Prelude.{ℕ, ◌+◌, ◌*◌, ◌<◌, min, ◌≡◌, List}
use Rattle.laws.specs.Tables.{pick}
use Rattle.head_rules.specs.Answers.{Head}
use Rattle.head_rules.specs.Geometry.{across, number_at, whole_length}
use Rattle.head_rules.specs.Heads.{Sized}
use Rattle.sheet_head.specs.Asked.{BlockAsked}
use Rattle.bcn_format.specs.Block.{block_at}
use Rattle.profile_rules.specs.Profile.{admits}

-- a whole sheet of so many bytes, whose head is h; the block of it that is stored p-th; and row n of its blocks
pub record SheetThere (h : Head) (many : ℕ) : Type 0 where
  pub sized : Sized h.width h.height
  pub whole : many ≡ whole_length h

pub record StoredThere (h : Head) (p many : ℕ) : Type 0 where
  pub asked : BlockAsked h p
  pub whole : many ≡ whole_length h

pub record RowThere (h : Head) (n many : ℕ) : Type 0 where
  pub sheet : SheetThere h many
  pub inside : n < across h.height

-- the block that is stored p-th, and the lower of two numbers where it breaks the profile: its own and the lowest before it
abbrev pub stored_block : Head → List ℕ → ℕ → List ℕ
stored_block h s p = block_at s (h.start + 16 * p)

unfoldable pub lowest_with : Head → List ℕ → ℕ → ℕ → ℕ
lowest_with h s p lowest = pick (admits (stored_block h s p)) lowest (min (number_at h p) lowest)
