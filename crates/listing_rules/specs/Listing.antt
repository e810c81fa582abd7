-- What is printed of an input.
-- Assumes nothing.
use Rattle.std.specs.Prelude.{ℕ, zero, suc, ◌+◌, ◌*◌, ◌/◌, Bool, List, [], ◌++◌, eqb, length, get_or, take, drop}
use Rattle.laws.specs.Tables.{pick}
use Rattle.bc7_format.specs.Modes.{mode_of}
use Rattle.bc7_format.specs.Lines.{pixels}
use Rattle.head_rules.specs.Answers.{Head}
use Rattle.head_rules.specs.Geometry.{blocks_of, number_at}
use Rattle.laws.specs.Text.{refused_text}
use Rattle.listing_rules.specs.Text.{block_text, sheet_text}
use Rattle.opacity_rules.specs.Opacity.{opaque_in}
use Rattle.bcn_format.specs.Block.{block_at}

-- the text of a block of a sheet
unfoldable pub block_listed : Head → ℕ → List ℕ → List ℕ
block_listed h number block = block_text number (mode_of block) (get_or (pixels block) 0 []) (opaque_in h.width h.height number block)

-- the texts of n blocks that stand one after the other, with `from` stored before the first
unfoldable pub blocks_text : Head → ℕ → ℕ → List ℕ → List ℕ
blocks_text h from zero bs = []
blocks_text h from (suc n) bs = blocks_text h from n bs ++ block_listed h (number_at h (from + n)) (block_at bs (16 * n))

-- the texts of the whole blocks among these bytes
unfoldable pub listed : Head → ℕ → List ℕ → List ℕ
listed h from bs = blocks_text h from (length bs / 16) bs

-- a refusal, unless the block bytes are exactly as many as needed
abbrev pub unless_exact : Bool → List ℕ
unless_exact exact = pick exact [] (refused_text 10)

-- n blocks are to come, with `from` stored before them: the texts of those that are there, and a refusal unless the bytes are exactly as many as
-- needed
unfoldable pub blocks_listing : Head → ℕ → ℕ → List ℕ → List ℕ
blocks_listing h from n bs = listed h from (take (16 * n) bs) ++ unless_exact (eqb (length bs) (16 * n))

-- what is printed of an input whose head was read as h
unfoldable pub listing : Head → List ℕ → List ℕ
listing h s =
    pick (eqb h.refusal 0)
    (sheet_text h.width h.height ++ blocks_listing h 0 (blocks_of h) (drop h.start s))
    (refused_text h.refusal)
