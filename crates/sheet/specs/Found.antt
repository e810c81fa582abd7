-- What `find_block` answers.
-- Assumes nothing.
use Rattle.std.specs.Prelude.{ℕ, ◌≡◌, List, eqb}
use Rattle.head_rules.specs.Answers.{Head}
use Rattle.sheet_head.specs.Asked.{BlockAsked}
use Rattle.refusals.specs.Answers.{Answer}
use Rattle.laws.specs.Tables.{pick}
use Rattle.head_rules.specs.Geometry.{place_of, whole_length}
use Rattle.head_rules.specs.Heads.{read_head}
use Rattle.sheet_rules.specs.Sheets.{find_refusal}

abbrev pub found_at : ℕ → ℕ → Answer ℕ
found_at r at = record { refusal = r; value = at }

unfoldable pub find_block : List ℕ → ℕ → Answer ℕ
find_block s b = pick (eqb (find_refusal (read_head s) s b) 0) (found_at 0 (place_of (read_head s) b)) (found_at (find_refusal (read_head s) s b) 0)

-- a block of a sheet that is there whole, of so many bytes
pub record BlockThere (h : Head) (b many : ℕ) : Type 0 where
  pub asked : BlockAsked h b
  pub whole : many ≡ whole_length h
