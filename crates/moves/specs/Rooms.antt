-- What the parts of a move ask, a whole sheet and room; and where a block is found to be stored.
-- Assumes nothing.
use Rattle.std.specs.Prelude.{ℕ, ◌*◌, ◌<◌, ◌≡◌}
use Rattle.head_rules.specs.declared.Form.{Form}
use Rattle.head_rules.specs.Answers.{Head}
use Rattle.head_rules.specs.Geometry.{blocks_of, stored_by, whole_length}
use Rattle.head_rules.specs.Heads.{Sized}
use Rattle.move_rules.specs.Moving.{head_in_form}

-- for its blocks alone
pub record MovesBlocks (h : Head) (sheet to : ℕ) : Type 0 where
  pub size : Sized h.width h.height
  pub whole : sheet ≡ whole_length h
  pub room : to ≡ 16 * blocks_of h

-- for all of it in form f
pub record Lays (f : Form) (h : Head) (sheet out : ℕ) : Type 0 where
  pub size : Sized h.width h.height
  pub whole : sheet ≡ whole_length h
  pub room : out ≡ whole_length (head_in_form f h)

-- form f stores block b of c columns and r rows as the q-th, one of them all
pub record Stores (f : Form) (c r b q : ℕ) : Type 0 where
  pub same : q ≡ stored_by f c r b
  pub inside : q < r * c
