-- What storing a set of indexes asks for.
-- Assumes nothing.
use Rattle.std.specs.Prelude.{[], ℕ, ◌*◌, ◌^◌, ◌<◌}
use Rattle.laws.specs.Digits.{Fit, split}
use Rattle.bcn_format.specs.Indexes.{IndexWidth, Rising, anchors_with, index_widths}

-- a word of sixteen indexes of one to four bits, of which the anchors' do without their top bits
pub record Storable (fixups w p q word : ℕ) : Type 0 where
  pub width : IndexWidth w
  pub rising : Rising fixups p q
  pub small : word < 2 ^ (16 * w)
  pub fits : Fit (index_widths w (anchors_with fixups p q)) (split (index_widths w []) word)
