-- `parts::mask_of` meets its contract: the word of its parts, as `word_of` makes one.
-- Assumes nothing.
use mathlib.Core.Path.{◌≡◌}
use Prim.Native.Nat.{ℕ, ◌-◌, ◌^◌}
use mathlib.Core.List.{List}
use Rattle.laws.specs.Tables.{pick, table}
use Rattle.bc7_places.specs.declared.lines.Pixels.{Pixels}
use Rattle.bc7_places.specs.Lines.{own_pixel}
use Rattle.indexes.proofs.sets.Words.{Upper}
use Rattle.line.proofs.parts.mask_of.Given as goal

abbrev pub parts : Pixels → ℕ → List ℕ
parts x w = table 16 (λ q. pick (own_pixel x q) (2 ^ w - 1) 0)

abbrev pub invariant-loop-i : goal.invariant-loop-i
invariant-loop-i l = (l.ones ≡ 2 ^ l.width - 1) × Upper l.width (parts l.pixels l.width) l.i l.mask

abbrev pub decreases-loop-i : goal.decreases-loop-i
decreases-loop-i l = l.i
