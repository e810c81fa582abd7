-- `geometry::place_of` meets its contract.
-- Assumes nothing.
use mathlib.Core.Path.{ap}
use Prim.Native.Nat.{ℕ, ◌+◌, ◌*◌}
use Rattle.head_rules.specs.Geometry.{place_of}
use Rattle.sheet_head.proofs.geometry.place_of.Goals as goal

pub returns : goal.returns
unfolding place_of
returns c = let a = c.args.head in ap (λ (n : ℕ). a.start + 16 * n) c.stored_at.ensures.same
