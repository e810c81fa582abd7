-- What telling an opaque block promises: the contract and `determined_opaque` say the same.
-- Assumes nothing.
use Rattle.std.specs.Prelude.{◌≡◌, Bool, List, ℕ}
use Rattle.opacity_rules.specs.Opacity.{opaque}

abbrev pub TellsOpaque : List ℕ → ℕ → ℕ → Bool → Type 0
TellsOpaque block columns rows answer = answer ≡ opaque columns rows block
