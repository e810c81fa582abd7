-- What `decode_bc6h_block` promises of its answer: the format's halves.
-- Assumes nothing.
use Rattle.std.specs.Prelude.{◌≡◌, ℕ, Bool, List}
use Rattle.bc6h_format.specs.Halves.{halves}

abbrev pub DecodesHalves : List ℕ → Bool → List (List ℕ) → Type 0
DecodesHalves block signed shown = shown ≡ halves signed block
