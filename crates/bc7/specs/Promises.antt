-- What `decode_bc7_block` promises of its answer: the format's pixels.
-- Assumes nothing.
use Rattle.std.specs.Prelude.{◌≡◌, List, ℕ}
use Rattle.bc7_format.specs.Lines.{pixels}

abbrev pub DecodesBlock : List ℕ → List (List ℕ) → Type 0
DecodesBlock block shown = shown ≡ pixels block
