-- Bytes stored one after another, and bytes with zeros behind.
-- Assumes nothing.
use Rattle.std.specs.Prelude.{ℕ, ◌+◌, ◌-◌, ◌≡◌, List, ◌++◌, length, replicate}
use Rattle.std.proofs.lemmas.List.Edits.{sets}

-- of a list the first n places are taken: bytes stored behind them, and the places that are taken then
abbrev pub stored : List ℕ × ℕ → List ℕ → List ℕ × ℕ
stored p bs = (sets p.0 p.1 bs, p.1 + length bs)

-- bytes with zeros behind, n in all
unfoldable pub padded : ℕ → List ℕ → List ℕ
padded n bs = bs ++ replicate (n - length bs) 0

-- bytes written to a place of a list: what the list is afterwards, and the place behind them
pub record Written (before : List ℕ) (at : ℕ) (bs : List ℕ) (after : List ℕ) (next : ℕ) : Type 0 where
  pub bytes : after ≡ sets before at bs
  pub ends : next ≡ at + length bs
