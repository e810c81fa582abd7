-- The decoder's promise fixes its answer.
-- Assumes nothing.
use mathlib.Core.Path.{◌≡◌, sym, ◌∙◌}
use mathlib.Core.List.{List}
use Prim.Native.Nat.{ℕ}
use Rattle.bc7.specs.Promises.{DecodesBlock}

-- any two answers that the promise admits are the same
pub determined_decode : (bs : List ℕ) (a b : List (List ℕ)) → DecodesBlock bs a → DecodesBlock bs b → a ≡ b
determined_decode bs a b p q = p ∙ sym q
