-- The decoder's promise fixes its answer.
-- Assumes nothing.
use Rattle.std.proofs.Common.{◌≡◌, ℕ, Bool, List, sym, ◌∙◌}
use Rattle.bc6h.specs.Promises.{DecodesHalves}

-- any two answers that the promise admits are the same
pub determined_bc6h : (bs : List ℕ) (signed : Bool) (a b : List (List ℕ)) → DecodesHalves bs signed a → DecodesHalves bs signed b → a ≡ b
determined_bc6h bs signed a b p q = p ∙ sym q
