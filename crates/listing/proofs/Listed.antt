-- Texts behind texts in the output.
-- Assumes nothing.
use mathlib.Core.Path.{sym, subst}
use mathlib.Core.List.{List}
use Prim.Native.Nat.{ℕ, ◌+◌, ◌*◌}
use native.Mathlib.Numerals.{add-one}
use Rattle.laws.specs.Padding.{Written}
use Rattle.laws.proofs.Padding.{written_none, written_then}
use Rattle.head_rules.specs.Answers.{Head}
use Rattle.head_rules.specs.Geometry.{number_at}
use Rattle.bcn_format.specs.Block.{block_at}
use Rattle.listing_rules.specs.Listing.{block_listed, blocks_text}

-- the texts of the first blocks, and of one more
module _ (head : Head) (out₀ : List ℕ) (at₀ from : ℕ) (bs : List ℕ) where
  abbrev pub Texts : ℕ → List ℕ → ℕ → Type 0
  Texts n out at = Written out₀ at₀ (blocks_text head from n bs) out at

  pub texts_none : Texts 0 out₀ at₀
  unfolding blocks_text
  texts_none = written_none

  pub texts_more : (n : ℕ) {out out' : List ℕ} {at at' : ℕ} → Texts n out at
      → Written out at (block_listed head (number_at head (from + n)) (block_at bs (16 * n))) out' at' → Texts (n + 1) out' at'
  unfolding blocks_text
  texts_more n {out' = out'} {at' = at'} e f =
      subst (λ (m : ℕ). Written out₀ at₀ (blocks_text head from m bs) out' at') (sym (add-one n)) (written_then e f)
