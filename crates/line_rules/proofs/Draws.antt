-- Which line draws a channel of a pixel.
-- Assumes nothing.
use mathlib.Core.Path.{◌≡◌, refl, sym, ◌∙◌, subst}
use mathlib.Core.Logic.{◌≢◌}
use mathlib.Core.Bool.{Bool, true, false}
use Prim.Native.Nat.{ℕ}
use borrow.Author.Tests.{eqb-true, eqb-false}
use lib.Dec.{eqb}
use Rattle.bc7_format.specs.declared.Split.{Split}
use Rattle.laws.specs.Tables.{both}
use Rattle.laws.proofs.Tests.{both_true}
use Rattle.bc7_format.specs.Lines.{draws, is_drawn, line_at, rotated}
use Rattle.bc7_format.specs.Splits.{rotation}

module _ (m : ℕ) (s : Split) where
  pub drawn_by : (l q ch : ℕ) → draws m s l q ch ≡ true → (is_drawn m (rotated (rotation s) ch) ≡ true) × (line_at s q (rotated (rotation s) ch) ≡ l)
  unfolding draws
  drawn_by l q ch e = let p = both_true (is_drawn m (rotated (rotation s) ch)) _ e in (p.0, eqb-true _ l p.1)

  pub not_drawn_by : (l q ch : ℕ) → is_drawn m (rotated (rotation s) ch) ≡ true → draws m s l q ch ≡ false → line_at s q (rotated (rotation s) ch) ≢ l
  unfolding draws
  not_drawn_by l q ch p e = eqb-false _ l (subst (λ (b : Bool). both b (eqb (line_at s q (rotated (rotation s) ch)) l) ≡ false) p e)

  -- a channel of a pixel is drawn by one line at the most
  pub drawn_by_one : (k l q ch : ℕ) → k ≢ l → draws m s k q ch ≡ true → draws m s l q ch ≡ false
  drawn_by_one k l q ch n e = go (draws m s l q ch) refl
    where
      go : (b : Bool) → draws m s l q ch ≡ b → b ≡ false
      go true z = absurd (n (sym (drawn_by k q ch e).1 ∙ (drawn_by l q ch z).1))
      go false z = refl
