-- `fits::value_fits` meets its contract.
-- Assumes nothing.
use mathlib.Core.Path.{◌≡◌, refl, sym, ap, ◌∙◌}
use mathlib.Core.Bool.{Bool, true, false}
use Prim.Native.Nat.{ℕ, ◌/◌, ◌^◌}
use borrow.Author.Tests.{eqb-false}
use lib.Dec.{eqb, ltb}
use lib.Dec.{eqb→eq}
use Rattle.laws.proofs.Tests.{true_T}
use Rattle.bc7_places.proofs.fits.Widths.{fit, unfit}
use Rattle.record.proofs.fits.value_fits.Goals as goal

-- nothing stands above its width exactly where it fits
none_above : (v w : ℕ) → eqb (v / 2 ^ w) 0 ≡ ltb v (2 ^ w)
none_above v w = go (eqb (v / 2 ^ w) 0) refl
  where
    go : (b : Bool) → eqb (v / 2 ^ w) 0 ≡ b → b ≡ ltb v (2 ^ w)
    go true e = sym (fit v w (eqb→eq _ _ (true_T _ e)))
    go false e = sym (unfit v w (eqb-false _ 0 e))

pub returns : goal.returns
returns c = ap (λ (n : ℕ). eqb n 0) c.above.ensures ∙ none_above c.args.value c.args.width
