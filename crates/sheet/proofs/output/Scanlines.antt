-- The pixels of a scanline, laid over the output.
-- Assumes nothing.
use mathlib.Core.Path.{◌≡◌, ◌∙◌, ap, ap₂, sym}
use mathlib.Core.List.{List, []}
use Prim.Native.Nat.{ℕ, ◌+◌, ◌*◌}
use native.Mathlib.Omega.{arith}
use lib.ListN.{get_or}
use Rattle.laws.specs.Tables.{over}
use Rattle.laws.proofs.Over.{over_add, over_none}
use Rattle.sheet_rules.specs.Rows.{channel}
use Rattle.sheet.specs.Columns.{scanline_byte}

-- the pixels of a scanline so far, and one more
module _ (px : List (List ℕ)) (y o : ℕ) (out₀ : List ℕ) where
  abbrev pub Scanline : ℕ → List ℕ → Type 0
  Scanline k out = out ≡ over out₀ o (4 * k) (scanline_byte px y)

  pub scanline_none : Scanline 0 out₀
  scanline_none = sym (over_none out₀ o (scanline_byte px y))

  pub scanline_more : (k : ℕ) (out next : List ℕ) → Scanline k out → next ≡ over out (o + 4 * k) 4 (λ j. get_or (get_or px (4 * y + k) []) j 0)
      → Scanline (k + 1) next
  unfolding channel
  scanline_more k out next e n =
      n ∙ ap (λ (l : List ℕ). over l (o + 4 * k) 4 (λ j. get_or (get_or px (4 * y + k) []) j 0)) e
      ∙ over_add out₀ o (4 * k) 4 (scanline_byte px y) _ (λ j h. ap₂ (λ (q i : ℕ). get_or (get_or px q []) i 0) (omega arith) (omega arith))
      ∙ ap (λ (m : ℕ). over out₀ o m (scanline_byte px y)) (omega arith)
