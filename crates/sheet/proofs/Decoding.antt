-- The ways of `decode_row`.
-- Assumes nothing.
use mathlib.Core.Path.{◌≡◌, ◌∙◌, ap, sym}
use mathlib.Core.List.{List}
use Prim.Native.Nat.{ℕ}
use lib.ListN.{length}
use borrow.Author.Tests.{ne_eqb}
use Rattle.head_rules.specs.Geometry.{side_shown}
use Rattle.sheet_rules.specs.Rows.{row_bytes, row_out, row_out_up_to, row_refusal}
use Rattle.sheet_rules.proofs.Refusing.{Accepted, drawn, told}

pub told_by : (w h row given room : ℕ) {r : ℕ} → r ≡ row_refusal w h row given room → r ≡ 0 → Accepted w h row given room
told_by w h row given room e z = told w h row given room (sym e ∙ z)

module _ (w h row : ℕ) (blocks out : List ℕ) {r : ℕ} (e : r ≡ row_refusal w h row (length blocks) (length out)) where
  pub kept : (r ≡ 0 → ⊥) → (r ≡ row_refusal w h row (length blocks) (length out)) × (out ≡ row_out w h row blocks out)
  unfolding row_out_up_to
  kept ne = (e, rw (← e, ne_eqb r 0 ne))

  pub drawn_by : r ≡ 0 → {scanlines : ℕ} → scanlines ≡ side_shown h row → {after : List ℕ} → after ≡ row_bytes w scanlines blocks
      → (0 ≡ row_refusal w h row (length blocks) (length out)) × (after ≡ row_out w h row blocks out)
  drawn_by z l d = (sym z ∙ e, d ∙ ap (λ (n : ℕ). row_bytes w n blocks) l ∙ sym (drawn w h row blocks out (sym e ∙ z)))
