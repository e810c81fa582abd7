-- The columns of a row, one after another.
-- Assumes nothing.
use mathlib.Core.Path.{◌≡◌, ◌∙◌, ap, sym, subst}
use mathlib.Core.List.{List}
use Prim.Native.Nat.{ℕ, ◌+◌, ◌*◌, ◌/◌, ◌%◌, ◌<◌, ◌≤◌}
use native.Mathlib.Nat.{div-add-mod', mod-lt, mul_left_comm}
use native.Mathlib.Decide.{ℕ_discrete}
use native.Mathlib.Omega.{arith}
use Rattle.laws.specs.Tables.{table}
use Rattle.laws.proofs.Part.{Part, part_all, part_table}
use Rattle.bc7_format.specs.Lines.{pixels}
use Rattle.head_rules.specs.Geometry.{across}
use Rattle.bcn_format.specs.Block.{block_at}
use Rattle.sheet_rules.specs.Rows.{channel, row_byte, row_bytes}
use Rattle.sheet.specs.Columns.{column_byte, scanline_byte, with_column}
use Rattle.sheet.proofs.output.Columns.{byte_in, byte_out}

-- the columns so far
module _ (w scanlines : ℕ) (blocks : List ℕ) where
  abbrev pub Columns : ℕ → List ℕ → Type 0
  Columns c out = Part (scanlines * (4 * w)) 0 (row_byte w blocks) (λ k. k % (4 * w) / 16 < c) out

  low : (k : ℕ) → k % (4 * w) % 16 % 4 ≡ k % 4
  low k = omega (arith, div-add-mod' k (4 * w), mul_left_comm (k / (4 * w)) 4 w)

  same_byte : (c : ℕ) (px : List (List ℕ)) → px ≡ pixels (block_at blocks (16 * c)) → (k : ℕ) → k % (4 * w) / 16 ≡ c
      → scanline_byte px (k / (4 * w)) (k % (4 * w) % 16) ≡ row_byte w blocks k
  unfolding row_byte
  same_byte c px p k e =
      let b : c ≡ k % (4 * w) / 4 / 4 = omega arith in
      rw (p, b, low k) (ap (λ (q : ℕ). channel (pixels (block_at blocks (16 * (k % (4 * w) / 4 / 4)))) (4 * (k / (4 * w)) + q) (k % 4)) (omega arith))

  pub columns_more : (c : ℕ) (px : List (List ℕ)) {out next : List ℕ} → px ≡ pixels (block_at blocks (16 * c)) → Columns c out → next
      ≡ with_column w px c out → Columns (c + 1) next
  unfolding with_column
  columns_more c px {out} {next} p h e =
      subst (Columns (c + 1)) (sym (e ∙ ap (λ (m : ℕ). table m (column_byte w px c out)) h.long))
      (part_table (column_byte w px c out) (λ k l q. go k l q (ℕ_discrete (k % (4 * w) / 16) c)))
    where
      go : (k : ℕ) → k < scanlines * (4 * w) → k % (4 * w) / 16 < c + 1 → Dec (k % (4 * w) / 16 ≡ c) → column_byte w px c out k ≡ row_byte w blocks k
      go k l q (yes s) = byte_in w c px out k s ∙ same_byte c px p k s
      go k l q (no s) = byte_out w c px out k s ∙ h.done k l (omega arith)

  pub columns_all : {c : ℕ} {out : List ℕ} → 0 < w → across w ≤ c → Columns c out → out ≡ row_bytes w scanlines blocks
  unfolding row_bytes
  columns_all {c} pos l h = part_all h (λ k lk. let m : k % (4 * w) < 4 * w = mod-lt k (omega arith) in omega arith)
