-- The scanlines of a block laid into their column.
-- Assumes nothing.
use mathlib.Core.Path.{◌≡◌, ◌∙◌, ap, ap₂, sym, subst}
use mathlib.Core.Logic.{⊎_elim}
use mathlib.Core.List.{List}
use Prim.Native.Nat.{ℕ, ◌+◌, ◌-◌, ◌*◌, ◌/◌, ◌%◌, ◌<◌, ◌≤◌, min}
use native.Mathlib.Nat.{not-suc-le-zero, div-add-mod', div-lt_iff_lt-mul, mod-lt, add_assoc}
use native.Mathlib.Omega.{arith}
use lib.Arith.{digits_lt, digits_div, digits_mod}
use lib.ListN.{length, get_or}
use borrow.Author.Tests.{eq-eqb, ne_eqb}
use Rattle.laws.specs.Tables.{over, table}
use Rattle.laws.proofs.Cases.{lt_or}
use Rattle.laws.proofs.Over.{part_over}
use Rattle.laws.proofs.Part.{Part, part_all}
use Rattle.sheet.specs.Columns.{column_byte, scanline_byte, with_column}

-- scanline y's part of column c is inside the output
pub fits : (w c : ℕ) → 4 * c < w → {scanlines y : ℕ} → y < scanlines → {n : ℕ} → n ≡ min 4 (w - 4 * c)
    → y * (4 * w) + 16 * c + 4 * n ≤ scanlines * (4 * w)
fits w c inside {scanlines} {y} below {n} n_is =
    omega (arith, digits_lt {q = y} {m = scanlines} {r = 16 * c + 4 * n - 1} {c = 4 * w} below (omega arith))

-- byte k stands in scanline k / (4 · w) and in column k % (4 · w) / 16
module _ (w c : ℕ) (px : List (List ℕ)) (out₀ : List ℕ) where
  pub byte_in : (k : ℕ) → k % (4 * w) / 16 ≡ c → column_byte w px c out₀ k ≡ scanline_byte px (k / (4 * w)) (k % (4 * w) % 16)
  unfolding column_byte
  byte_in k e = rw (eq-eqb (k % (4 * w) / 16) c e)

  pub byte_out : (k : ℕ) → (k % (4 * w) / 16 ≡ c → ⊥) → column_byte w px c out₀ k ≡ get_or out₀ k 0
  unfolding column_byte
  byte_out k e = rw (ne_eqb (k % (4 * w) / 16) c e)

  -- the first y scanlines of the column
  abbrev pub Scanlines : ℕ → ℕ → List ℕ → Type 0
  Scanlines scanlines y out = Part (scanlines * (4 * w)) 0 (column_byte w px c out₀) (λ k. k % (4 * w) / 16 ≡ c → k / (4 * w) < y) out

  pub scanlines_none : (scanlines : ℕ) → length out₀ ≡ scanlines * (4 * w) → Scanlines scanlines 0 out₀
  scanlines_none scanlines e = record { long = e; done = λ k l p. sym (byte_out k (λ q. not-suc-le-zero (p q))) }

  module _ (inside : 4 * c < w) (scanlines y : ℕ) (below : y < scanlines) (n : ℕ) (n_is : n ≡ min 4 (w - 4 * c)) where
    at_byte : (j : ℕ) → j < 4 * n → scanline_byte px y j ≡ column_byte w px c out₀ (y * (4 * w) + 16 * c + j)
    at_byte j h =
        let l : 16 * c + j < 4 * w = omega arith in
        let e = ap (λ (m : ℕ). m % (4 * w)) (add_assoc (y * (4 * w)) (16 * c) j) ∙ digits_mod y l in
        let d = ap (λ (m : ℕ). m / (4 * w)) (add_assoc (y * (4 * w)) (16 * c) j) ∙ digits_div y l in
        sym (byte_in (y * (4 * w) + 16 * c + j) (ap (λ (m : ℕ). m / 16) e ∙ omega arith) ∙ ap₂ (λ (a b : ℕ). scanline_byte px a (b % 16)) d e
        ∙ ap (scanline_byte px y) (omega arith))

    earlier : (k : ℕ) → (k % (4 * w) / 16 ≡ c → k / (4 * w) < y + 1) → ((y * (4 * w) + 16 * c ≤ k) × (k < y * (4 * w) + 16 * c + 4 * n) → ⊥)
        → k % (4 * w) / 16 ≡ c → k / (4 * w) < y
    earlier k q ne e = ⊎_elim (λ s. s) (λ s. absurd (ne (within (omega (arith, q e))))) (lt_or (k / (4 * w)) y)
      where
        within : k / (4 * w) ≡ y → (y * (4 * w) + 16 * c ≤ k) × (k < y * (4 * w) + 16 * c + 4 * n)
        within s =
            let d = sym (ap (λ (m : ℕ). m * (4 * w) + k % (4 * w)) s) ∙ div-add-mod' k (4 * w) in
            let l : k % (4 * w) < 4 * w = mod-lt k (omega arith) in
            (omega (arith, d, e, l), omega (arith, d, e, l))

    pub scanlines_more : {out next : List ℕ} → Scanlines scanlines y out → next ≡ over out (y * (4 * w) + 16 * c) (4 * n) (scanline_byte px y)
        → Scanlines scanlines (y + 1) next
    scanlines_more h e =
        subst (Scanlines scanlines (y + 1)) (sym e)
        (part_over (y * (4 * w) + 16 * c) (4 * n) (scanline_byte px y) h (fits w c inside below n_is) at_byte (λ k l q ne. earlier k q ne))

  pub scanlines_all : {scanlines y : ℕ} {out : List ℕ} → 4 * c < w → length out₀ ≡ scanlines * (4 * w) → scanlines ≤ y → Scanlines scanlines y out
      → out
      ≡ with_column w px c out₀
  unfolding with_column
  scanlines_all {scanlines} {y} inside e l h =
      part_all h (λ k lk q. omega (arith, (div-lt_iff_lt-mul {k = 4 * w} {x = k} {y = scanlines} (omega arith)).1 lk))
      ∙ ap (λ (m : ℕ). table m (column_byte w px c out₀)) (sym e)
