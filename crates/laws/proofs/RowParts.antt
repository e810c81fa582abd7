-- A row of widths in two parts, and one whose last places have no width.
-- Assumes nothing.
use mathlib.Core.Path.{◌≡◌, sym, ap, ap₂, ◌∙◌}
use Prim.Native.Nat.{ℕ, zero, suc, ◌+◌, ◌*◌, ◌^◌, ◌≤◌, ◌<◌}
use native.Mathlib.Nat.{add-suc, add-zero, zero-add, zero-mul}
use native.Mathlib.Omega.{arith}
use lib.Arith.{lt-one}
use Rattle.laws.specs.Digits.{join, total}
use Rattle.laws.specs.Tables.{table}
use Rattle.laws.proofs.Digits.{join_append, total_append}
use Rattle.laws.proofs.Joining.{table_append}
use Rattle.laws.proofs.Rows.{fit_table, join_more, total_more}

-- rows in two parts
module _ (i k : ℕ) (f v : ℕ → ℕ) where
  pub rows_join : ((j : ℕ) → j < i → v j < 2 ^ f j)
      → join (table (i + k) f) (table (i + k) v)
      ≡ join (table k (λ j. f (i + j))) (table k (λ j. v (i + j))) * 2 ^ total (table i f) + join (table i f) (table i v)
  rows_join h =
      ap₂ join (sym (table_append 0 i k f)) (sym (table_append 0 i k v))
      ∙ join_append (fit_table i f v h) (table k (λ j. f (i + j))) (table k (λ j. v (i + j)))

  pub rows_total : total (table (i + k) f) ≡ total (table i f) + total (table k (λ j. f (i + j)))
  rows_total = ap total (sym (table_append 0 i k f)) ∙ total_append (table i f) (table k (λ j. f (i + j)))

-- places of no width at the end of a row
module _ (c : ℕ) (f v : ℕ → ℕ) where
  pub tail_total : (d : ℕ) → ((k : ℕ) → c ≤ k → k < c + d → f k ≡ 0) → total (table (c + d) f) ≡ total (table c f)
  tail_total zero h = rw add-zero
  tail_total (suc d) h =
      rw (add-suc c d)
      (total_more (c + d) f ∙ ap₂ (λ (x y : ℕ). x + y) (tail_total d (λ k a l. h k a (omega arith))) (h (c + d) (omega arith) (omega arith))
      ∙ add-zero (total (table c f)))

  pub tail_join : (d : ℕ) → ((k : ℕ) → k < c + d → v k < 2 ^ f k) → ((k : ℕ) → c ≤ k → k < c + d → f k ≡ 0)
      → join (table (c + d) f) (table (c + d) v) ≡ join (table c f) (table c v)
  tail_join zero g h = rw add-zero
  tail_join (suc d) g h =
      let none : v (c + d) ≡ 0 = lt-one (rw (h (c + d) (omega arith) (omega arith)) at (g (c + d) (omega arith))) in
      rw (add-suc c d)
      (join_more (c + d) f v (λ k l. g k (omega arith))
      ∙ rw (none, zero-mul, zero-add) (tail_join d (λ k l. g k (omega arith)) (λ k a l. h k a (omega arith))))
