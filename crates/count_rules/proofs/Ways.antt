-- THE WAYS OF THE CODE: counts in an array, one block counted after another, and one count lowered and one raised.
-- Assumes nothing.
use mathlib.Core.Path.{◌≡◌, sym, ap, ◌∙◌}
use mathlib.Core.List.{List}
use Prim.Native.Nat.{ℕ, ◌+◌, ◌-◌, ◌<◌}
use native.Mathlib.Decide.{ℕ_discrete}
use native.Mathlib.Nat.{add-zero}
use native.Mathlib.Numerals.{add-one}
use native.Mathlib.Omega.{arith}
use borrow.Author.Tests.{eq-eqb, ne_eqb}
use lib.Dec.{eqb}
use lib.ListN.{get_or, length, length-set, set}
use lib.Seq.{ext_get_or, get_or-set_other, get_or-set_same}
use Rattle.laws.specs.Tables.{pick, table}
use Rattle.laws.proofs.Joining.{table_same}
use Rattle.laws.proofs.Part.{get_d_table, length_table}
use Rattle.laws.specs.Counting.{count}
use Rattle.laws.proofs.Counting.{count_more}
use Rattle.bc7_format.specs.Modes.{mode_of}
use Rattle.bc7_format.proofs.Modes.{mode_le_8}
use Rattle.head_rules.specs.Answers.{Head}
use Rattle.sheet_rules.specs.Sheets.{block_by}
use Rattle.count_rules.specs.Counts.{has_mode, is_opaque}
use Rattle.count_rules.specs.Keeping.{changed}
use Rattle.count_rules.proofs.Tallies.{one}

-- an array of n by its elements, one of which is set
set_is : (n : ℕ) (l : List ℕ) → length l ≡ n → (v x : ℕ) → v < n → set l v x ≡ table n (λ k. pick (eqb v k) x (get_or l k 0))
set_is n l e v x h =
    ext_get_or 0 (set l v x) (table n (λ k. pick (eqb v k) x (get_or l k 0))) (length-set l v x ∙ e ∙ sym (length_table n _)) (λ k lk.
    let lk' : k < n = omega (arith, length-set l v x) in
    go k (ℕ_discrete v k) ∙ sym (get_d_table n (λ k. pick (eqb v k) x (get_or l k 0)) 0 k lk'))
  where
    go : (k : ℕ) → Dec (v ≡ k) → get_or (set l v x) k 0 ≡ pick (eqb v k) x (get_or l k 0)
    go k (yes q) = rw (eq-eqb v k q, ← q) (get_or-set_same l v x 0 (omega arith))
    go k (no ne) = rw (ne_eqb v k ne) (get_or-set_other l v k x 0 (λ q. ne (sym q)))

module _ (n : ℕ) (l : List ℕ) (e : length l ≡ n) (v : ℕ) (h : v < n) where
  raised : set l v (get_or l v 0 + 1) ≡ table n (λ k. get_or l k 0 + pick (eqb v k) 1 0)
  raised = set_is n l e v (get_or l v 0 + 1) h ∙ table_same 0 n _ _ (λ k lk. go k (ℕ_discrete v k))
    where
      go : (k : ℕ) → Dec (v ≡ k) → pick (eqb v k) (get_or l v 0 + 1) (get_or l k 0) ≡ get_or l k 0 + pick (eqb v k) 1 0
      go k (yes q) = rw (eq-eqb v k q) (ap (λ (i : ℕ). get_or l i 0 + 1) q)
      go k (no ne) = rw (ne_eqb v k ne) (sym (add-zero (get_or l k 0)))

  lowered : set l v (get_or l v 0 - 1) ≡ table n (λ k. get_or l k 0 - pick (eqb v k) 1 0)
  lowered = set_is n l e v (get_or l v 0 - 1) h ∙ table_same 0 n _ _ (λ k lk. go k (ℕ_discrete v k))
    where
      go : (k : ℕ) → Dec (v ≡ k) → pick (eqb v k) (get_or l v 0 - 1) (get_or l k 0) ≡ get_or l k 0 - pick (eqb v k) 1 0
      go k (yes q) = rw (eq-eqb v k q) (ap (λ (i : ℕ). get_or l i 0 - 1) q)
      go k (no ne) = rw (ne_eqb v k ne) (omega arith)

-- COUNTING: after b blocks the array has the counts of those, and block b of mode v raises its own
pub counted_next : (h : Head) (s : List ℕ) (b : ℕ) (modes : List ℕ) → modes ≡ table 9 (λ m. count b (has_mode h s m))
    → (v : ℕ) → v ≡ mode_of (block_by h s b) → set modes v (get_or modes v 0 + 1) ≡ table 9 (λ m. count (b + 1) (has_mode h s m))
unfolding has_mode
counted_next h s b modes e v q =
    raised 9 modes (ap length e ∙ length_table 9 (λ m. count b (has_mode h s m))) v (omega (arith, q, mode_le_8 (block_by h s b)))
    ∙ table_same 0 9 _ _ (λ m l.
    let was : get_or modes m 0 ≡ count b (has_mode h s m) = ap (λ (x : List ℕ). get_or x m 0) e ∙ get_d_table 9 (λ m. count b (has_mode h s m)) 0 m l in
    let is : count (b + 1) (has_mode h s m) ≡ count b (has_mode h s m) + one (has_mode h s m b) = ap (λ (i : ℕ). count i (has_mode h s m)) (add-one b)
    ∙ count_more b (has_mode h s m) in
    omega (arith, was, is, ap (λ (x : ℕ). one (eqb x m)) q))

pub opaque_next : (h : Head) (s : List ℕ) (b : ℕ) → count (b + 1) (is_opaque h s) ≡ count b (is_opaque h s) + pick (is_opaque h s b) 1 0
opaque_next h s b = ap (λ (i : ℕ). count i (is_opaque h s)) (add-one b) ∙ count_more b (is_opaque h s)

-- RECOUNTING: the count of mode v is lowered, then that of mode w raised, which may be the same
pub recounted_by_two : (modes : List ℕ) → length modes ≡ 9 → (v w : ℕ) → v < 9 → w < 9
    → set (set modes v (get_or modes v 0 - 1)) w (get_or (set modes v (get_or modes v 0 - 1)) w 0 + 1)
    ≡ table 9 (λ m. changed (eqb v m) (eqb w m) (get_or modes m 0))
recounted_by_two modes e v w hv hw =
    let low = set modes v (get_or modes v 0 - 1) in
    raised 9 low (length-set modes v (get_or modes v 0 - 1) ∙ e) w hw
    ∙ table_same 0 9 _ _ (λ m l. ap (λ (x : ℕ). x + one (eqb w m))
    (ap (λ (x : List ℕ). get_or x m 0) (lowered 9 modes e v hv) ∙ get_d_table 9 (λ k. get_or modes k 0 - pick (eqb v k) 1 0) 0 m l))
