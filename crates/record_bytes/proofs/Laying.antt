-- Rows of bytes made of arrays laid one behind the other.
-- Assumes nothing.
use mathlib.Core.Path.{◌≡◌, refl, subst, sym, ◌∙◌}
use mathlib.Core.List.{List}
use Prim.Native.Nat.{ℕ, ◌+◌, ◌-◌, ◌<◌, ◌≤◌}
use native.Mathlib.Nat.{zero-add}
use native.Mathlib.Omega.{arith}
use borrow.Author.Tests.{lt-ltb, le-ltb}
use lib.Dec.{lit<}
use lib.ListN.{length, get_or, set, take, drop, length-drop}
use Rattle.line_rules.specs.declared.Replacement.{Replacement}
use Rattle.record_rules.specs.declared.Record.{Record}
use Rattle.laws.specs.Tables.{over, table}
use Rattle.laws.proofs.Filled.{Filled, filled_next, filled_none}
use Rattle.laws.proofs.Over.{filled_run}
use Rattle.bc7_format.specs.Splits.{index_mode, kind_of}
use Rattle.line_rules.specs.Read.{value_at}
use Rattle.record_rules.specs.Wire.{record_byte, split_byte, bytes_from}
use Rattle.record_rules.proofs.Wire.{behind}
use Rattle.bc7_format.specs.Places.{values_from, place_count}
use lib.Seq.{get_or-drop, get_or-take, length-take-le, ext_get_or}
use Rattle.laws.proofs.Part.{get_d_table, length_table}

-- an array of k bytes laid behind o bytes that stand
pub laid : {N : ℕ} {F : ℕ → ℕ} {out next : List ℕ} (o k : ℕ) (vs : List ℕ) → length vs ≡ k → next ≡ over out o (length vs) (λ i. get_or vs i 0)
    → Filled N 0 F o out → o + k ≤ N → ((j : ℕ) → j < k → F (o + j) ≡ get_or vs j 0) → Filled N 0 F (o + k) next
laid {N} {F} {out} o k vs long e h l is =
    subst (Filled N 0 F (o + k)) (sym e)
    (subst (λ (n : ℕ). Filled N 0 F (o + k) (over out o n (λ i. get_or vs i 0))) (sym long)
    (filled_run o k (λ i. get_or vs i 0) h l (λ j b. sym (is j b))))

-- where the values of a replacement stand
module _ (g : Replacement) (j : ℕ) where
  pub endpoint_at : j < 8 → value_at g (0 + j) ≡ get_or g.endpoints j 0
  unfolding value_at
  endpoint_at h = rw (zero-add j, lt-ltb j 8 h)

  pub p_at : j < 2 → value_at g (8 + j) ≡ get_or g.p j 0
  unfolding value_at
  p_at h = rw (le-ltb (8 + j) 8 (omega arith), lt-ltb (8 + j) 10 (omega arith)) (behind 8 j g.p)

  pub index_at : j < 16 → value_at g (10 + j) ≡ get_or g.indexes j 0
  unfolding value_at
  index_at h = rw (le-ltb (10 + j) 8 (omega arith), le-ltb (10 + j) 10 (omega arith)) (behind 10 j g.indexes)

-- the four bytes before them
pub lead_laid : (r : Record) (k s i : ℕ) (out : List ℕ) → length out ≡ place_count → k ≡ kind_of r.split → s ≡ split_byte r.split
    → i ≡ index_mode r.split
    → Filled place_count 0 (record_byte r) values_from (set (set (set (set out 0 r.mode) 1 k) 2 s) 3 i)
unfolding record_byte
lead_laid r k s i out long ek es ei =
    filled_next 3 i (filled_next 2 s (filled_next 1 k (filled_next {out = out} 0 r.mode (filled_none long) (lit< tt) refl) (lit< tt) ek)
    (lit< tt) es) (lit< tt) ei

-- n values of a list from a place on
pub copied_part : (bs : List ℕ) (n at : ℕ) → at + n ≤ length bs → take (at + n - at) (drop at bs) ≡ bytes_from bs at n
copied_part bs n at h =
    let e : at + n - at ≡ n = omega arith in
    let long : length (take n (drop at bs)) ≡ n = length-take-le n (drop at bs) (omega (arith, length-drop at bs)) in
    rw e
    (ext_get_or 0 _ _ (long ∙ sym (length_table n _)) (λ i l.
    let l' : i < n = rw long at l in
    get_or-take n (drop at bs) i 0 l' ∙ get_or-drop at bs i 0 ∙ sym (get_d_table n (λ j. get_or bs (at + j) 0) 0 i l')))

-- as many bytes from place 0 on as there is room for
pub from_0 : (bs : List ℕ) (n : ℕ) → bytes_from bs 0 n ≡ table n (λ i. get_or bs i 0)
from_0 bs n = λ j. table n (λ i. get_or bs (zero-add i j) 0)
