-- What a block that was stored among bytes changes, and what not.
-- Assumes nothing.
use mathlib.Core.Path.{◌≡◌, ◌∙◌, ap, sym}
use mathlib.Core.Logic.{◌⊎◌, ⊎_elim}
use mathlib.Core.List.{List}
use Prim.Native.Nat.{ℕ, ◌+◌, ◌-◌, ◌<◌, ◌≤◌}
use native.Mathlib.Omega.{arith}
use lib.ListN.{length, get_or, drop, length-take, length-drop}
use lib.Seq.{get_or-take, get_or-drop, ext_get_or, take_all}
use Rattle.laws.proofs.Cases.{lt_or}
use Rattle.laws.proofs.Over.{length_over, over_in, over_out}
use Rattle.bcn_format.specs.Block.{block_at, put_block}

module _ (s : List ℕ) (at : ℕ) (block : List ℕ) where
  pub put_long : length (put_block s at block) ≡ length s
  unfolding put_block
  put_long = length_over s at 16 (λ j. get_or block j 0)

  pub put_inside : (j : ℕ) → at + 16 ≤ length s → j < 16 → get_or (put_block s at block) (at + j) 0 ≡ get_or block j 0
  unfolding put_block
  put_inside j h l = over_in s at 16 (λ j. get_or block j 0) 0 j h l

  pub put_outside : (k : ℕ) → ((at ≤ k) × (k < at + 16) → ⊥) → get_or (put_block s at block) k 0 ≡ get_or s k 0
  unfolding put_block
  put_outside k h = over_out s at 16 (λ j. get_or block j 0) 0 k h

-- what is read of a block
pub block_get : (s : List ℕ) (at j : ℕ) → j < 16 → get_or (block_at s at) j 0 ≡ get_or s (at + j) 0
unfolding block_at
block_get s at j h = get_or-take 16 (drop at s) j 0 h ∙ get_or-drop at s j 0

pub block_long : (s : List ℕ) (at : ℕ) → at + 16 ≤ length s → length (block_at s at) ≡ 16
unfolding block_at
block_long s at h = simp (length-take, length-drop) (omega arith)

-- sixteen bytes are a block
pub whole_block : (s : List ℕ) → length s ≡ 16 → block_at s 0 ≡ s
unfolding block_at
whole_block s h = take_all 16 s (omega arith)

-- what is stored is there, and what stands elsewhere stays
pub same_block : (s : List ℕ) (at : ℕ) (block : List ℕ) → length block ≡ 16 → at + 16 ≤ length s → block_at (put_block s at block) at ≡ block
same_block s at block e h =
    let long = block_long (put_block s at block) at (omega (arith, put_long s at block)) in
    ext_get_or 0 (block_at (put_block s at block) at) block (long ∙ sym e) (λ j l.
    let l' : j < 16 = omega (arith, long) in block_get (put_block s at block) at j l' ∙ put_inside s at block j h l')

pub other_block : (s : List ℕ) (at other : ℕ) (block : List ℕ) → at + 16 ≤ length s → other + 16 ≤ length s → (at + 16 ≤ other) ⊎ (other + 16 ≤ at)
    → block_at (put_block s at block) other ≡ block_at s other
other_block s at other block h g apart =
    let long = block_long (put_block s at block) other (omega (arith, put_long s at block)) in
    ext_get_or 0 (block_at (put_block s at block) other) (block_at s other) (long ∙ sym (block_long s other g)) (λ j l.
    let l' : j < 16 = omega (arith, long) in
    block_get (put_block s at block) other j l' ∙ put_outside s at block (other + j)
    (λ w. ⊎_elim (λ a. omega (arith, w.0, w.1)) (λ a. omega (arith, w.0, w.1)) apart)
    ∙ sym (block_get s other j l'))

-- a block stored where it stands
pub put_same : (s : List ℕ) (at : ℕ) → at + 16 ≤ length s → put_block s at (block_at s at) ≡ s
put_same s at h =
    ext_get_or 0 (put_block s at (block_at s at)) s (put_long s at (block_at s at)) (λ k l.
    ⊎_elim (λ p. put_outside s at (block_at s at) k (λ w. omega (arith, w.0)))
    (λ p. ⊎_elim (λ q. stored_again k p q) (λ q. put_outside s at (block_at s at) k (λ w. omega (arith, w.1))) (lt_or k (at + 16))) (lt_or k at))
  where
    stored_again : (k : ℕ) → at ≤ k → k < at + 16 → get_or (put_block s at (block_at s at)) k 0 ≡ get_or s k 0
    stored_again k p q =
        let e : at + (k - at) ≡ k = omega arith in
        ap (λ (m : ℕ). get_or (put_block s at (block_at s at)) m 0) (sym e) ∙ put_inside s at (block_at s at) (k - at) h (omega arith)
        ∙ block_get s at (k - at) (omega arith) ∙ ap (λ (m : ℕ). get_or s m 0) e
