-- The zeros taken out at the anchors, the highest first, leave the indexes at their stored widths.
-- Assumes nothing.
use mathlib.Core.Path.{◌≡◌, refl, sym, ap, ap₂, ◌∙◌, subst}
use mathlib.Core.Logic.{◌≢◌}
use mathlib.Core.List.{List, [], ◌∷◌}
use Prim.Native.Nat.{ℕ, zero, suc, ◌+◌, ◌-◌, ◌*◌, ◌/◌, ◌%◌, ◌^◌, ◌<◌}
use native.Mathlib.Omega.{arith}
use lib.Pow.{shl_exact, shr_lt, shr-shr}
use Rattle.laws.specs.Digits.{Fit, inserted, join, removed, split, total}
use Rattle.laws.proofs.Digits.{join_lt, join_split, split_join}
use Rattle.laws.proofs.Masks.{removed_inserted}
use Rattle.laws.proofs.Words.{one_shl}
use Rattle.bcn_format.specs.Indexes.{Rising, anchor_count, anchors_with, expanded, index_widths}
use Rattle.bcn_format.proofs.Expanding.{one_anchor, size_1, size_2, size_3, size_none, three_anchors, two_anchors}

-- what is above the bit
above_lt : (n p : ℕ) → p < 64 → n < 2 ^ 64 → n / 2 ^ (p + 1) < 2 ^ (63 - p)
above_lt n p hp hn = let e : 63 - p + (p + 1) ≡ 64 = omega arith in shr_lt (63 - p) (p + 1) (rw e hn)

-- the machine's form
pub remove_machine : (n p : ℕ) → p < 64 → n < 2 ^ 64 → (n / 2 ^ p / 2 ^ 1 * 2 ^ p) % 2 ^ 64 + n % ((1 * 2 ^ p) % 2 ^ 64) ≡ removed n p
unfolding removed
remove_machine n p hp hn =
    ap₂ (λ (x y : ℕ). x + n % y)
    (ap (λ (x : ℕ). (x * 2 ^ p) % 2 ^ 64) (shr-shr n p 1) ∙ shl_exact (63 - p) p 64 (above_lt n p hp hn) (omega arith))
    (one_shl p hp)

-- the kinds that have pixel 0 alone
pub no_fixups : (k p q : ℕ) → k ≢ 1 → k ≢ 2 → anchors_with k p q ≡ 0 ∷ []
no_fixups zero p q a b = refl
no_fixups (suc zero) p q a b = absurd (a refl)
no_fixups (suc (suc zero)) p q a b = absurd (b refl)
no_fixups (suc (suc (suc k))) p q a b = refl

-- how many bits the stored indexes have
pub size_with : (k w p q : ℕ) → 0 < w → Rising k p q → total (index_widths w (anchors_with k p q)) ≡ 16 * w - anchor_count k
size_with zero w p q hw r = size_1 w hw
size_with (suc zero) w p q hw r = let h = r.two refl in size_2 w p hw h.above h.pixel
size_with (suc (suc zero)) w p q hw r = let h = r.three refl in size_3 w p q hw h.above h.rising h.pixel
size_with (suc (suc (suc k))) w p q hw r = size_1 w hw

-- indexes that fit their stored widths: stored and expanded they are as before
module _ (w n : ℕ) (hw : 0 < w) (hn : n < 2 ^ (16 * w)) where
  abbrev pub stored : List ℕ → ℕ
  stored an = join (index_widths w an) (split (index_widths w []) n)

  abbrev Fits : List ℕ → Type 0
  Fits an = Fit (index_widths w an) (split (index_widths w []) n)

  again : (an : List ℕ) → Fits an → expanded w an (stored an) ≡ n
  unfolding expanded
  again an f = ap (join (index_widths w [])) (split_join f) ∙ join_split (index_widths w []) n (rw (size_none w) hn)

  short : (an : List ℕ) (t : ℕ) → Fits an → total (index_widths w an) ≡ t → stored an < 2 ^ t
  short an t f e = rw e at (join_lt f)

  abbrev top : ℕ → ℕ
  top i = i * w + (w - 1)

  one : {b : ℕ} → Fits (0 ∷ []) → b ≡ removed n (top 0) → b ≡ stored (0 ∷ [])
  one f eb =
      let m : ℕ = stored (0 ∷ []) in
      let e : inserted m (top 0) ≡ n = one_anchor w hw m 0 _ (omega arith) (short _ _ f (size_1 w hw)) refl ∙ again (0 ∷ []) f in
      eb ∙ ap (λ (x : ℕ). removed x (top 0)) (sym e) ∙ removed_inserted m (top 0)

  two : {p a b : ℕ} → 0 < p → p < 16 → Fits (0 ∷ p ∷ []) → a ≡ removed n (top p) → b ≡ removed a (top 0) → b ≡ stored (0 ∷ p ∷ [])
  two {p} h0 hp f ea eb =
      let m : ℕ = stored (0 ∷ p ∷ []) in
      let m1 : ℕ = inserted m (top 0) in
      let e : inserted m1 (top p) ≡ n = two_anchors w hw m 0 p m1 _ h0 hp (short _ _ f (size_2 w p hw h0 hp)) refl refl ∙ again (0 ∷ p ∷ []) f in
      eb ∙ ap (λ (x : ℕ). removed x (top 0)) (ea ∙ ap (λ (x : ℕ). removed x (top p)) (sym e) ∙ removed_inserted m1 (top p))
      ∙ removed_inserted m (top 0)

  three : {p q a b c : ℕ} → 0 < p → p < q → q < 16 → Fits (0 ∷ p ∷ q ∷ []) → a ≡ removed n (top q) → b ≡ removed a (top p) → c ≡ removed b (top 0)
      → c ≡ stored (0 ∷ p ∷ q ∷ [])
  three {p} {q} h0 hp hq f ea eb ec =
      let m : ℕ = stored (0 ∷ p ∷ q ∷ []) in
      let m1 : ℕ = inserted m (top 0) in
      let m2 : ℕ = inserted m1 (top p) in
      let e : inserted m2 (top q) ≡ n = three_anchors w hw m p q m1 m2 _ h0 hp hq (short _ _ f (size_3 w p q hw h0 hp hq)) refl refl refl
      ∙ again (0 ∷ p ∷ q ∷ []) f in
      ec ∙ ap (λ (x : ℕ). removed x (top 0))
      (eb ∙ ap (λ (x : ℕ). removed x (top p)) (ea ∙ ap (λ (x : ℕ). removed x (top q)) (sym e) ∙ removed_inserted m2 (top q))
      ∙ removed_inserted m1 (top p))
      ∙ removed_inserted m (top 0)

  -- by the number of fix-ups
  module _ {k p q : ℕ} (rise : Rising k p q) (f : Fits (anchors_with k p q)) where
    pub store_1 : {b : ℕ} → k ≢ 1 → k ≢ 2 → b ≡ removed n (top 0) → b ≡ stored (anchors_with k p q)
    store_1 d1 d2 eb = let e = no_fixups k p q d1 d2 in one (subst Fits e f) eb ∙ ap stored (sym e)

    pub store_2 : {a b : ℕ} → k ≡ 1 → a ≡ removed n (top p) → b ≡ removed a (top 0) → b ≡ stored (anchors_with k p q)
    store_2 e ea eb =
        let h = rise.two e in
        let an : anchors_with k p q ≡ 0 ∷ p ∷ [] = ap (λ (k : ℕ). anchors_with k p q) e in
        two h.above h.pixel (subst Fits an f) ea eb ∙ ap stored (sym an)

    pub store_3 : {a b c : ℕ} → k ≡ 2 → a ≡ removed n (top q) → b ≡ removed a (top p) → c ≡ removed b (top 0) → c ≡ stored (anchors_with k p q)
    store_3 e ea eb ec =
        let h = rise.three e in
        let an : anchors_with k p q ≡ 0 ∷ p ∷ q ∷ [] = ap (λ (k : ℕ). anchors_with k p q) e in
        three h.above h.rising h.pixel (subst Fits an f) ea eb ec ∙ ap stored (sym an)
