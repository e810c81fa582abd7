-- Two neighbours among a line's places, put in at once: the pair of a channel, the p bits.
-- Assumes nothing.
use mathlib.Core.Path.{◌≡◌, sym, ap, ◌∙◌, subst}
use mathlib.Core.Logic.{◌≢◌, ◌⊎◌, ⊎_elim}
use mathlib.Core.Bool.{true, false}
use mathlib.Core.List.{[]}
use Prim.Native.Nat.{ℕ, suc, ◌+◌, ◌-◌, ◌*◌, ◌/◌, ◌%◌, ◌^◌, ◌≤◌, ◌<◌}
use native.Mathlib.Decide.{ℕ_discrete}
use native.Mathlib.Nat.{div-one, eq-or-lt_of_le, mod-eq_of_lt}
use native.Mathlib.Omega.{arith}
use lib.Arith.{lt-one}
use lib.Dec.{T}
use lib.Pow.{high, low}
use Rattle.bc7_format.specs.declared.Place.{Place}
use Rattle.bc7_format.specs.declared.Split.{Split}
use Rattle.laws.specs.Digits.{replaced_at}
use Rattle.laws.proofs.Tests.{no_both, not_so}
use Rattle.bc7_format.specs.Lines.{Line, has, laid, with_line}
use Rattle.bc7_format.specs.Places.{inside, pos, width, place_count}
use Rattle.bc7_format.specs.Splits.{anchors}
use Rattle.bc7_format.proofs.Places.{place_at_pos, pos_one}
use Rattle.bc7_format.proofs.Starts.{start, start_next}
use Rattle.line_rules.specs.Replace.{own_width}
use Rattle.line_rules.proofs.Own.{has_width, own_none, own_some}
use Rattle.line.proofs.fields.Halves.{pair_lt}
use Rattle.line.proofs.fields.Runs.{Upto, more, nothing_put, passed}

module _ (m : ℕ) (s : Split) (l : ℕ) (o : Line) (f : Place → ℕ) where
  -- what the line has for a place of its own
  pub own_laid : (x : Place) → has m s l x ≡ true → with_line m s l o f x ≡ laid m o x
  unfolding with_line
  own_laid x h = rw h

  -- two neighbours of one width, the only ones of the line from k on up to k'
  module _ (a b : Place) (k k' w : ℕ) (ia : T (inside a)) (ib : T (inside b)) (next : pos b ≡ suc (pos a)) (hk : k ≤ pos a) (hk' : pos a + 2 ≤ k')
      (h66 : k' ≤ place_count)
      (wa : own_width m s l a ≡ w) (wb : own_width m s l b ≡ w) (fa : width m (anchors s) a ≡ width m [] a) (fb : width m (anchors s) b ≡ width m [] b)
      (only : (x : Place) → T (inside x) → k ≤ pos x → pos x < k' → has m s l x ≡ true → (x ≡ a) ⊎ (x ≡ b)) where
    module _ (x y n n' : ℕ) (hx : x < 2 ^ w) (hy : y < 2 ^ w) (lx : laid m o a ≡ x) (ly : laid m o b ≡ y)
        (e : n' ≡ replaced_at n (start m s (pos a)) (2 * w) (y * 2 ^ w + x)) (u : Upto m s l o f k n) where
      none : w ≡ 0 → Upto m s l o f k' n'
      none z =
          let same : n' ≡ n = e ∙ rw (z, lt-one (rw z at hx), lt-one (rw z at hy)) (nothing_put n (start m s (pos a))) in
          rw same (passed m s l o f k' (omega arith) u (λ p i q r. not_so (has m s l p) (λ t. ⊎_elim
          (λ (c : p ≡ a). no_both (rw c at t) (own_none m s l a (wa ∙ z))) (λ (c : p ≡ b). no_both (rw c at t) (own_none m s l b (wb ∙ z)))
          (only p i q r t))))

      some : w ≢ 0 → Upto m s l o f k' n'
      some nz = more m s l o f (pos a) (pos a + 2) k' v n' hk (omega arith) hk' h66 (rw two (pair_lt w x y hx hy)) (rw two e) u holds others
        where
          v : ℕ
          v = y * 2 ^ w + x

          ha : has m s l a ≡ true
          ha = own_some m s l a (λ z. nz (sym wa ∙ z))

          hb : has m s l b ≡ true
          hb = own_some m s l b (λ z. nz (sym wb ∙ z))

          after_a : start m s (pos b) ≡ start m s (pos a) + w
          after_a =
              ap (start m s) next ∙ start_next m s (pos a) (omega arith)
              ∙ ap (λ (c : ℕ). start m s (pos a) + c) (ap (width m (anchors s)) (place_at_pos a ia) ∙ fa ∙ sym (has_width m s l a ha) ∙ wa)

          after_b : start m s (pos a + 2) ≡ start m s (pos b) + w
          after_b =
              let z : pos a + 2 ≡ suc (pos b) = omega arith in
              ap (start m s) z ∙ start_next m s (pos b) (omega arith)
              ∙ ap (λ (c : ℕ). start m s (pos b) + c) (ap (width m (anchors s)) (place_at_pos b ib) ∙ fb ∙ sym (has_width m s l b hb) ∙ wb)

          two : start m s (pos a + 2) - start m s (pos a) ≡ 2 * w
          two = omega (arith, after_a, after_b)

          at_a : v / 2 ^ (start m s (pos a) - start m s (pos a)) % 2 ^ width m (anchors s) a ≡ with_line m s l o f a
          at_a =
              let z : start m s (pos a) - start m s (pos a) ≡ 0 = omega arith in
              rw (z, fa ∙ sym (has_width m s l a ha) ∙ wa, own_laid a ha, lx) (ap (λ (c : ℕ). c % 2 ^ w) (div-one v) ∙ low y w hx)

          at_b : v / 2 ^ (start m s (pos b) - start m s (pos a)) % 2 ^ width m (anchors s) b ≡ with_line m s l o f b
          at_b =
              let z : start m s (pos b) - start m s (pos a) ≡ w = omega (arith, after_a) in
              rw (z, fb ∙ sym (has_width m s l b hb) ∙ wb, own_laid b hb, ly) (ap (λ (c : ℕ). c % 2 ^ w) (high y w hx) ∙ mod-eq_of_lt hy)

          holds : (p : Place) → T (inside p) → pos a ≤ pos p → pos p < pos a + 2
              → v / 2 ^ (start m s (pos p) - start m s (pos a)) % 2 ^ width m (anchors s) p ≡ with_line m s l o f p
          holds p i q r =
              ⊎_elim
              (λ c. subst (λ (p : Place). v / 2 ^ (start m s (pos p) - start m s (pos a)) % 2 ^ width m (anchors s) p ≡ with_line m s l o f p)
              (pos_one a p ia i c) at_a)
              (λ c. subst (λ (p : Place). v / 2 ^ (start m s (pos p) - start m s (pos a)) % 2 ^ width m (anchors s) p ≡ with_line m s l o f p)
              (pos_one b p ib i (omega arith)) at_b)
              (eq-or-lt_of_le q)

          others : (p : Place) → T (inside p) → k ≤ pos p → pos p < k' → (pos p < pos a) ⊎ (pos a + 2 ≤ pos p) → has m s l p ≡ false
          others p i q r w = not_so (has m s l p) (λ t. ⊎_elim
              (λ (c : p ≡ a). let z : pos p ≡ pos a = ap pos c in ⊎_elim {C = ⊥} (λ d. omega arith) (λ d. omega arith) w)
              (λ (c : p ≡ b). let z : pos p ≡ pos b = ap pos c in ⊎_elim {C = ⊥} (λ d. omega arith) (λ d. omega arith) w) (only p i q r t))

      pub pair_put : Upto m s l o f k' n'
      pair_put = go (ℕ_discrete w 0)
        where
          go : Dec (w ≡ 0) → Upto m s l o f k' n'
          go (yes z) = none z
          go (no n) = some n
