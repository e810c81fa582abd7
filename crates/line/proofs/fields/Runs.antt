-- A run of places put into a number: what stands at every place then, and a line put in run by run, in stored order.
-- Assumes nothing.
use mathlib.Core.Path.{◌≡◌, sym, ap, ◌∙◌}
use mathlib.Core.Logic.{◌⊎◌, inl, inr, ⊎_elim}
use mathlib.Core.Bool.{false}
use Prim.Native.Nat.{ℕ, ◌+◌, ◌-◌, ◌*◌, ◌/◌, ◌%◌, ◌^◌, ◌≤◌, ◌<◌}
use native.Mathlib.Nat.{le_trans}
use native.Mathlib.Omega.{arith}
use lib.Dec.{T}
use lib.Pow.{split}
use Rattle.bc7_format.specs.declared.Place.{Place}
use Rattle.bc7_format.specs.declared.Split.{Split}
use Rattle.laws.specs.Digits.{replaced_at}
use Rattle.laws.proofs.Cases.{lt_or}
use Rattle.laws.proofs.Replacing.{is_inside, stays_above, stays_below}
use Rattle.bc7_format.specs.Lines.{Line, has, with_line}
use Rattle.bc7_format.specs.Places.{at_place, inside, pos, width, place_count}
use Rattle.bc7_format.specs.Splits.{anchors}
use Rattle.bc7_format.proofs.Places.{place_at_pos, pos_lt}
use Rattle.bc7_format.proofs.Starts.{at_field, start, start_le, start_room}

module _ (m : ℕ) (s : Split) where
  abbrev wide : Place → ℕ
  wide x = width m (anchors s) x

  -- where a place ends
  room : (x : Place) (j : ℕ) → T (inside x) → pos x < j → j ≤ place_count → start m s (pos x) + wide x ≤ start m s j
  room x j h l k = rw (place_at_pos x h) at (start_room m s (pos x) j l k)

  -- the places from i on, up to j, hold the value v
  module _ (n i j v : ℕ) (ij : i ≤ j) (hj : j ≤ place_count) (hv : v < 2 ^ (start m s j - start m s i)) where
    abbrev run : ℕ
    run = replaced_at n (start m s i) (start m s j - start m s i) v

    ends : start m s i + (start m s j - start m s i) ≡ start m s j
    ends = omega (arith, start_le m s i j ij hj)

    out_of_run : (x : Place) → T (inside x) → (pos x < i) ⊎ (j ≤ pos x) → at_place m s run x ≡ at_place m s n x
    out_of_run x h w = at_field m s run x h ∙ ⊎_elim lower upper w ∙ sym (at_field m s n x h)
      where
        lower : pos x < i → run / 2 ^ start m s (pos x) % 2 ^ wide x ≡ n / 2 ^ start m s (pos x) % 2 ^ wide x
        lower l = stays_below n (start m s i) (start m s j - start m s i) v hv (start m s (pos x)) (wide x) (room x i h l (le_trans ij hj))

        upper : j ≤ pos x → run / 2 ^ start m s (pos x) % 2 ^ wide x ≡ n / 2 ^ start m s (pos x) % 2 ^ wide x
        upper l =
            stays_above n (start m s i) (start m s j - start m s i) v hv (start m s (pos x)) (wide x)
            (rw ends (start_le m s j (pos x) l (omega (arith, pos_lt x h))))

    in_run : (x : Place) → T (inside x) → i ≤ pos x → pos x < j → at_place m s run x ≡ v / 2 ^ (start m s (pos x) - start m s i) % 2 ^ wide x
    in_run x h l k =
        let d : ℕ = start m s (pos x) - start m s i in
        let e : start m s i + d ≡ start m s (pos x) = omega (arith, start_le m s i (pos x) l (omega arith)) in
        at_field m s run x h
        ∙
        (rw e at (is_inside n (start m s i) (start m s j - start m s i) v hv d (wide x)
        (omega (arith, room x j h k hj, start_le m s i (pos x) l (omega arith)))))

-- no bits put
pub nothing_put : (n a : ℕ) → replaced_at n a 0 0 ≡ n
unfolding replaced_at
nothing_put n a =
    let e : a + 0 ≡ a = omega arith in rw e
    (ap (λ (x : ℕ). n / 2 ^ a * 2 ^ a + x) (let z : 0 * 2 ^ a + n % 2 ^ a ≡ n % 2 ^ a = omega arith in z) ∙ split n a)

-- the places below k have the line o, and the others have what f says
pub record Upto (m : ℕ) (s : Split) (l : ℕ) (o : Line) (f : Place → ℕ) (k n : ℕ) : Type 0 where
  pub done : (x : Place) → T (inside x) → pos x < k → at_place m s n x ≡ with_line m s l o f x
  pub rest : (x : Place) → T (inside x) → k ≤ pos x → at_place m s n x ≡ f x

module _ (m : ℕ) (s : Split) (l : ℕ) (o : Line) (f : Place → ℕ) where
  not_own : (x : Place) → has m s l x ≡ false → f x ≡ with_line m s l o f x
  unfolding with_line
  not_own x h = sym (rw h)

  pub begin : (n : ℕ) → ((x : Place) → T (inside x) → at_place m s n x ≡ f x) → Upto m s l o f 0 n
  begin n e = record { done = λ x h p. absurd (let y : ⊥ = omega arith in y); rest = λ x h p. e x h }

  -- places that aren't the line's are passed over
  pub passed : {k n : ℕ} (k' : ℕ) → k ≤ k' → Upto m s l o f k n → ((x : Place) → T (inside x) → k ≤ pos x → pos x < k' → has m s l x ≡ false)
      → Upto m s l o f k' n
  passed {k} {n} k' hk u none = record {
    done = λ x h p. ⊎_elim (u.done x h) (λ q. u.rest x h q ∙ not_own x (none x h q p)) (lt_or (pos x) k);
    rest = λ x h p. u.rest x h (le_trans hk p);
  }

  -- and a run of the line's is put in
  pub more : {k n : ℕ} (i j k' v n' : ℕ) → k ≤ i → i ≤ j → j ≤ k' → k' ≤ place_count → v < 2 ^ (start m s j - start m s i)
      → n' ≡ replaced_at n (start m s i) (start m s j - start m s i) v
      → Upto m s l o f k n
      → ((x : Place) → T (inside x) → i ≤ pos x → pos x < j → v / 2 ^ (start m s (pos x) - start m s i) % 2 ^ width m (anchors s) x
      ≡ with_line m s l o f x)
      → ((x : Place) → T (inside x) → k ≤ pos x → pos x < k' → (pos x < i) ⊎ (j ≤ pos x) → has m s l x ≡ false)
      → Upto m s l o f k' n'
  more {k} {n} i j k' v n' hi hj hk h66 hv e u own none = record { done = done'; rest = rest' }
    where
      out : (x : Place) → T (inside x) → (pos x < i) ⊎ (j ≤ pos x) → at_place m s n' x ≡ at_place m s n x
      out x h w = ap (λ (y : ℕ). at_place m s y x) e ∙ out_of_run m s n i j v hj (le_trans hk h66) hv x h w

      rest' : (x : Place) → T (inside x) → k' ≤ pos x → at_place m s n' x ≡ f x
      rest' x h p = out x h (inr (omega arith)) ∙ u.rest x h (omega arith)

      outside : (x : Place) → T (inside x) → pos x < k' → (pos x < i) ⊎ (j ≤ pos x) → at_place m s n' x ≡ with_line m s l o f x
      outside x h p w = out x h w ∙ ⊎_elim (u.done x h) (λ q. u.rest x h q ∙ not_own x (none x h q p w)) (lt_or (pos x) k)

      done' : (x : Place) → T (inside x) → pos x < k' → at_place m s n' x ≡ with_line m s l o f x
      done' x h p =
          ⊎_elim (λ q. outside x h p (inl q))
          (λ q. ⊎_elim (λ r. ap (λ (y : ℕ). at_place m s y x) e ∙ in_run m s n i j v hj (le_trans hk h66) hv x h q r ∙ own x h q r)
          (λ r. outside x h p (inr r)) (lt_or (pos x) j))
          (lt_or (pos x) i)
