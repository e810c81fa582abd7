-- Refusal 3 by the 26 values of a replacement and the widths that are read.
-- Assumes nothing.
use mathlib.Core.Path.{◌≡◌, refl, ap, subst}
use mathlib.Core.Logic.{◌↔◌, ⊎_elim}
use mathlib.Core.Bool.{Bool, true, false, not}
use mathlib.Core.List.{List, [], ◌∷◌}
use Prim.Native.Nat.{ℕ, ◌+◌, ◌-◌, ◌*◌, ◌/◌, ◌%◌, ◌^◌, ◌<◌, ◌≤◌}
use native.Mathlib.Nat.{mod-lt}
use native.Mathlib.Omega.{arith}
use borrow.Author.Tests.{le-ltb, lt-ltb, ltb-false, not-true}
use lib.Dec.{eqb, ltb, ltb→lt, lit<}
use lib.ListN.{get_or}
use Rattle.line_rules.specs.declared.Replacement.{Replacement}
use Rattle.line_rules.specs.declared.LineRead.{LineRead}
use Rattle.refusals.specs.Answers.{Answer}
use Rattle.bc7_format.specs.declared.Split.{Split}
use Rattle.laws.specs.Refusals.{first, refuse}
use Rattle.laws.specs.Tables.{below, both}
use Rattle.laws.proofs.Cases.{lt_or}
use Rattle.laws.proofs.Scan.{scan_found}
use Rattle.laws.proofs.Tests.{at, no_both, not_so, true_T}
use Rattle.bc7_format.specs.Modes.{mode_of, lines}
use Rattle.bc7_format.specs.Lines.{Line}
use Rattle.bc7_format.specs.Splits.{split_of}
use Rattle.line_rules.specs.Acceptable.{WithinLine}
use Rattle.line_rules.specs.Read.{TooWide, given_as, line_read, read_refusal, value_at, widths_of}
use Rattle.line_rules.specs.Replace.{call_of, line_fits, line_given, refusal, refusal_in}
use Rattle.line_rules.proofs.Accepting.{fits_within, within_fits}
use Rattle.line_rules.proofs.Reading.{given_line, read_is}

-- the 26 values of a replacement, and the line that it gives
at_endpoint : (g : Replacement) (k ch : ℕ) → k < 2 → ch < 4 → value_at g (4 * k + ch) ≡ (line_given g).value k ch
unfolding value_at line_given
at_endpoint g k ch hk hc = rw (lt-ltb (4 * k + ch) 8 (omega arith))

at_p : (g : Replacement) (k : ℕ) → k < 2 → value_at g (8 + k) ≡ (line_given g).p k
unfolding value_at line_given
at_p g k hk =
    rw (le-ltb (8 + k) 8 (omega arith), lt-ltb (8 + k) 10 (omega arith)) (ap (λ (j : ℕ). get_or g.p j 0) (let z : 8 + k - 8 ≡ k = omega arith in z))

at_index : (g : Replacement) (q : ℕ) → value_at g (10 + q) ≡ (line_given g).index q
unfolding value_at line_given
at_index g q =
    rw (le-ltb (10 + q) 8 (omega arith), le-ltb (10 + q) 10 (omega arith))
    (ap (λ (j : ℕ). get_or g.indexes j 0) (let z : 10 + q - 10 ≡ q = omega arith in z))

module _ (m : ℕ) (s : Split) (l : ℕ) (g : Replacement) where
  abbrev ws : Replacement
  ws = given_as (widths_of m s l)

  Narrow : ℕ → Type 0
  Narrow i = value_at g i < 2 ^ value_at ws i

  -- each of the 26 is within its width exactly where the line is
  by_values : ((i : ℕ) → i < 26 → Narrow i) → WithinLine m s l (line_given g)
  unfolding Narrow widths_of
  by_values t = record {
    value =
        λ k ch hk hc. rw (at_endpoint g k ch hk hc, at_endpoint ws k ch hk hc, (given_line (widths_of m s l)).value k ch hk hc) at
        (t (4 * k + ch) (omega arith));
    p = λ k hk. rw (at_p g k hk, at_p ws k hk, (given_line (widths_of m s l)).p k hk) at (t (8 + k) (omega arith));
    index = λ q hq. rw (at_index g q, at_index ws q, (given_line (widths_of m s l)).index q hq) at (t (10 + q) (omega arith));
  }

  by_line : WithinLine m s l (line_given g) → (i : ℕ) → i < 26 → Narrow i
  unfolding Narrow widths_of
  by_line w i h = ⊎_elim endpoint (λ a. ⊎_elim (p a) index (lt_or i 10)) (lt_or i 8)
    where
      endpoint : i < 8 → Narrow i
      endpoint a =
          let hk : i / 4 < 2 = omega arith in
          let hc : i % 4 < 4 = mod-lt i (lit< tt) in
          subst Narrow (let z : 4 * (i / 4) + i % 4 ≡ i = omega arith in z)
          (rw (at_endpoint g (i / 4) (i % 4) hk hc, at_endpoint ws (i / 4) (i % 4) hk hc, (given_line (widths_of m s l)).value (i / 4) (i % 4) hk hc)
          (w.value (i / 4) (i % 4) hk hc))

      p : 8 ≤ i → i < 10 → Narrow i
      p a b =
          let hk : i - 8 < 2 = omega arith in
          subst Narrow (let z : 8 + (i - 8) ≡ i = omega arith in z)
          (rw (at_p g (i - 8) hk, at_p ws (i - 8) hk, (given_line (widths_of m s l)).p (i - 8) hk) (w.p (i - 8) hk))

      index : 10 ≤ i → Narrow i
      index a =
          let hq : i - 10 < 16 = omega arith in
          subst Narrow (let z : 10 + (i - 10) ≡ i = omega arith in z)
          (rw (at_index g (i - 10), at_index ws (i - 10), (given_line (widths_of m s l)).index (i - 10) hq) (w.index (i - 10) hq))

  narrow : ℕ → Bool
  narrow i = ltb (value_at g i) (2 ^ value_at ws i)

  unfit_wide : line_fits m s l (line_given g) ≡ false → TooWide g ws
  unfolding Narrow narrow
  unfit_wide e = go (below 26 narrow) refl
    where
      go : (b : Bool) → below 26 narrow ≡ b → TooWide g ws
      go true t = absurd (no_both (within_fits m s l (line_given g) (by_values (λ i h. ltb→lt _ _ (at 26 narrow (true_T _ t) i h)))) e)
      go false t = let (k, (h, n)) = scan_found 26 narrow t in record { at = k; below = h; wide = ltb-false _ _ n }

  wide_unfit : TooWide g ws → line_fits m s l (line_given g) ≡ false
  unfolding Narrow
  wide_unfit t = not_so _ (λ e. let n = by_line (fits_within m s l (line_given g) e) t.at t.below in let y : ⊥ = omega (arith, n, t.wide) in y)

-- of refusals in order, the third
third : (a b c d : Bool) → first (refuse 1 a ∷ refuse 2 b ∷ refuse 3 c ∷ refuse 4 d ∷ []) ≡ 3
    → (first (refuse 1 a ∷ refuse 2 b ∷ []) ≡ 0) × (c ≡ true)
unfolding first
third true b c d e = absurd (let y : ⊥ = omega arith in y)
third false true c d e = absurd (let y : ⊥ = omega arith in y)
third false false true d e = (refl, refl)
third false false false true e = absurd (let y : ⊥ = omega arith in y)
third false false false false e = absurd (let y : ⊥ = omega arith in y)

so_third : (a b c d : Bool) → first (refuse 1 a ∷ refuse 2 b ∷ []) ≡ 0 → c ≡ true
    → first (refuse 1 a ∷ refuse 2 b ∷ refuse 3 c ∷ refuse 4 d ∷ []) ≡ 3
unfolding first
so_third true b c d e t = absurd (let y : ⊥ = omega arith in y)
so_third false true c d e t = absurd (let y : ⊥ = omega arith in y)
so_third false false c d e t = rw t

pub refused_with_3 : (bs : List ℕ) (l : ℕ) (g : Replacement)
    → (refusal bs (call_of l g) ≡ 3) ↔ ((read_refusal bs l ≡ 0) × TooWide g (line_read bs l).value.widths)
unfolding refusal refusal_in read_refusal
refused_with_3 bs l g = (
  λ e. let t =
      third (eqb m 8) (not (ltb l (lines m))) (not (line_fits m s l ln)) differ e in
      (t.0, rw (widths t.0) (unfit_wide m s l g (not-true _ t.1))),
  λ x. so_third (eqb m 8) (not (ltb l (lines m))) (not (line_fits m s l ln)) differ x.0 (rw (wide_unfit m s l g (rw (widths x.0) at x.1))),
)
  where
    m : ℕ
    m = mode_of bs

    s : Split
    s = split_of bs

    ln : Line
    ln = line_given g

    differ : Bool
    differ = both (eqb m 1) (not (eqb (ln.p 0) (ln.p 1)))

    widths : read_refusal bs l ≡ 0 → (line_read bs l).value.widths ≡ given_as (widths_of m s l)
    widths e = ap (λ (r : Answer LineRead). r.value.widths) (read_is bs l e)
