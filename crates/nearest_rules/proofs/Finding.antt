-- Which calls are refused.
-- Assumes nothing.
use mathlib.Core.Path.{◌≡◌, refl, sym, ap, ◌∙◌}
use mathlib.Core.Bool.{Bool, true, false, not}
use mathlib.Core.List.{List}
use Prim.Native.Nat.{ℕ, ◌<◌}
use native.Mathlib.Omega.{arith}
use borrow.Author.Tests.{eq-eqb, eqb-true, lt-ltb, ltb-false, ltb-true}
use lib.Dec.{eqb, ltb}
use Rattle.bc7_format.specs.declared.Split.{Split}
use Rattle.laws.specs.Digits.{Fit}
use Rattle.laws.specs.Refusals.{refuse}
use Rattle.laws.specs.Tables.{pick}
use Rattle.laws.proofs.Refusals.{Answers, Decided, answers, by_not, none, rule, rules}
use Rattle.laws.proofs.Tests.{both_true}
use Rattle.bcn_format.specs.Block.{eights}
use Rattle.bc7_format.specs.Splits.{is_vector, split_of, subset}
use Rattle.line_rules.proofs.Reading.{read_answers}
use Rattle.nearest_rules.specs.Nearest.{Hit, InLine, distance, exact_refusal, exact_rules, in_line, index_count, nearest_refusal, nearest_rules}
use Rattle.nearest_rules.specs.Nearest.{zero_at}
use Rattle.nearest_rules.proofs.Least.{zero_at_is}

-- the test of a pixel says what its words say
in_line_is : (s : Split) (l q : ℕ) → in_line s l q ≡ true → InLine s l q
unfolding in_line
in_line_is s l q e =
    let (a, b) = both_true (ltb q 16) _ e in
    let own : is_vector s ≡ false → subset s q ≡ l =
    λ f. eqb-true (subset s q) l (sym (ap (λ (v : Bool). pick v true (eqb (subset s q) l)) f) ∙ b) in
    record { pixel = ltb-true q 16 a; own = own }

in_line_so : (s : Split) (l q : ℕ) → InLine s l q → in_line s l q ≡ true
unfolding in_line
in_line_so s l q h = rw (lt-ltb q 16 h.pixel) (go (is_vector s) refl)
  where
    go : (b : Bool) → is_vector s ≡ b → pick b true (eqb (subset s q) l) ≡ true
    go true e = refl
    go false e = eq-eqb (subset s q) l (h.own e)

pub by_in_line : (s : Split) (l q : ℕ) → Decided (refuse 13 (not (in_line s l q))) 13 (InLine s l q)
by_in_line s l q = by_not tt (in_line s l q) (in_line_is s l q) (in_line_so s l q)

pub nearest_answers : (bs : List ℕ) → Fit eights bs → (l q : ℕ) → Answers (nearest_refusal bs l q) (nearest_rules bs l q)
unfolding nearest_refusal
nearest_answers bs sixteen l q =
    answers (rules (read_answers bs sixteen l) λ m. rule (by_in_line (split_of bs) l q) λ i. none)

-- a zero below the count
hit_is : (bs : List ℕ) (l q : ℕ) (wanted : List ℕ) → zero_at (index_count bs l) (distance bs l q wanted) < index_count bs l → Hit bs l q wanted
hit_is bs l q wanted h = record { index = _; below = h; hits = (zero_at_is (index_count bs l) (distance bs l q wanted)).zero_there h }

hit_so : (bs : List ℕ) (l q : ℕ) (wanted : List ℕ) → Hit bs l q wanted → zero_at (index_count bs l) (distance bs l q wanted) < index_count bs l
hit_so bs l q wanted h = go (ltb (zero_at n d) n) refl
  where
    n : ℕ
    n = index_count bs l

    d : ℕ → ℕ
    d = distance bs l q wanted

    go : (b : Bool) → ltb (zero_at n d) n ≡ b → zero_at n d < n
    go true e = ltb-true (zero_at n d) n e
    go false e = absurd ((zero_at_is n d).none_before h.index (omega (arith, h.below, ltb-false (zero_at n d) n e)) h.hits)

pub exact_answers : (bs : List ℕ) → Fit eights bs → (l q : ℕ) (wanted : List ℕ) → Answers (exact_refusal bs l q wanted) (exact_rules bs l q wanted)
unfolding exact_refusal
exact_answers bs sixteen l q wanted =
    answers (rules (nearest_answers bs sixteen l q) λ m. rule
    (by_not tt (ltb (zero_at (index_count bs l) (distance bs l q wanted)) (index_count bs l))
    (λ e. hit_is bs l q wanted (ltb-true _ _ e)) (λ h. lt-ltb _ _ (hit_so bs l q wanted h)))
    λ h. none)
