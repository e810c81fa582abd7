-- WHAT IS PROVED OF A CHART, in one place.
-- Assumes nothing.
use mathlib.Core.Path.{◌≡◌, refl, sym, ap, ◌∙◌, subst}
use mathlib.Core.Bool.{Bool, true, false}
use mathlib.Core.Logic.{◌↔◌, ◌≢◌, ⊎_elim}
use mathlib.Core.List.{List, [], ◌∷◌}
use Prim.Native.Nat.{ℕ, suc, ◌+◌, ◌<◌, ◌≤◌}
use native.Mathlib.Decide.{ℕ_discrete}
use native.Mathlib.Nat.{le_refl}
use native.Mathlib.Omega.{arith}
use borrow.Author.Tests.{eq-eqb, ne_eqb}
use lib.Dec.{T, eqb, eqb→eq, leb, leb→le, ltb}
use lib.ListN.{length, get_or, take}
use lib.Seq.{length-take-le, take_all}
use Rattle.std.specs.Prelude.{Option, Some, None}
use Rattle.refusals.specs.declared.Refusal.{Refusal}
use Rattle.refusals.proofs.Answers.{number_injective, number_not_0}
use Rattle.chart_rules.specs.declared.Chart.{Chart}
use Rattle.bc7_format.specs.declared.Split.{Split}
use Rattle.laws.specs.Digits.{Fit, total}
use Rattle.laws.specs.Refusals.{Given, first}
use Rattle.laws.specs.Tables.{below, both, implies}
use Rattle.laws.proofs.Cases.{lt_or}
use Rattle.laws.proofs.Part.{get_d_table}
use Rattle.laws.proofs.Refusals.{Answers, accepted_when, answer_0, answer_not_0, answers, by_eqb, by_not_eqb, exactly, none, rule}
use Rattle.laws.proofs.Tests.{at, implied}
use Rattle.bcn_format.specs.Block.{eights, field, number}
use Rattle.bc7_format.specs.Modes.{mode_of}
use Rattle.bc7_format.specs.Places.{opened, place_at, place_count, start, widths}
use Rattle.bc7_format.specs.Splits.{split_of}
use Rattle.bc7_format.proofs.Modes.{mode_le_8}
use Rattle.bc7_format.proofs.Opening.{good_kind, good_partition, opened_good}
use Rattle.bc7_format.proofs.Places.{inside_place_at, pos_place_at}
use Rattle.bc7_format.proofs.Starts.{at_field, start_next}
use Rattle.bc7_format.proofs.Subsets.{sixteen_bytes}
use Rattle.laws.specs.Text.{ascii, decimal, digits_in, refused_text}
use Rattle.chart_rules.specs.Charts.{Charted, ChartsWithin, chart, chart_refusal, chart_rules, field_text, place_text, places_text, refusal_number, text_most, wanted_bytes}
use Rattle.chart_rules.specs.Names.{name_of}
use Rattle.chart_rules.proofs.Lengths.{all_texts}
use Rattle.chart_rules.proofs.Standing.{all_passed, nothing_between, start_zero, wide}

module _ (m : ℕ) (s : Split) where
  -- WHERE FIELDS STAND. A place has a text where it has bits. The first of these starts at bit 0
  pub first_field_at_0 : (i : ℕ) → i < place_count → ((k : ℕ) → k < i → wide m s k ≡ 0) → start m s i ≡ 0
  first_field_at_0 i h z = nothing_between m s 0 i (omega arith) (omega arith) (λ k a b. z k b) ∙ start_zero m s

  -- each starts where the one before ends
  pub next_field_where_it_ends : (i j : ℕ) → i < j → j < place_count → ((k : ℕ) → i < k → k < j → wide m s k ≡ 0)
      → start m s j ≡ start m s i + wide m s i
  next_field_where_it_ends i j l h z =
      nothing_between m s (suc i) j l (omega arith) (λ k a b. z k a b) ∙ start_next m s i (omega arith)

  -- the chart goes by the list of widths alone: the first bit is the sum of those before
  pub charted_by_widths : (i : ℕ) → i < place_count → place_text m s i ≡ field_text (place_at i) (total (take i (widths m s))) (get_or (widths m s) i 0)
  unfolding start widths
  charted_by_widths i h = ap (field_text (place_at i) (start m s i)) (sym (get_d_table place_count (λ k. wide m s k) 0 i h))

-- and the last ends at 128
pub last_field_ends_at_128 : (bs : List ℕ) → Fit eights bs → mode_of bs < 8 → (i : ℕ) → i < place_count
    → ((k : ℕ) → i < k → k < place_count → wide (mode_of bs) (split_of bs) k ≡ 0)
    → start (mode_of bs) (split_of bs) i + wide (mode_of bs) (split_of bs) i ≡ 128
last_field_ends_at_128 bs sixteen low i h z =
    sym (start_next (mode_of bs) (split_of bs) i h)
    ∙ sym (nothing_between (mode_of bs) (split_of bs) (suc i) place_count h (le_refl place_count) z)
    ∙ (let g = opened_good bs sixteen low in all_passed (mode_of bs) (split_of bs) low (good_kind g) (good_partition g))

-- so many bits from there on are what the block holds at the place
pub field_stands_there : (bs : List ℕ) (i : ℕ) → i < place_count
    → field (number bs) (start (mode_of bs) (split_of bs) i) (wide (mode_of bs) (split_of bs) i) ≡ opened bs (place_at i)
unfolding field opened
field_stands_there bs i h =
    sym (at_field (mode_of bs) (split_of bs) (number bs) (place_at i) (inside_place_at i h)
    ∙ ap (λ (k : ℕ). field (number bs) (start (mode_of bs) (split_of bs) k) (wide (mode_of bs) (split_of bs) i)) (pos_place_at i h))

-- NAMES: no two places have one name, and a name is one word
same : List ℕ → List ℕ → Bool
same [] [] = true
same [] (y ∷ ys) = false
same (x ∷ xs) [] = false
same (x ∷ xs) (y ∷ ys) = both (eqb x y) (same xs ys)

same_self : (xs : List ℕ) → T (same xs xs)
unfolding same
same_self [] = tt
same_self (x ∷ xs) = subst (λ (b : Bool). T (both b (same xs xs))) (sym (eq-eqb x x refl)) (same_self xs)

name : ℕ → List ℕ
name i = name_of (place_at i)

differ : T (below place_count (λ i. below place_count (λ j. implies (same (name i) (name j)) (eqb i j))))
unfolding implies same name name_of place_at ascii decimal digits_in
differ = tt

pub names_differ : (i j : ℕ) → i < place_count → j < place_count → name_of (place_at i) ≡ name_of (place_at j) → i ≡ j
unfolding name
names_differ i j hi hj e =
    eqb→eq i j (implied (same (name i) (name j)) (eqb i j)
    (at place_count (λ j. implies (same (name i) (name j)) (eqb i j))
    (at place_count (λ i. below place_count (λ j. implies (same (name i) (name j)) (eqb i j))) differ i hi) j hj)
    (subst (λ (n : List ℕ). T (same (name i) n)) e (same_self (name i))))

-- a byte above the space
abbrev pub letters : List ℕ → Bool
letters [] = true
letters (b ∷ bs) = both (ltb 32 b) (letters bs)

pub names_are_words : (i : ℕ) → i < place_count → T (letters (name_of (place_at i)))
unfolding name_of place_at ascii decimal digits_in
names_are_words i h = at place_count (λ i. letters (name_of (place_at i))) tt i h

-- REFUSALS, exactly when
chart_answers : (bs : List ℕ) → Answers (chart_refusal bs) (chart_rules bs)
unfolding chart_refusal
chart_answers bs = answers (rule (by_not_eqb tt (length bs) 16) (λ l. rule (by_eqb tt (mode_of bs) 8) (λ o. none)))

pub chart_refused_when : (bs : List ℕ) (n : ℕ) → (chart_refusal bs ≡ n) ↔ Given (chart_rules bs) n
chart_refused_when bs = exactly (chart_answers bs)

-- a refused input prints its number and nothing else
pub refused_prints_only : (bs : List ℕ) (n : ℕ) → chart_refusal bs ≡ suc n → chart bs ≡ refused_text (suc n)
unfolding chart
refused_prints_only bs n e = answer_not_0 _ _ e ∙ ap refused_text e

pub accepted_prints : (bs : List ℕ) → chart_refusal bs ≡ 0 → chart bs ≡ places_text (mode_of bs) (split_of bs) place_count
unfolding chart
accepted_prints bs e = answer_0 _ _ e

-- THE WANTED BYTES TELL: what comes behind them changes nothing
pub not_sixteen : (bs : List ℕ) → length bs ≢ 16 → chart_refusal bs ≡ 10
unfolding chart_refusal first
not_sixteen bs n = rw (ne_eqb (length bs) 16 n)

pub wanted_bytes_tell : (s : List ℕ) → chart (take wanted_bytes s) ≡ chart s
wanted_bytes_tell s =
    ⊎_elim
    (λ long. refused_prints_only (take wanted_bytes s) 9
    (not_sixteen (take wanted_bytes s) (λ e. let k = length-take-le wanted_bytes s (omega arith) in let q : ⊥ = omega arith in q))
    ∙ sym (refused_prints_only s 9 (not_sixteen s (λ e. let q : ⊥ = omega arith in q))))
    (λ short. ap chart (take_all wanted_bytes s short))
    (lt_or wanted_bytes (length s))

-- HOW LONG: no chart has more than 587 bytes
reserved : (bs : List ℕ) → length bs ≡ 16 → mode_of bs ≡ 8 → chart_refusal bs ≡ 1
unfolding chart_refusal first
reserved bs l m = rw (eq-eqb (length bs) 16 l, eq-eqb (mode_of bs) 8 m)

refused_short : (bs : List ℕ) (n : ℕ) → chart_refusal bs ≡ suc n → T (leb (length (refused_text (suc n))) text_most) → length (chart bs) ≤ text_most
refused_short bs n e t = rw (refused_prints_only bs n e) (leb→le (length (refused_text (suc n))) text_most t)

pub chart_at_most : (bs : List ℕ) → ((i : ℕ) → get_or bs i 0 < 256) → length (chart bs) ≤ text_most
unfolding refused_text ascii decimal digits_in
chart_at_most bs bytes = go (ℕ_discrete (length bs) 16) (ℕ_discrete (mode_of bs) 8)
  where
    go : Dec (length bs ≡ 16) → Dec (mode_of bs ≡ 8) → length (chart bs) ≤ text_most
    go (no n) m = refused_short bs 9 (not_sixteen bs n) tt
    go (yes l) (yes m) = refused_short bs 0 (reserved bs l m) tt
    go (yes l) (no n) =
        let low : mode_of bs < 8 = omega (arith, n, mode_le_8 bs) in
        let g = opened_good bs (sixteen_bytes bs l (λ i h. bytes i)) low in
        rw (accepted_prints bs ((accepted_when (chart_answers bs)).1 (l, (n, tt))))
        (all_texts (mode_of bs) (split_of bs) low (good_kind g) (good_partition g))

-- any two answers that the promise admits coincide: a refusal has a number of its own, which isn't 0
refusal_fixed : (a b : Option Refusal) → refusal_number a ≡ refusal_number b → a ≡ b
refusal_fixed None None e = refl
refusal_fixed None (Some q) e = absurd (number_not_0 q (sym e))
refusal_fixed (Some r) None e = absurd (number_not_0 r e)
refusal_fixed (Some r) (Some q) e = ap Some (number_injective e)

pub determined_chart : (bs : List ℕ) (a b : Chart) → ChartsWithin bs a → ChartsWithin bs b → a ≡ b
determined_chart bs a b p q =
    let e = p.is ∙ sym q.is in
    let refusal = refusal_fixed a.refusal b.refusal (ap (λ (c : Charted). c.refusal) e) in
    λ j. record { refusal = refusal j; length = (e j).length; text = (e j).text }
