-- How long a chart is at the most.
-- Assumes nothing.
use mathlib.Core.Path.{◌≡◌, refl, sym, ap}
use mathlib.Core.Bool.{Bool, true, false}
use mathlib.Core.Logic.{⊎_elim}
use mathlib.Core.List.{[], ◌∷◌, ◌++◌}
use Prim.Native.Nat.{ℕ, zero, suc, ◌+◌, ◌^◌, ◌<◌, ◌≤◌}
use native.Mathlib.Decide.{le_ind}
use native.Mathlib.Nat.{le_refl}
use native.Mathlib.Omega.{arith}
use borrow.Author.Tests.{eq-eqb, eqb-true}
use lib.Dec.{T, eqb, leb, leb→le, ltb, lt→ltb}
use lib.ListN.{length, length-append}
use Rattle.bc7_format.specs.declared.Place.{Place}
use Rattle.bc7_format.specs.declared.Split.{Split}
use Rattle.bc7_format.specs.declared.Split.TheVariants.{Whole, Two, Three, Vector}
use Rattle.laws.specs.Tables.{below, implies, pick, table, table_from}
use Rattle.laws.proofs.Cases.{lt_or}
use Rattle.laws.proofs.Tests.{at, eqb_of, implied}
use Rattle.bc7_format.specs.Modes.{endpoint_count, kind_of_mode, mode_row, partition_bits}
use Rattle.bc7_format.specs.Places.{place_at, place_count, start, width, widths}
use Rattle.bc7_format.specs.Splits.{anchors, kind_of, partition}
use Rattle.bc7_format.proofs.Places.{width_le}
use Rattle.laws.specs.Text.{ascii, decimal, digits_in}
use Rattle.laws.proofs.Decimal.{one_digit, three_digits, two_digits}
use Rattle.chart_rules.specs.Charts.{field_text, place_text, places_text, text_most}
use Rattle.chart_rules.specs.Names.{name_of}
use Rattle.chart_rules.proofs.Standing.{start_low, wide}

few_digits : (n : ℕ) → n < 1000 → length (decimal n) ≤ 3
few_digits n h =
    ⊎_elim (λ l. rw (one_digit n l) (omega arith))
    (λ g. ⊎_elim (λ l. rw (two_digits n g l) (omega arith)) (λ k. rw (three_digits n k h) (omega arith)) (lt_or n 100))
    (lt_or n 10)

-- a text has seven bytes at the most besides its name
text_length : (x : Place) (bit w : ℕ) → bit < 1000 → w < 10 → length (field_text x bit w) ≤ pick (eqb w 0) 0 (length (name_of x) + 7)
unfolding field_text
text_length x bit w hb hw = go (eqb w 0)
  where
    go : (t : Bool) → length (pick t [] (name_of x ++ (32 ∷ decimal bit) ++ (32 ∷ decimal w) ++ (10 ∷ []))) ≤ pick t 0 (length (name_of x) + 7)
    go true = omega arith
    go false = simp length-append (omega (arith, few_digits bit hb, ap length (one_digit w hw)))

-- room for the text of a place, whatever the anchors are
room : ℕ → ℕ → ℕ
room m i = pick (eqb (width m [] (place_at i)) 0) 0 (length (name_of (place_at i)) + 7)

narrow : (m i : ℕ) → m < 8 → i < place_count → width m [] (place_at i) ≤ 8
unfolding width place_at mode_row endpoint_count
narrow m i hm hi =
    leb→le _ 8
    (at place_count (λ i. leb (width m [] (place_at i)) 8) (at 8 (λ m. below place_count (λ i. leb (width m [] (place_at i)) 8)) tt m hm) i hi)

rooms : ℕ → ℕ → ℕ
rooms m zero = 0
rooms m (suc i) = rooms m i + room m i

fits : ℕ → Bool
fits m = implies (ltb (kind_of_mode m) 3) (leb (rooms m place_count) text_most)

all_fit : T (below 8 fits)
unfolding fits implies rooms room name_of ascii decimal digits_in width place_at mode_row endpoint_count kind_of_mode
all_fit = tt

module _ (m : ℕ) (s : Split) (low : m < 8) (kind : kind_of s ≡ kind_of_mode m) (few : partition s < 2 ^ partition_bits m) where
  place_length : (i : ℕ) → i < place_count → length (place_text m s i) ≤ room m i
  unfolding room
  place_length i h = go (eqb (width m [] (place_at i)) 0) refl
    where
      w : ℕ
      w = wide m s i

      less : w ≤ width m [] (place_at i)
      less = width_le m (anchors s) (place_at i)

      text : length (place_text m s i) ≤ pick (eqb w 0) 0 (length (name_of (place_at i)) + 7)
      text =
          let b = start_low m s low kind few i (omega arith) in
          text_length (place_at i) (start m s i) w (omega arith) (omega (arith, less, narrow m i low h))

      shorter : (t : Bool) → pick t 0 (length (name_of (place_at i)) + 7) ≤ length (name_of (place_at i)) + 7
      shorter true = omega arith
      shorter false = omega arith

      go : (t : Bool) → eqb (width m [] (place_at i)) 0 ≡ t → length (place_text m s i) ≤ pick t 0 (length (name_of (place_at i)) + 7)
      go true e =
          let z : w ≡ 0 = omega (arith, less, eqb-true (width m [] (place_at i)) 0 e) in
          let l : length (place_text m s i) ≤ 0 = rw (eq-eqb w 0 z) at text in l
      go false e = omega (arith, text, shorter (eqb w 0))

  within_rooms : (i : ℕ) → i ≤ place_count → length (places_text m s i) ≤ rooms m i
  unfolding rooms places_text
  within_rooms zero h = omega arith
  within_rooms (suc i) h = simp length-append (omega (arith, within_rooms i (omega arith), place_length i h))

  -- the modes without a second set of indexes: room enough for any anchors
  unsplit : kind_of_mode m < 3 → length (places_text m s place_count) ≤ text_most
  unfolding fits
  unsplit h = omega (
    arith,
    within_rooms place_count (le_refl place_count),
    leb→le (rooms m place_count) text_most
        (implied (ltb (kind_of_mode m) 3) _ (at 8 fits all_fit m low) (lt→ltb (kind_of_mode m) 3 h)),
  )

-- the two with one, whose only anchor is pixel 0: text by text
sets : ℕ → ℕ → ℕ → Bool
sets r i m = implies (eqb (kind_of_mode m) 3) (leb (length (places_text m (Vector r i) place_count)) text_most)

vector : (m r i : ℕ) → m < 8 → kind_of_mode m ≡ 3 → length (places_text m (Vector r i) place_count) ≤ text_most
unfolding sets implies places_text field_text name_of ascii decimal digits_in start widths width place_at table table_from mode_row endpoint_count kind_of_mode
vector m r i low k =
    leb→le (length (places_text m (Vector r i) place_count)) text_most
    (implied (eqb (kind_of_mode m) 3) _ (at 8 (sets r i) tt m low) (eqb_of (kind_of_mode m) 3 k))

-- more places, more text
longer : (m : ℕ) (s : Split) (i n : ℕ) → i ≤ n → length (places_text m s i) ≤ length (places_text m s n)
unfolding places_text
longer m s i n h =
    le_ind (λ (k : ℕ). length (places_text m s i) ≤ length (places_text m s k)) (le_refl (length (places_text m s i)))
    (λ (k : ℕ) (l : i ≤ k) e. simp length-append (omega arith)) n h

-- no chart is longer
pub all_texts : (m : ℕ) (s : Split) → m < 8 → kind_of s ≡ kind_of_mode m → partition s < 2 ^ partition_bits m
    → length (places_text m s place_count) ≤ text_most
all_texts m Whole low kind few = unsplit m Whole low kind few (omega arith)
all_texts m (Two a) low kind few = unsplit m (Two a) low kind few (omega arith)
all_texts m (Three a) low kind few = unsplit m (Three a) low kind few (omega arith)
all_texts m (Vector r i) low kind few = vector m r i low (sym kind)

pub some_texts : (m : ℕ) (s : Split) → m < 8 → kind_of s ≡ kind_of_mode m → partition s < 2 ^ partition_bits m
    → (i : ℕ) → i ≤ place_count → length (places_text m s i) ≤ text_most
some_texts m s low kind few i h = omega (arith, longer m s i place_count h, all_texts m s low kind few)
