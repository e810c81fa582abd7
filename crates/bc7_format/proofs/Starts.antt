-- What code needs: each place as a field of the number, where it starts, and how the next one starts.
-- Assumes nothing.
use mathlib.Core.Path.{◌≡◌, sym, ap, ap₂, ◌∙◌}
use mathlib.Core.Logic.{⊎_elim}
use mathlib.Core.List.{[], ◌∷◌}
use Prim.Native.Nat.{ℕ, suc, ◌+◌, ◌/◌, ◌%◌, ◌^◌, ◌<◌, ◌≤◌}
use native.Mathlib.Nat.{eq-or-lt_of_le, le_of_lt, le_refl}
use native.Mathlib.Omega.{arith}
use lib.Dec.{T, eqb, eqb→eq}
use lib.ListN.{get_or}
use Rattle.bc7_format.specs.declared.Place.{Place}
use Rattle.bc7_format.specs.declared.Split.{Split}
use Rattle.laws.specs.Digits.{total}
use Rattle.laws.specs.Tables.{table, table_from}
use Rattle.laws.proofs.Rows.{digit, take_table, total_more, total_room}
use Rattle.laws.proofs.Tests.{at}
use Rattle.bc7_format.specs.Modes.{endpoint_count, mode_row}
use Rattle.bc7_format.specs.Places.{at_place, inside, place_at, pos, width, widths, place_count, first_from}
use Rattle.bc7_format.specs.Splits.{anchors}
use Rattle.bc7_format.proofs.Places.{place_at_pos, pos_lt}
unfoldable pub use Rattle.bc7_format.specs.Places.{start}

-- where a place starts: behind the total of the widths before
start_is : (m : ℕ) (s : Split) (i : ℕ) → i ≤ place_count → start m s i ≡ total (table i (λ k. width m (anchors s) (place_at k)))
unfolding start widths
start_is m s i h = ap total (take_table i place_count _ h)

pub at_field : (m : ℕ) (s : Split) (n : ℕ) (x : Place) → T (inside x) → at_place m s n x ≡ n / 2 ^ start m s (pos x) % 2 ^ width m (anchors s) x
unfolding at_place widths
at_field m s n x h =
    digit place_count (λ k. width m (anchors s) (place_at k)) n (pos x) (pos_lt x h)
    ∙ ap₂ (λ (b w : ℕ). n / 2 ^ b % 2 ^ w) (sym (start_is m s (pos x) (le_of_lt (pos_lt x h)))) (ap (width m (anchors s)) (place_at_pos x h))

pub start_next : (m : ℕ) (s : Split) (i : ℕ) → i < place_count → start m s (suc i) ≡ start m s i + width m (anchors s) (place_at i)
start_next m s i h =
    start_is m s (suc i) h ∙ total_more i _ ∙ ap (λ (b : ℕ). b + width m (anchors s) (place_at i)) (sym (start_is m s i (le_of_lt h)))

-- what stands before a place ends where that starts
pub start_room : (m : ℕ) (s : Split) (i j : ℕ) → i < j → j ≤ place_count → start m s i + width m (anchors s) (place_at i) ≤ start m s j
start_room m s i j h l = rw (start_is m s i (omega arith), start_is m s j l) (total_room (λ k. width m (anchors s) (place_at k)) i j h)

pub start_le : (m : ℕ) (s : Split) (i j : ℕ) → i ≤ j → j ≤ place_count → start m s i ≤ start m s j
start_le m s i j h l = ⊎_elim (λ e. rw e (le_refl (start m s j))) (λ k. omega (arith, start_room m s i j k l)) (eq-or-lt_of_le h)

-- the indexes start at a bit that goes by the mode alone
abbrev pub index_start : ℕ → ℕ
index_start m = get_or (83 ∷ 82 ∷ 99 ∷ 98 ∷ 50 ∷ 66 ∷ 65 ∷ 98 ∷ []) m 0

pub index_start_is : (m : ℕ) (s : Split) → m < 8 → start m s first_from ≡ index_start m
unfolding start widths table table_from place_at width mode_row endpoint_count
index_start_is m s h = eqb→eq _ _ (at 8 (λ m. eqb (start m s first_from) (index_start m)) tt m h)
