-- Where the fields of a line start is where its places do: one computed test over mode and line.
-- Assumes nothing.
use mathlib.Core.Path.{◌≡◌, refl, sym, ap, ◌∙◌}
use mathlib.Core.Logic.{◌≢◌}
use mathlib.Core.Bool.{Bool, true, not}
use mathlib.Core.List.{List, [], ◌∷◌}
use Prim.Native.Nat.{ℕ, zero, suc, ◌+◌, ◌-◌, ◌*◌, ◌≤◌, ◌<◌}
use native.Mathlib.Omega.{arith}
use borrow.Author.Tests.{ne_eqb}
use lib.Dec.{T, eqb, eqb→eq, leb, leb→le, ltb, lt→ltb}
use Rattle.bc7_format.specs.declared.Place.{Place}
use Rattle.bc7_format.specs.declared.Split.{Split}
use Rattle.bc7_format.specs.declared.Split.TheVariants.{Whole, Two, Three, Vector}
use Rattle.laws.specs.Digits.{total}
use Rattle.bc7_places.specs.declared.places.Fields.{Fields}
use Rattle.laws.specs.Tables.{below, both, implies, pick, table, table_from}
use Rattle.laws.proofs.Tests.{at, both_left, both_right, implied, no_both}
use Rattle.bc7_format.specs.Lines.{index_set_of, value_place}
use Rattle.bc7_format.specs.Modes.{endpoint_count, first_bits, kind_of_mode, lines, mode_row, p_count}
use Rattle.bc7_format.specs.Places.{place_at, pos, width, widths, values_from, ps_from, first_from, second_from}
use Rattle.bc7_format.specs.Splits.{anchors, is_vector}
use Rattle.bc7_format.specs.WellFormed.{WellFormed}
use Rattle.bc7_format.proofs.Meaning.{index_set_lt}
use Rattle.bc7_format.proofs.Modes.{good_index_mode, good_vector}
use Rattle.bc7_format.proofs.Starts.{start}
use Rattle.bcn_format.specs.Indexes.{index_width, index_widths}
use Rattle.bcn_format.proofs.Expanding.{size_1}
use Rattle.bc7_fields.specs.Fields.{lead_end}
use Rattle.bc7_fields.proofs.Fields.{begins}
use Rattle.bc7_modes.specs.Modes.{mode_row_of}
use Rattle.bc7_places.proofs.splits.VectorKind.{vector_mode}
use Rattle.bc7_places.specs.Places.{fields_of}

abbrev at_line : ℕ → ℕ → Fields
at_line m l = fields_of (mode_row_of m) (lead_end m) l 0

abbrev pub channel_at : Fields → ℕ → ℕ
channel_at at c = pick (eqb c 0) at.red (pick (eqb c 1) at.green (pick (eqb c 2) at.blue at.alpha))

-- the first endpoint of a line
abbrev pair : ℕ → ℕ → ℕ
pair m l = pick (eqb (kind_of_mode m) 3) 0 (2 * l + 0)

channel_test : Split → ℕ → ℕ → ℕ → Bool
channel_test s m l c = both (eqb (channel_at (at_line m l) c) (start m s (values_from + (6 * c + pair m l)))) (leb (channel_at (at_line m l) c) 100)

-- (where the mode has no p bits, it doesn't matter where they start)
p_test : Split → ℕ → ℕ → Bool
p_test s m l =
    both (implies (not (eqb (p_count m) 0)) (eqb ((at_line m l).p + pick (eqb m 1) l (2 * l + 0)) (start m s (ps_from + pick (eqb m 1) l (2 * l + 0)))))
    (both (leb (at_line m l).p 100) (eqb (at_line m l).indexes (start m s first_from)))

line_test : Split → ℕ → ℕ → Bool
line_test s m l = implies (ltb l (lines m)) (both (below 4 (channel_test s m l)) (p_test s m l))

all_start : (s : Split) → T (below 8 (λ m. below 3 (line_test s m)))
unfolding line_test channel_test p_test fields_of start widths table table_from place_at width lead_end implies mode_row kind_of_mode endpoint_count
all_start s = tt

-- the second set is there where there is a vector, and then each set has one anchor
second_set : (s : Split) (l : ℕ) → index_set_of s l ≡ 1 → is_vector s ≡ true
unfolding index_set_of
second_set Whole l e = absurd (let y : ⊥ = omega arith in y)
second_set (Two a) l e = absurd (let y : ⊥ = omega arith in y)
second_set (Three a) l e = absurd (let y : ⊥ = omega arith in y)
second_set (Vector r i) l e = refl

vector_anchors : (s : Split) → is_vector s ≡ true → anchors s ≡ 0 ∷ []
vector_anchors Whole v = refl
vector_anchors (Two a) v = absurd (no_both v refl)
vector_anchors (Three a) v = absurd (no_both v refl)
vector_anchors (Vector r i) v = refl

one_anchor : (w : ℕ) → 0 < w → total (table 16 (index_width w (0 ∷ []))) ≡ 16 * w - 1
unfolding index_widths
one_anchor w h = size_1 w h

module _ {m : ℕ} {s : Split} {f : Place → ℕ} (g : WellFormed m s f) (l : ℕ) (hl : l < lines m) (l3 : l < 3) where
  tested : T (both (below 4 (channel_test s m l)) (p_test s m l))
  unfolding line_test
  tested =
      implied (ltb l (lines m)) _ (at 3 (line_test s m) (at 8 (λ m. below 3 (line_test s m)) (all_start s) m g.mode) l l3) (lt→ltb l (lines m) hl)

  a_channel : (c : ℕ) → c < 4 → T (channel_test s m l c)
  a_channel c h = at 4 (channel_test s m l) (both_left (below 4 (channel_test s m l)) _ tested) c h

  pub channel_starts : (c : ℕ) → c < 4 → channel_at (at_line m l) c ≡ start m s (pos (value_place s l 0 c))
  unfolding channel_test pos value_place
  channel_starts c h =
      eqb→eq _ _ (both_left (eqb (channel_at (at_line m l) c) (start m s (values_from + (6 * c + pair m l)))) _ (a_channel c h))
      ∙ ap (λ (b : Bool). start m s (values_from + (6 * c + pick b 0 (2 * l + 0)))) (vector_mode g)

  pub channel_low : (c : ℕ) → c < 4 → channel_at (at_line m l) c ≤ 100
  unfolding channel_test
  channel_low c h = leb→le _ 100 (both_right (eqb (channel_at (at_line m l) c) (start m s (values_from + (6 * c + pair m l)))) _ (a_channel c h))

  a_p : T (p_test s m l)
  a_p = both_right (below 4 (channel_test s m l)) (p_test s m l) tested

  pub p_starts : p_count m ≢ 0 → (at_line m l).p + pick (eqb m 1) l (2 * l + 0) ≡ start m s (ps_from + pick (eqb m 1) l (2 * l + 0))
  unfolding p_test
  p_starts n =
      eqb→eq _ _
      (implied (not (eqb (p_count m) 0)) _
      (both_left (implies (not (eqb (p_count m) 0))
      (eqb ((at_line m l).p + pick (eqb m 1) l (2 * l + 0)) (start m s (ps_from + pick (eqb m 1) l (2 * l + 0))))) _ a_p)
      (rw (ne_eqb (p_count m) 0 n) tt))

  rest : T (both (leb (at_line m l).p 100) (eqb (at_line m l).indexes (start m s first_from)))
  unfolding p_test
  rest =
      both_right
      (implies (not (eqb (p_count m) 0)) (eqb ((at_line m l).p + pick (eqb m 1) l (2 * l + 0)) (start m s (ps_from + pick (eqb m 1) l (2 * l + 0))))) _
      a_p

  pub p_low : (at_line m l).p ≤ 100
  p_low = leb→le _ 100 (both_left (leb (at_line m l).p 100) _ rest)

  -- the first set, and the second behind it
  first_starts : (at_line m l).indexes ≡ start m s first_from
  first_starts = eqb→eq _ _ (both_right (leb (at_line m l).p 100) _ rest)

  pub set_starts : (fields_of (mode_row_of m) (lead_end m) l (index_set_of s l)).indexes ≡ start m s (first_from + (16 * index_set_of s l + 0))
  unfolding fields_of
  set_starts = go (index_set_of s l) (index_set_lt s l (good_index_mode g)) refl
    where
      behind : is_vector s ≡ true → start m s second_from ≡ start m s first_from + (16 * first_bits m - 1)
      behind v =
          begins m s 0 (omega arith) 16 (omega arith)
          ∙ ap (λ (t : ℕ). start m s first_from + t)
          (ap (λ (an : List ℕ). total (table 16 (index_width (first_bits m) an))) (vector_anchors s v) ∙ size_first)
        where
          size_first : total (table 16 (index_width (first_bits m) (0 ∷ []))) ≡ 16 * first_bits m - 1
          size_first = one_anchor (first_bits m) (omega (arith, (good_vector g v).least1))

      go : (a : ℕ) → a < 2 → index_set_of s l ≡ a → (fields_of (mode_row_of m) (lead_end m) l a).indexes ≡ start m s (first_from + (16 * a + 0))
      go zero h e = first_starts
      go (suc zero) h e = ap (λ (x : ℕ). x + (16 * first_bits m - 1)) first_starts ∙ sym (behind (second_set s l e))
      go (suc (suc a)) h e = absurd (let y : ⊥ = omega arith in y)
