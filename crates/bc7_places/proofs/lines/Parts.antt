-- The parts of a line are those that the format says: the set of its indexes, their width, its anchor, the widths of its channels.
-- Assumes nothing.
use mathlib.Core.Path.{◌≡◌, refl, sym, ap, ◌∙◌, subst}
use mathlib.Core.Bool.{Bool, true, false}
use mathlib.Core.List.{[], ◌∷◌}
use Prim.Native.Nat.{ℕ, zero, suc, ◌-◌, ◌<◌}
use native.Mathlib.Omega.{arith}
use borrow.Author.Tests.{eqb-true}
use lib.Dec.{eqb}
use lib.ListN.{get_or}
use Rattle.bc7_format.specs.declared.Place.{Place}
use Rattle.bc7_format.specs.declared.Split.{Split}
use Rattle.bc7_format.specs.declared.Split.TheVariants.{Whole, Two, Three, Vector}
use Rattle.bc7_modes.specs.declared.ModeRow.{ModeRow}
use Rattle.laws.specs.Tables.{pick}
use Rattle.bc7_format.specs.Lines.{anchor_of, index_set_of, line_bits}
use Rattle.bc7_format.specs.Modes.{kind_of_mode, lines, alpha_bits, channel_bits, colour_bits}
use Rattle.bc7_format.specs.Splits.{index_mode, is_vector, kind_of, subset}
use Rattle.bc7_format.specs.WellFormed.{WellFormed}
use Rattle.bc7_format.proofs.Modes.{good_64, good_index_mode}
use Rattle.bc7_format.proofs.Opening.{good_kind}
use Rattle.bc7_format.proofs.Subsets.{good_lines}
use Rattle.bc7_places.specs.Lines.{OfLine, anchor_in, line_pixels, part_of, index_set_in, own_pixel}
use Rattle.bc7_modes.specs.Modes.{mode_row_of}
use Rattle.bc7_places.specs.Splits.{anchors_of}
use Rattle.bc7_places.proofs.lines.Maps.{anchor_is, own_pixel_is}
use Rattle.bc7_places.proofs.splits.VectorKind.{vector_kind, vector_mode}

-- the set of a line
set_is : (s : Split) (l : ℕ) → index_mode s < 2 → (is_vector s ≡ true → l < 2) → index_set_in s l ≡ index_set_of s l
unfolding index_set_of
set_is Whole l hi hl = refl
set_is (Two a) l hi hl = refl
set_is (Three a) l hi hl = refl
set_is (Vector r i) l hi hl = go l i (hl refl) hi
  where
    go : (l i : ℕ) → l < 2 → i < 2 → pick (eqb l i) 0 1 ≡ pick (eqb l 0) i (1 - i)
    go zero zero h k = refl
    go zero (suc zero) h k = refl
    go zero (suc (suc i)) h k = absurd (let y : ⊥ = omega arith in y)
    go (suc zero) zero h k = refl
    go (suc zero) (suc zero) h k = refl
    go (suc zero) (suc (suc i)) h k = absurd (let y : ⊥ = omega arith in y)
    go (suc (suc l)) i h k = absurd (let y : ⊥ = omega arith in y)

module _ {m : ℕ} {s : Split} {f : Place → ℕ} (g : WellFormed m s f) (l : ℕ) (hl : l < lines m) where
  by_kind : {n : ℕ} (k : ℕ) → get_or (1 ∷ 2 ∷ 3 ∷ 2 ∷ []) k 0 ≡ n → kind_of s ≡ k → l < n
  by_kind k e z = subst (λ (n : ℕ). l < n) (good_lines g ∙ ap (λ (k : ℕ). get_or (1 ∷ 2 ∷ 3 ∷ 2 ∷ []) k 0) z ∙ e) hl

  pub two : is_vector s ≡ true → l < 2
  two v = by_kind 3 refl (eqb-true _ 3 (vector_kind s ∙ v))

  pub sets : index_set_in s l ≡ index_set_of s l
  sets = set_is s l (good_index_mode g) two

  pub of_line : {row : ModeRow} → row ≡ mode_row_of m → OfLine row s l
  of_line e = record { kind = rw e (sym (good_kind g)); partition = good_64 g }

  -- the width of its index, and its anchor
  pub bits_is : (part_of (mode_row_of m) s l).index ≡ line_bits m s l
  unfolding line_bits
  bits_is = rw sets refl

  pub anchored : anchor_in (kind_of_mode m) l (line_pixels s l) (anchors_of s) ≡ anchor_of s l
  anchored = rw (← (good_kind g)) (anchor_is s l (good_64 g) (by_kind 1 refl) (by_kind 2 refl))

  -- the width of a channel in the line: of a vector and its scalar, red, green and blue are line 0's and alpha is line 1's
  pub value_widths : (c : ℕ) → pick (is_vector s) (pick (eqb (pick (eqb c 3) 1 0) l) (channel_bits m c) 0) (channel_bits m c)
      ≡ pick (eqb c 3) (part_of (mode_row_of m) s l).alpha (part_of (mode_row_of m) s l).colour
  value_widths c = rw (vector_mode g) (go (is_vector s) refl (eqb c 3))
    where
      line : (l : ℕ) (b : Bool) → l < 2
          → pick (eqb (pick b 1 0) l) (pick b (alpha_bits m) (colour_bits m)) 0
          ≡ pick b (pick (eqb l 0) 0 (alpha_bits m)) (pick (eqb l 1) 0 (colour_bits m))
      line zero true h = refl
      line zero false h = refl
      line (suc zero) true h = refl
      line (suc zero) false h = refl
      line (suc (suc l)) b h = absurd (let y : ⊥ = omega arith in y)

      go : (v : Bool) → is_vector s ≡ v → (b : Bool)
          → pick v (pick (eqb (pick b 1 0) l) (pick b (alpha_bits m) (colour_bits m)) 0) (pick b (alpha_bits m) (colour_bits m))
          ≡ pick b (pick v (pick (eqb l 0) 0 (alpha_bits m)) (alpha_bits m)) (pick v (pick (eqb l 1) 0 (colour_bits m)) (colour_bits m))
      go true e b = line l b (two e)
      go false e true = refl
      go false e false = refl

  -- and that of its index at a pixel
  pub index_widths_is : (q : ℕ) → q < 16
      → pick (is_vector s) (line_bits m s l) (pick (eqb (subset s q) l) (line_bits m s l) 0)
      ≡ pick (own_pixel (line_pixels s l) q) (part_of (mode_row_of m) s l).index 0
  index_widths_is q hq = rw (bits_is, own_pixel_is s l q (good_64 g) hq) (go (is_vector s))
    where
      go : (v : Bool)
          → pick v (line_bits m s l) (pick (eqb (subset s q) l) (line_bits m s l) 0) ≡ pick (pick v true (eqb (subset s q) l)) (line_bits m s l) 0
      go true = refl
      go false = refl
