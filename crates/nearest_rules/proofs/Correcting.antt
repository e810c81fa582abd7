-- The correction that an index stands for: it is accepted, and draws what was measured.
-- Assumes nothing.
use mathlib.Core.Path.{◌≡◌, refl, sym, ap, ◌∙◌}
use mathlib.Core.Logic.{◌≢◌}
use mathlib.Core.Bool.{Bool, true, false}
use mathlib.Core.List.{List}
use Prim.Native.Nat.{ℕ, ◌^◌, ◌<◌}
use borrow.Author.Tests.{eq-eqb, eqb-true, eqb-false}
use lib.Dec.{eqb, lit<}
use lib.ListN.{get_or, length}
use lib.Seq.{get_or-set_other, get_or-set_same}
use Rattle.line_rules.specs.declared.Replacement.{Replacement}
use Rattle.bc7_format.specs.declared.Split.{Split}
use Rattle.laws.specs.Digits.{Fit}
use Rattle.laws.specs.Tables.{pick}
use Rattle.laws.proofs.First.{first_zero_is}
use Rattle.laws.proofs.Part.{length_table}
use Rattle.laws.proofs.Refusals.{accepted_when as met_when}
use Rattle.bcn_format.specs.Block.{eights}
use Rattle.bc7_format.specs.Modes.{mode_of}
use Rattle.bc7_format.specs.Splits.{is_vector, rotation, split_of, subset}
use Rattle.bc7_format.specs.Places.{opened}
use Rattle.bc7_format.specs.Lines.{Line, draws, index_place, line_bits, line_of, means_shown, pixel, rotated}
use Rattle.bc7_format.specs.WellFormed.{WellFormed}
use Rattle.bc7_format.proofs.Meaning.{good_rotation, means_ext, rotated_lt}
use Rattle.line_rules.specs.Acceptable.{Acceptable}
use Rattle.line_rules.specs.Read.{given_as, line_read, read_refusal}
use Rattle.line_rules.specs.Replace.{after, call_of, line_given, own_width, refusal}
use Rattle.line_rules.proofs.Reading.{given_line, read_drawn}
use Rattle.line_rules.proofs.Theorems.{accepted_draws, accepted_when, the_widths}
use Rattle.nearest_rules.specs.Nearest.{InLine, correction, drawn_with, index_count, nearest_refusal, with_index}
use Rattle.nearest_rules.proofs.Finding.{nearest_answers}
use Rattle.nearest_rules.proofs.Standing.{first_byte, line_there, p_is, stands_as, stands_fits, value_is, well_formed}

module _ (bs : List ℕ) (sixteen : Fit eights bs) (l q : ℕ) (ok : nearest_refusal bs l q ≡ 0) where
  abbrev m : ℕ
  m = mode_of bs

  abbrev s : Split
  s = split_of bs

  abbrev stored : Line
  stored = line_of m s l (opened bs)

  -- the line can be read, and has the pixel
  pub readable : read_refusal bs l ≡ 0
  unfolding nearest_refusal
  readable = (first_zero_is (read_refusal bs l) _ ok).0

  pub in_line_holds : InLine s l q
  in_line_holds = ((met_when (nearest_answers bs sixteen l q)).0 ok).1.1.0

  read_line_is : (line_read bs l).value.line ≡ given_as stored
  read_line_is = stands_as bs sixteen l readable

  read_fits : Acceptable m s l (line_given (given_as stored))
  read_fits = stands_fits bs sixteen l readable

  good : WellFormed m s (opened bs)
  good = well_formed bs sixteen l readable

  -- the width of the index at the pixel is the line's
  own_width_is : own_width m s l (index_place s l q) ≡ line_bits m s l
  own_width_is =
      (the_widths bs sixteen (first_byte bs sixteen l readable) l (line_there bs sixteen l readable)).index q in_line_holds.pixel
      ∙ go (is_vector s) refl
    where
      go : (b : Bool) → is_vector s ≡ b → pick b (line_bits m s l) (pick (eqb (subset s q) l) (line_bits m s l) 0) ≡ line_bits m s l
      go true e = refl
      go false e = ap (λ (b : Bool). pick b (line_bits m s l) 0) (eq-eqb (subset s q) l (in_line_holds.own e))

  module _ (i : ℕ) (below : i < index_count bs l) where
    abbrev given : Line
    given = line_given (correction bs l q i)

    -- what is given: the stored endpoints and p bits, index i at the pixel, and the stored indexes elsewhere
    given_value : (k c : ℕ) → k < 2 → c < 4 → given.value k c ≡ stored.value k c
    unfolding correction line_given
    given_value = value_is bs sixteen l readable

    given_p : (k : ℕ) → k < 2 → given.p k ≡ stored.p k
    unfolding correction line_given
    given_p = p_is bs sixteen l readable

    read_long : length (line_read bs l).value.line.indexes ≡ 16
    unfolding given_as
    read_long = ap (λ (r : Replacement). length r.indexes) read_line_is ∙ length_table 16 stored.index

    given_there : given.index q ≡ i
    unfolding correction line_given
    given_there = get_or-set_same (line_read bs l).value.line.indexes q i 0 (rw read_long in_line_holds.pixel)

    given_elsewhere : (k : ℕ) → k ≢ q → given.index k ≡ (line_given (given_as stored)).index k
    unfolding correction line_given
    given_elsewhere k ne =
        get_or-set_other (line_read bs l).value.line.indexes q k i 0 ne ∙ ap (λ (r : Replacement). get_or r.indexes k 0) read_line_is

    given_acceptable : Acceptable m s l given
    unfolding index_count
    given_acceptable = record {
      line = line_there bs sixteen l readable;
      within = record {
        value = λ k c hk hc. rw (given_value k c hk hc, ← ((given_line stored).value k c hk hc)) (read_fits.within.value k c hk hc);
        p = λ k hk. rw (given_p k hk, ← ((given_line stored).p k hk)) (read_fits.within.p k hk);
        index = index_fits_is;
      };
      same_p = λ e. given_p 0 (lit< tt) ∙ sym ((given_line stored).p 0 (lit< tt)) ∙ read_fits.same_p e
          ∙ (given_line stored).p 1 (lit< tt) ∙ sym (given_p 1 (lit< tt));
    }
      where
        index_fits_is : (k : ℕ) → k < 16 → given.index k < 2 ^ own_width m s l (index_place s l k)
        index_fits_is k hk = go (eqb k q) refl
          where
            go : (b : Bool) → eqb k q ≡ b → given.index k < 2 ^ own_width m s l (index_place s l k)
            go true e = rw (eqb-true k q e, given_there, own_width_is) below
            go false e = rw (given_elsewhere k (eqb-false k q e)) (read_fits.within.index k hk)

    -- THE CORRECTION IS ACCEPTED, turned or not
    pub correction_accepted : refusal bs (call_of l (correction bs l q i)) ≡ 0
    correction_accepted = (accepted_when bs sixteen (call_of l (correction bs l q i))).1 (first_byte bs sixteen l readable, given_acceptable)

    -- and the pixel shows what was measured
    pub correction_draws : (c : ℕ) → c < 4 → draws m s l q c ≡ true
        → pixel (after bs (call_of l (correction bs l q i))) q c ≡ drawn_with bs l q i c
    unfolding drawn_with with_index means_shown
    correction_draws c hc d =
        accepted_draws bs sixteen (call_of l (correction bs l q i)) q c in_line_holds.pixel hc correction_accepted d
        ∙ means_ext m s l given (with_index i stored) q (rotated (rotation s) c)
        (λ k hk. given_value k _ hk (rotated_lt (rotation s) c (good_rotation good) hc)) (λ n k hk. given_p k hk) given_there

  -- A COLOUR THAT THE LINE SHOWS IS HIT by the index that stands there
  abbrev stored_index : ℕ
  stored_index = stored.index q

  pub stored_below : stored_index < index_count bs l
  unfolding index_count
  stored_below = rw (← own_width_is, ← ((given_line stored).index q in_line_holds.pixel)) (read_fits.within.index q in_line_holds.pixel)

  pub stored_draws : (c : ℕ) → c < 4 → draws m s l q c ≡ true → drawn_with bs l q stored_index c ≡ pixel bs q c
  unfolding drawn_with with_index means_shown line_given
  stored_draws c hc d =
      means_ext m s l (with_index (stored.index q) stored) (line_given (line_read bs l).value.line) q (rotated (rotation s) c)
      (λ k hk. sym (value_is bs sixteen l readable k _ hk (rotated_lt (rotation s) c (good_rotation good) hc)))
      (λ n k hk. sym (p_is bs sixteen l readable k hk))
      (sym (ap (λ (r : Replacement). (line_given r).index q) read_line_is ∙ (given_line stored).index q in_line_holds.pixel))
      ∙ read_drawn bs sixteen l readable q c in_line_holds.pixel hc d
