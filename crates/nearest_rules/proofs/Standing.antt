-- A line as it is read, with its widths; and from the width at a pixel, whether the pixel is the line's.
-- Assumes nothing.
use mathlib.Core.Path.{◌≡◌, refl, ap, ◌∙◌}
use mathlib.Core.Logic.{◌≢◌}
use mathlib.Core.Bool.{Bool, true, false, not}
use mathlib.Core.List.{List}
use Prim.Native.Nat.{ℕ, ◌+◌, ◌*◌, ◌^◌, ◌≤◌, ◌<◌}
use native.Mathlib.Omega.{arith}
use borrow.Author.Tests.{le-ltb, lt-ltb}
use lib.Dec.{eqb}
use lib.ListN.{get_or}
use Rattle.line_rules.specs.declared.LineRead.{LineRead}
use Rattle.refusals.specs.Answers.{Answer}
use Rattle.line_rules.specs.declared.Replacement.{Replacement}
use Rattle.bc7_format.specs.declared.Split.{Split}
use Rattle.laws.specs.Digits.{Fit}
use Rattle.laws.specs.Refusals.{refuse}
use Rattle.laws.specs.Tables.{pick}
use Rattle.laws.proofs.First.{first_here, first_last, first_skip}
use Rattle.laws.proofs.Refusals.{accepted_when as met_when}
use Rattle.bcn_format.specs.Block.{eights}
use Rattle.bc7_format.specs.Modes.{mode_of, channel_bits, lines, p_count}
use Rattle.bc7_format.specs.Splits.{is_vector, split_of, subset}
use Rattle.bc7_format.specs.Places.{opened}
use Rattle.bc7_format.specs.Lines.{Line, line_bits, line_of}
use Rattle.bc7_format.specs.WellFormed.{WellFormed}
use Rattle.bc7_format.proofs.Meaning.{line_bits_is}
use Rattle.bc7_format.proofs.Opening.{opened_good}
use Rattle.bc7_format.proofs.Reserved.{open_mode}
use Rattle.line_rules.specs.Acceptable.{Acceptable, OwnWidths}
use Rattle.line_rules.specs.Read.{given_as, line_read, read_refusal, widths_of}
use Rattle.line_rules.specs.Replace.{call_of, line_given, replaced}
use Rattle.line_rules.proofs.Reading.{given_line, read_answers, read_is, replaced_by_read}
use Rattle.line_rules.proofs.Theorems.{accepted_when, the_widths}
use Rattle.nearest_rules.specs.Nearest.{in_line, nearest_refusal}
use Rattle.nearest_rules.specs.Parts.{p_in, value_in, channel_width}

-- what a reading refuses, the search refuses
pub refused_as_read : (bs : List ℕ) (l q : ℕ) → read_refusal bs l ≢ 0 → nearest_refusal bs l q ≡ read_refusal bs l
unfolding nearest_refusal
refused_as_read bs l q ne = first_here (read_refusal bs l) _ ne

-- a width of 0 at a pixel says that the pixel is another line's, and any other is the width of the line's indexes
pub record ByWidth (w r b : ℕ) : Type 0 where
  pub none : w ≡ 0 → r ≡ 13
  pub some : w ≢ 0 → (r ≡ 0) × (w ≡ b)

module _ (bs : List ℕ) (sixteen : Fit eights bs) (l : ℕ) (readable : read_refusal bs l ≡ 0) where
  abbrev m : ℕ
  m = mode_of bs

  abbrev s : Split
  s = split_of bs

  abbrev stored : Line
  stored = line_of m s l (opened bs)

  pub first_byte : get_or bs 0 0 ≢ 0
  first_byte = ((met_when (read_answers bs sixteen l)).0 readable).0

  pub line_there : l < lines m
  line_there = ((met_when (read_answers bs sixteen l)).0 readable).1.0

  pub well_formed : WellFormed m s (opened bs)
  well_formed = opened_good bs sixteen (open_mode bs sixteen first_byte)

  -- the line stands as it is stored, and could be put in again
  pub stands_as : (line_read bs l).value.line ≡ given_as stored
  stands_as = ap (λ (r : Answer LineRead). r.value.line) (read_is bs l readable)

  pub stands_fits : Acceptable m s l (line_given (given_as stored))
  unfolding replaced
  stands_fits =
      let e = ap (λ (r : Answer (List ℕ)). r.refusal) (replaced_by_read bs sixteen l readable) in
      rw stands_as at ((accepted_when bs sixteen (call_of l (line_read bs l).value.line)).0 e).1

  -- its widths are those of the format
  own : OwnWidths m s l
  own = the_widths bs sixteen first_byte l line_there

  widths_as : (line_read bs l).value.widths ≡ given_as (widths_of m s l)
  widths_as = ap (λ (r : Answer LineRead). r.value.widths) (read_is bs l readable)

  pub width_is : (d : ℕ) → d < 4
      → channel_width (line_read bs l).value.widths d ≡ pick (is_vector s) (pick (eqb (pick (eqb d 3) 1 0) l) (channel_bits m d) 0) (channel_bits m d)
  unfolding widths_of line_given
  width_is d hd =
      ap (λ (r : Replacement). get_or r.endpoints d 0) widths_as
      ∙ ap (λ (i : ℕ). get_or (given_as (widths_of m s l)).endpoints i 0) (let z : d ≡ 4 * 0 + d = omega arith in z)
      ∙ (given_line (widths_of m s l)).value 0 d (omega arith) hd ∙ own.value 0 d (omega arith) hd

  pub p_width_is : p_in (line_read bs l).value.widths 0 ≡ pick (eqb (p_count m) 0) 0 1
  unfolding widths_of line_given
  p_width_is = ap (λ (r : Replacement). get_or r.p 0 0) widths_as ∙ (given_line (widths_of m s l)).p 0 (omega arith) ∙ own.p 0 (omega arith)

  -- each value is within its width
  pub value_is : (k d : ℕ) → k < 2 → d < 4 → value_in (line_read bs l).value.line k d ≡ stored.value k d
  unfolding line_given
  value_is k d hk hd = ap (λ (r : Replacement). get_or r.endpoints (4 * k + d) 0) stands_as ∙ (given_line stored).value k d hk hd

  pub p_is : (k : ℕ) → k < 2 → p_in (line_read bs l).value.line k ≡ stored.p k
  unfolding line_given
  p_is k hk = ap (λ (r : Replacement). get_or r.p k 0) stands_as ∙ (given_line stored).p k hk

  pub value_fits_is : (k d : ℕ) → k < 2 → d < 4 → value_in (line_read bs l).value.line k d < 2 ^ channel_width (line_read bs l).value.widths d
  value_fits_is k d hk hd =
      rw (value_is k d hk hd, width_is d hd, ← (own.value k d hk hd), ← ((given_line stored).value k d hk hd)) (stands_fits.within.value k d hk hd)

  pub p_fits_is : (k : ℕ) → k < 2 → p_in (line_read bs l).value.line k < 2 ^ p_in (line_read bs l).value.widths 0
  p_fits_is k hk = rw (p_is k hk, p_width_is, ← (own.p k hk), ← ((given_line stored).p k hk)) (stands_fits.within.p k hk)

  module _ (q : ℕ) where
    abbrev width : ℕ
    width = get_or (line_read bs l).value.widths.indexes q 0

    index_width_is : q < 16 → width ≡ pick (is_vector s) (line_bits m s l) (pick (eqb (subset s q) l) (line_bits m s l) 0)
    unfolding widths_of line_given
    index_width_is hq = ap (λ (r : Replacement). get_or r.indexes q 0) widths_as ∙ (given_line (widths_of m s l)).index q hq ∙ own.index q hq

    -- the pixel's refusal, once the line can be read
    only_13 : nearest_refusal bs l q ≡ refuse 13 (not (in_line s l q))
    unfolding nearest_refusal
    only_13 = first_skip (read_refusal bs l) _ readable ∙ first_last (refuse 13 (not (in_line s l q)))

    pub no_pixel : 16 ≤ q → nearest_refusal bs l q ≡ 13
    unfolding in_line
    no_pixel h = only_13 ∙ rw (le-ltb q 16 h)

    pub by_width : q < 16 → ByWidth width (nearest_refusal bs l q) (line_bits m s l)
    unfolding in_line
    by_width hq =
        rw (only_13, index_width_is hq, lt-ltb q 16 hq)
        (each (is_vector s) (eqb (subset s q) l) (line_bits m s l) (line_bits_is well_formed l).0)
      where
        each : (a b : Bool) (n : ℕ) → 2 ≤ n → ByWidth (pick a n (pick b n 0)) (refuse 13 (not (pick a true b))) n
        each true b n h = record { none = λ e. absurd (let z : ⊥ = omega arith in z); some = λ ne. (refl, refl) }
        each false true n h = record { none = λ e. absurd (let z : ⊥ = omega arith in z); some = λ ne. (refl, refl) }
        each false false n h = record { none = λ e. refl; some = λ ne. absurd (ne refl) }
