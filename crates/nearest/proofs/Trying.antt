-- What is tried of a line as it was read.
-- Assumes nothing.
use mathlib.Core.Path.{◌≡◌, sym, ap, ◌∙◌}
use mathlib.Core.Logic.{◌≢◌}
use mathlib.Core.List.{List}
use Prim.Native.Nat.{ℕ, ◌≤◌, ◌<◌}
use native.Mathlib.Omega.{arith}
use borrow.Author.Tests.{ne_eqb}
use lib.ListN.{get_or}
use Rattle.nearest.specs.declared.Nearest.{Nearest}
use Rattle.line_rules.specs.declared.LineRead.{LineRead}
use Rattle.refusals.specs.Answers.{Answer}
use Rattle.laws.specs.Digits.{Fit}
use Rattle.bcn_format.specs.Block.{eights}
use Rattle.bc7_format.specs.Modes.{mode_of}
use Rattle.bc7_format.specs.Splits.{rotation, split_of}
use Rattle.bc7_format.specs.Lines.{line_bits}
use Rattle.line_rules.specs.Read.{line_read, read_refusal}
use Rattle.line_rules.proofs.Reading.{refusal_is}
use Rattle.nearest_rules.specs.Nearest.{nearest_index, nearest_refusal}
use Rattle.nearest.specs.Trying.{SearchedIn, Tries, Tryable, tried_as}
use Rattle.nearest.proofs.Measuring.{search_answers, tryable}
use Rattle.nearest_rules.proofs.Standing.{ByWidth, by_width, no_pixel, refused_as_read, well_formed}

-- what is refused has 0
refused_answers : (bs : List ℕ) (l q : ℕ) (wanted : List ℕ) {n : ℕ} → nearest_refusal bs l q ≡ n → n ≢ 0 → Tries bs l q wanted (tried_as n 0 0)
unfolding nearest_index
refused_answers bs l q wanted e ne = record { refusal = sym e; index = rw (e, ne_eqb _ _ ne); distance = λ z. absurd (ne z) }

thirteen : ◌≢◌ {A = ℕ} 13 0
thirteen e = omega arith

module _ (bs : List ℕ) (sixteen : Fit eights bs) (l q : ℕ) (wanted : List ℕ) {r : Answer LineRead} (e : r ≡ line_read bs l) where
  refusal_read : r.refusal ≡ read_refusal bs l
  refusal_read = ap (λ (r : Answer LineRead). r.refusal) e ∙ refusal_is bs l

  pub not_read : r.refusal ≢ 0 → Tries bs l q wanted (tried_as r.refusal 0 0)
  not_read ne = refused_answers bs l q wanted (refused_as_read bs l q (rw refusal_read at ne) ∙ sym refusal_read) ne

  module _ (ok : r.refusal ≡ 0) where
    readable : read_refusal bs l ≡ 0
    readable = sym refusal_read ∙ ok

    pub open_block : mode_of bs < 8
    open_block = (well_formed bs sixteen l readable).mode

    pub no_such_pixel : 16 ≤ q → Tries bs l q wanted (tried_as 13 0 0)
    no_such_pixel h = refused_answers bs l q wanted (no_pixel bs sixteen l readable q h) thirteen

    module _ (hq : q < 16) where
      abbrev width : ℕ
      width = get_or r.value.widths.indexes q 0

      says : ByWidth width (nearest_refusal bs l q) (line_bits (mode_of bs) (split_of bs) l)
      says = rw e (by_width bs sixteen l readable q hq)

      pub other_line : width ≡ 0 → Tries bs l q wanted (tried_as 13 0 0)
      other_line z = refused_answers bs l q wanted (says.none z) thirteen

      module _ (ne : width ≢ 0) {t : ℕ} (turn : t ≡ rotation (split_of bs)) where
        pub can_try : Tryable r.value.line r.value.widths t width
        can_try = rw ((says.some ne).1, turn, e) (tryable bs sixteen l q (says.some ne).0)

        pub answers : {x : Nearest} → SearchedIn r.value.line r.value.widths t wanted width x → Tries bs l q wanted (tried_as 0 x.index x.distance)
        answers h = search_answers bs sixteen l q (says.some ne).0 wanted (rw ((says.some ne).1, turn, e) at h)
