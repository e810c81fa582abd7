-- Any sixteen bytes: the mode, and its pixels.
-- Assumes nothing.
use Rattle.std.proofs.Common.{◌≡◌, ℕ, ◌+◌, ◌*◌, ◌%◌, ◌^◌, ◌<◌, sym, ap, ◌∙◌, arith}
use Rattle.bcn_format.specs.Block.{number}
use Rattle.bc6h_modes.specs.Words.{whole}
use Rattle.bc6h_format.specs.Modes.{mode_in, row_of}
use Rattle.bc6h_format.proofs.Reserved.{reserved_gives_zeros}
use Rattle.bc6h.proofs.Blocks.{halves_are, long_mode, long_one, long_two, not_reserved_1, not_reserved_2, one_row, two_row}
use Rattle.bc6h.proofs.Blocks.{reserved_mode, short_mode, short_two}
use Rattle.bc6h.proofs.decode_into.Goals as goal

-- the low two of five bits
low_of_five : (x : ℕ) → x % 32 % 4 ≡ x % 4
low_of_five x = omega arith

pub returns-then-two-lt2 : goal.returns-then-two-lt2
unfolding whole
returns-then-two-lt2 c =
    let s = c.new-words.result in
    let t = c.if-two-lt2.true in
    c.two_subsets.ensures
    ∙ halves_are _ _ (s.low % 4) (s.high * 2 ^ 64 + s.low) (sym c.new-words.ensures) (short_mode s.low s.high t)
    (not_reserved_2 (two_row (s.low % 4) (short_two (s.low % 4) t)))

pub returns-then-two-eq2 : goal.returns-then-two-eq2
unfolding whole
returns-then-two-eq2 c =
    let s = c.new-words.result in
    let t = c.if-two-eq2.true in
    c.two_subsets-then-two-eq2.ensures
    ∙ halves_are _ _ (s.low % 32) (s.high * 2 ^ 64 + s.low) (sym c.new-words.ensures)
    (long_mode s.low s.high c.if-two-lt2.false)
    (not_reserved_2 (two_row (s.low % 32) (long_two (s.low % 32) (let y : s.low % 32 < 32 = omega arith in y) (low_of_five s.low ∙ t))))

pub returns-then-five-lt16 : goal.returns-then-five-lt16
unfolding whole
returns-then-five-lt16 c =
    let s = c.new-words.result in
    let p = c.if-two-lt2.false in
    let q = c.if-two-eq2.false in
    let three : s.low % 4 ≡ 3 = omega (arith, p, q) in
    c.one_subset.ensures
    ∙ halves_are _ _ (s.low % 32) (s.high * 2 ^ 64 + s.low) (sym c.new-words.ensures) (long_mode s.low s.high p)
    (not_reserved_1 (one_row (s.low % 32) (long_one (s.low % 32) c.if-five-lt16.true (low_of_five s.low ∙ three))))

pub returns : goal.returns
unfolding whole
returns c =
    let s = c.new-words.result in
    let p = c.if-two-lt2.false in
    let q = c.if-two-eq2.false in
    let three : s.low % 4 ≡ 3 = omega (arith, p, q) in
    let none : (row_of (s.low % 32)).subsets ≡ 0 =
    reserved_mode (s.low % 32) (let y : s.low % 32 < 32 = omega arith in y) c.if-five-lt16.false (low_of_five s.low ∙ three) in
    let mode : mode_in (number _) ≡ s.low % 32 = ap mode_in (sym c.new-words.ensures) ∙ long_mode s.low s.high p in
    sym (reserved_gives_zeros _ _ (ap (λ (m : ℕ). (row_of m).subsets) mode ∙ none))
