-- `reading::two_at` meets its contract.
-- Assumes nothing.
use mathlib.Core.Path.{◌≡◌}
use Prim.Native.Nat.{◌+◌, ◌*◌}
use native.Mathlib.Nat.{lt_of_lt_of_le}
use native.Mathlib.Omega.{arith}
use lib.Pow.{pow_mono, shr_lt}
use Rattle.laws.proofs.Words.{one_shl}
use Rattle.line.proofs.fields.Halves.{first_of, second_of}
use Rattle.line.proofs.reading.two_at.Goals as goal

pub overflow_cast-result-4 : goal.overflow_cast-result-4
overflow_cast-result-4 c =
    let s = c in
    let w = s.args.width in
    let e : 2 * w ≡ w + w = omega arith in
    record { fits = lt_of_lt_of_le (shr_lt w w (rw e at c.take-values.ensures.small)) (pow_mono {j = 8} s.requires.width) }

pub returns : goal.returns
returns c =
    let s = c in
    let w = s.args.width in
    let at = c.standing_at.ensures in
    let r = c.take-values.ensures.same in
    rw (one_shl w (omega arith), first_of s.args.s s.args.at w at r, second_of s.args.s s.args.at w at r)
