-- `text::put_few` meets its contract.
-- Assumes nothing.
use native.Mathlib.Omega.{arith}
use Rattle.laws.proofs.Decimal.{four_digits, one_digit, three_digits, two_digits}
use Rattle.text.proofs.Puts.{puts_then, puts_within}
use Rattle.text.proofs.put_few.Goals as goal

pub returns-then-n-lt10 : goal.returns-then-n-lt10
returns-then-n-lt10 c =
    rw (one_digit c.args.n (omega arith)) (puts_within c.put_digit.ensures 4 (omega arith))

pub returns-then-n-lt100 : goal.returns-then-n-lt100
returns-then-n-lt100 c =
    let n = c.args.n in
    rw (two_digits n (omega arith) (omega arith)) (puts_within (puts_then c.put_digit-ones.ensures c.put_digit-then-n-lt100.ensures) 4 (omega arith))

pub returns-then-n-lt1000 : goal.returns-then-n-lt1000
returns-then-n-lt1000 c =
    let n = c.args.n in
    let digits = puts_then (puts_then c.put_digit-tens.ensures c.put_digit-ones-then-n-lt1000.ensures) c.put_digit-then-n-lt1000.ensures in
    rw (three_digits n (omega arith) (omega arith)) (puts_within digits 4 (omega arith))

pub returns : goal.returns
returns c =
    rw (four_digits c.args.n (omega arith) (omega arith)) c.put_last_four.ensures
