-- `text::put_number` meets its contract.
-- Assumes nothing.
use native.Mathlib.Omega.{arith}
use Prim.Native.Nat.{◌/◌}
use Rattle.laws.proofs.Decimal.{four_more}
use Rattle.text.proofs.Puts.{puts_then, puts_within}
use Rattle.text.proofs.put_number.Goals as goal

pub returns-then-above-lt10000 : goal.returns-then-above-lt10000
returns-then-above-lt10000 c =
    let n = c.args.n in
    rw (four_more n (omega arith) (omega arith)) (puts_within (puts_then c.put_few-low.ensures c.put_last_four.ensures) 12 (omega arith))

pub returns : goal.returns
returns c =
    let n = c.args.n in
    rw (four_more n (omega arith) (omega arith), four_more (n / 10000) (omega arith) (omega arith))
    (puts_then (puts_then c.put_few-middle.ensures c.put_last_four-low.ensures) c.put_last_four-2.ensures)
