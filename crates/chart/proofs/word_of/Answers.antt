-- `word_of` meets its contract.
-- Assumes nothing.
use native.Mathlib.Omega.{arith}
use mathlib.Core.Path.{◌≡◌, refl}
use Prim.Native.Nat.{◌+◌, ◌<◌}
use borrow.Author.Rules.{rules}
use Rattle.laws.specs.Text.{ascii}
use Rattle.chart.proofs.word_of.Goals as goal

pub returns-in-Lead-eq0 : goal.returns-in-Lead-eq0
unfolding ascii
returns-in-Lead-eq0 c = rw c.in-Lead-eq0.is ((let e : c.in-Lead-eq0.field-0 ≡ 0 = omega (arith, c.in-Lead-eq0.field-0-test, c.in-Lead-eq0.field-0-is) in rw e (record { is = refl; short = omega arith })))

pub returns-in-Lead-eq1 : goal.returns-in-Lead-eq1
unfolding ascii
returns-in-Lead-eq1 c = rw c.in-Lead-eq1.is ((let e : c.in-Lead-eq1.field-0 ≡ 1 = omega (arith, c.in-Lead-eq1.field-0-test, c.in-Lead-eq1.field-0-is) in rw e (record { is = refl; short = omega arith })))

pub returns-in-Lead-eq2 : goal.returns-in-Lead-eq2
unfolding ascii
returns-in-Lead-eq2 c = rw c.in-Lead-eq2.is ((let e : c.in-Lead-eq2.field-0 ≡ 2 = omega (arith, c.in-Lead-eq2.field-0-test, c.in-Lead-eq2.field-0-is) in rw e (record { is = refl; short = omega arith })))

pub returns-in-Lead : goal.returns-in-Lead
unfolding ascii
returns-in-Lead c = rw c.in-Lead.is (let low : c.in-Lead.field-0 < 3 + 1 = search rules in let e : c.in-Lead.field-0 ≡ 3 = omega (arith, low, c.in-Lead.field-0-test) in rw e (record { is = refl; short = omega arith }))

pub returns-in-Value-eq0-default : goal.returns-in-Value-eq0-default
unfolding ascii
returns-in-Value-eq0-default c = rw c.in-Value-eq0-default.is ((let e : c.in-Value-eq0-default.channel ≡ 0 = omega (arith, c.in-Value-eq0-default.channel-test, c.in-Value-eq0-default.channel-is) in rw e (record { is = refl; short = omega arith })))

pub returns-in-Value-eq1-default : goal.returns-in-Value-eq1-default
unfolding ascii
returns-in-Value-eq1-default c = rw c.in-Value-eq1-default.is ((let e : c.in-Value-eq1-default.channel ≡ 1 = omega (arith, c.in-Value-eq1-default.channel-test, c.in-Value-eq1-default.channel-is) in rw e (record { is = refl; short = omega arith })))

pub returns-in-Value-eq2-default : goal.returns-in-Value-eq2-default
unfolding ascii
returns-in-Value-eq2-default c = rw c.in-Value-eq2-default.is ((let e : c.in-Value-eq2-default.channel ≡ 2 = omega (arith, c.in-Value-eq2-default.channel-test, c.in-Value-eq2-default.channel-is) in rw e (record { is = refl; short = omega arith })))

pub returns-in-Value : goal.returns-in-Value
unfolding ascii
returns-in-Value c = rw c.in-Value.is (let low : c.in-Value.channel < 3 + 1 = search rules in let e : c.in-Value.channel ≡ 3 = omega (arith, low, c.in-Value.channel-test) in rw e (record { is = refl; short = omega arith }))

pub returns-in-PBit : goal.returns-in-PBit
unfolding ascii
returns-in-PBit c = rw c.in-PBit.is (record { is = refl; short = omega arith })

pub returns-in-Index-eq0-default : goal.returns-in-Index-eq0-default
unfolding ascii
returns-in-Index-eq0-default c = rw c.in-Index-eq0-default.is ((let e : c.in-Index-eq0-default.set ≡ 0 = omega (arith, c.in-Index-eq0-default.set-test, c.in-Index-eq0-default.set-is) in rw e (record { is = refl; short = omega arith })))

pub returns-in-Index : goal.returns-in-Index
unfolding ascii
returns-in-Index c = rw c.in-Index.is (let low : c.in-Index.set < 1 + 1 = search rules in let e : c.in-Index.set ≡ 1 = omega (arith, low, c.in-Index.set-test) in rw e (record { is = refl; short = omega arith }))
