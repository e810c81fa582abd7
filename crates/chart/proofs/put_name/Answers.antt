-- `put_name` meets its contract.
-- Assumes nothing.
use native.Mathlib.Omega.{arith}
use mathlib.Core.Logic.{inl, inr}
use Rattle.chart_rules.specs.Names.{name_of}
use Rattle.text.proofs.Puts.{puts_then, puts_within}
use Rattle.chart.proofs.put_name.Goals as goal

pub returns-in-Lead : goal.returns-in-Lead
unfolding name_of
returns-in-Lead c =
    let w = rw c.in-Lead.is at c.word_of.ensures in
    rw (c.in-Lead.is, ← w.is) (puts_within c.put_word-named.ensures 11 (omega (arith, w.short)))

pub returns-in-Value : goal.returns-in-Value
unfolding name_of
returns-in-Value c =
    elim c.in-Value.is [
      | inl v ↦
          let w = rw v.1 at c.word_of.ensures in
          rw (v.1, ← w.is) (puts_within (puts_then c.put_word-named.ensures c.put_few.ensures) 11 (omega (arith, w.short)))
      | inr r ↦ elim r [
        | inl p ↦
            let w = rw p at c.word_of.ensures in
            rw (p, ← w.is) (puts_within (puts_then c.put_word-named.ensures c.put_few.ensures) 11 (omega (arith, w.short)))
        | inr i ↦
            let w = rw i.1 at c.word_of.ensures in
            rw (i.1, ← w.is) (puts_within (puts_then c.put_word-named.ensures c.put_few.ensures) 11 (omega (arith, w.short)))
      ]
    ]
