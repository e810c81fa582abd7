-- `string_of` meets its contract.
-- Assumes nothing.
use mathlib.Core.Path.{ap, sym, ◌∙◌}
use Prim.Native.Nat.{ℕ}
use borrow.Author.Tests.{ne_eqb}
use lib.ListN.{get_or-map}
use Rattle.bcn_format.specs.Partitions.{strings2, strings3}
use Rattle.pixel_rules.specs.Strings.{letters, string_for}
use Rattle.bc7_plain.proofs.strings.string_of.Goals as goal

pub returns-then-subsets-eq1 : goal.returns-then-subsets-eq1
unfolding letters string_for
returns-then-subsets-eq1 c = sym (ap (λ (n : ℕ). letters (string_for n c.args.partition)) c.if-subsets-eq1.true)

pub returns-then-subsets-eq2 : goal.returns-then-subsets-eq2
unfolding letters strings2 string_for
returns-then-subsets-eq2 c =
    get_or-map letters strings2 c.args.partition "" ∙ sym (ap (λ (n : ℕ). letters (string_for n c.args.partition)) c.if-subsets-eq2.true)

pub returns : goal.returns
unfolding letters strings3 string_for
returns c =
    get_or-map letters strings3 c.args.partition ""
    ∙ sym (ap letters (rw (ne_eqb c.args.subsets 1 c.if-subsets-eq1.false, ne_eqb c.args.subsets 2 c.if-subsets-eq2.false)))
