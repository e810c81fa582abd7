-- `colours::colour_numbered` meets its contract.
-- Assumes nothing.
use mathlib.Core.Path.{ap₂, sym}
use Prim.Native.Nat.{ℕ}
use native.Mathlib.Omega.{arith}
use borrow.Author.Tests.{ne_eqb}
use Rattle.head_rules.specs.declared.ColourSpace.{ColourSpace}
use Rattle.head_rules.specs.Colours.{colour_of}
use Rattle.laws.proofs.Refusals.{decided_not, decided_so}
use Rattle.head_rules.proofs.Colours.{colour_test}
use Rattle.sheet_head.proofs.colours.colour_numbered.Goals as goal

pub returns-then-number-gt-SRGB : goal.returns-then-number-gt-SRGB
unfolding colour_of
returns-then-number-gt-SRGB c =
    let above = c.if-number-gt-SRGB.true in
    sym (ap₂ (λ (r : ℕ) (k : ColourSpace). record { refusal = r; value = k }) (decided_not (colour_test c.args.number) (λ l. omega (arith, l, above)))
    (rw (ne_eqb c.args.number 2 (λ e. omega (arith, e, above)), ne_eqb c.args.number 1 (λ e. omega (arith, e, above)))))

pub returns : goal.returns
returns c =
    ap₂ (λ (r : ℕ) (k : ColourSpace). record { refusal = r; value = k })
    (sym (decided_so (colour_test c.args.number) (omega (arith, c.if-number-gt-SRGB.false)))) c.colour_of.ensures
