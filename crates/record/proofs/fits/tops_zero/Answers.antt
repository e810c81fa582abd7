-- `fits::tops_zero` meets its contract.
-- Assumes nothing.
use mathlib.Core.Path.{refl, ◌∙◌, sym}
use native.Mathlib.Omega.{arith}
use Rattle.laws.proofs.Tests.{first_fails, first_holds}
use Rattle.record.proofs.fits.tops_zero.Goals as goal

pub bounds-indexes-a : goal.bounds-indexes-a
bounds-indexes-a c = omega (arith, c.requires.pixels.first)

pub returns-then-not-value_fits : goal.returns-then-not-value_fits
returns-then-not-value_fits c = sym (first_fails _ _ refl (sym c.value_fits.ensures ∙ c.if-not-value_fits.true))

pub bounds-indexes-b : goal.bounds-indexes-b
bounds-indexes-b c = omega (arith, c.requires.pixels.second)

pub returns-then-not-value_fits-2 : goal.returns-then-not-value_fits-2
returns-then-not-value_fits-2 c =
    sym (first_holds _ _ refl (sym c.value_fits.ensures ∙ c.if-not-value_fits.false)
    ∙ first_fails _ _ refl (sym c.value_fits-2.ensures ∙ c.if-not-value_fits-2.true))

pub bounds-indexes-c : goal.bounds-indexes-c
bounds-indexes-c c = omega (arith, c.requires.pixels.third)

pub returns : goal.returns
returns c =
    c.value_fits-3.ensures
    ∙ sym (first_holds _ _ refl (sym c.value_fits.ensures ∙ c.if-not-value_fits.false)
    ∙ first_holds _ _ refl (sym c.value_fits-2.ensures ∙ c.if-not-value_fits-2.false))
