-- `fits::split_fits` meets its contract.
-- Assumes nothing.
use mathlib.Core.Path.{◌≡◌, refl, ◌∙◌, sym}
use native.Mathlib.Omega.{arith}
use Prim.Native.Nat.{◌^◌}
use lib.Dec.{ltb}
use Rattle.bc7_format.specs.Splits.{partition, rotation}
use Rattle.bc7_modes.proofs.Bounds.{small}
use Rattle.laws.proofs.Tests.{first_fails, first_holds}
use Rattle.record.proofs.fits.split_fits.Goals as goal
use Rattle.record.proofs.fits.split_fits.Goals.{After-value_fits, After-value_fits-2}

one : (c : After-value_fits)
    → c.value_fits.result ≡ ltb (partition c.args.split) (2 ^ c.args.row.partition)
one c = c.value_fits.ensures ∙ rw c.partition_of.ensures

two : (c : After-value_fits-2)
    → c.value_fits-2.result ≡ ltb (rotation c.args.split)
    (2 ^ c.args.row.rotation)
two c = c.value_fits-2.ensures ∙ rw c.rotation_of.ensures

pub value_fits-requires : goal.value_fits-requires
value_fits-requires c = omega (arith, (small c.requires).split)

pub returns-then-not-value_fits : goal.returns-then-not-value_fits
returns-then-not-value_fits c = sym (first_fails _ _ refl (sym (one c.before) ∙ c.if-not-value_fits.true))

pub value_fits-requires-2 : goal.value_fits-requires-2
value_fits-requires-2 c = omega (arith, (small c.requires).split)

pub returns-then-not-value_fits-2 : goal.returns-then-not-value_fits-2
returns-then-not-value_fits-2 c =
    sym (first_holds _ _ refl (sym (one c.before.before.before.before) ∙ c.if-not-value_fits.false)
    ∙ first_fails _ _ refl (sym (two c.before) ∙ c.if-not-value_fits-2.true))

pub value_fits-requires-3 : goal.value_fits-requires-3
value_fits-requires-3 c = omega (arith, (small c.requires).split)

pub returns : goal.returns
returns c =
    c.value_fits-3.ensures ∙ rw c.index_mode_of.ensures
    (sym (first_holds _ _ refl (sym (one c.before.before.before.before.before.before)
    ∙ c.if-not-value_fits.false)
    ∙ first_holds _ _ refl (sym (two c.before.before.before) ∙ c.if-not-value_fits-2.false)))
