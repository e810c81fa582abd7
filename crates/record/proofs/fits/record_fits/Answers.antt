-- `fits::record_fits` meets its contract.
-- Assumes nothing.
use mathlib.Core.Path.{◌∙◌, sym}
use native.Mathlib.Omega.{arith}
use Rattle.bc7_modes.specs.Modes.{OfMode}
use Rattle.bc7_modes.proofs.Bounds.{small}
use Rattle.record.proofs.fits.Fits.{first_from_is, last_decides, one_fails, ps_from_is, split_from, values_from_is}
use Rattle.record.proofs.fits.record_fits.Goals as goal
use Rattle.record.proofs.fits.record_fits.Goals.{Start}

of_mode_is : (s : Start) → OfMode s.args.row
of_mode_is s = record { mode = _; low = s.requires.low; is = s.requires.is }

pub split_fits-requires : goal.split_fits-requires
split_fits-requires c = of_mode_is c

pub returns-then-not-split_fits : goal.returns-then-not-split_fits
returns-then-not-split_fits c =
    let s = c in
    one_fails _ s.requires.low s.requires.is _ (split_from _ s.requires.low s.requires.is)
    (sym c.split_fits.ensures ∙ c.if-not-split_fits.true)

pub endpoints_fit-requires : goal.endpoints_fit-requires
endpoints_fit-requires c = of_mode_is c.before.before.before

pub returns-then-not-endpoints_fit : goal.returns-then-not-endpoints_fit
returns-then-not-endpoints_fit c =
    let s = c in
    one_fails _ s.requires.low s.requires.is _ (values_from_is _ s.requires.low s.requires.is)
    (sym c.endpoints_fit.ensures ∙ c.if-not-endpoints_fit.true)

pub returns-then-not-p_fits : goal.returns-then-not-p_fits
returns-then-not-p_fits c =
    let s = c in
    one_fails _ s.requires.low s.requires.is _ (ps_from_is _ s.requires.low s.requires.is) (sym c.p_fits.ensures ∙ c.if-not-p_fits.true)

pub indexes_fit-requires : goal.indexes_fit-requires
indexes_fit-requires c = omega (arith, (small (of_mode_is c.before.before.before.before.before.before.before.before.before)).most)

pub returns-then-not-indexes_fit : goal.returns-then-not-indexes_fit
returns-then-not-indexes_fit c =
    let s = c in
    one_fails _ s.requires.low s.requires.is _ (first_from_is _ s.requires.low s.requires.is)
    (sym c.indexes_fit.ensures ∙ c.if-not-indexes_fit.true)

pub indexes_fit-requires-2 : goal.indexes_fit-requires-2
indexes_fit-requires-2 c =
    omega (arith, (small (of_mode_is c.before.before.before.before.before.before.before.before.before.before.before.before)).second)

pub returns : goal.returns
returns c =
    let s = c in
    c.indexes_fit-2.ensures
    ∙ last_decides _ s.requires.low s.requires.is
    (sym c.split_fits.ensures
    ∙ c.if-not-split_fits.false)
    (sym c.endpoints_fit.ensures
    ∙ c.if-not-endpoints_fit.false)
    (sym c.p_fits.ensures ∙ c.if-not-p_fits.false)
    (sym c.indexes_fit.ensures ∙ c.if-not-indexes_fit.false)
