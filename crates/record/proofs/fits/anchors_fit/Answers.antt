-- `fits::anchors_fit` meets its contract.
-- Assumes nothing.
use mathlib.Core.Path.{◌∙◌, sym}
use native.Mathlib.Omega.{arith}
use Rattle.bc7_modes.specs.Modes.{OfMode}
use Rattle.bc7_modes.proofs.Bounds.{second_bits_is, small}
use Rattle.record.proofs.fits.Fits.{first_not, first_only, pixels, second_decides}
use Rattle.record.proofs.fits.anchors_fit.Goals as goal
use Rattle.record.proofs.fits.anchors_fit.Goals.{Start}

of_mode_is : (s : Start) → OfMode s.args.row
of_mode_is s = record { mode = _; low = s.requires.full.low; is = s.requires.full.is }

pub tops_zero-requires : goal.tops_zero-requires
tops_zero-requires c =
    let b = small (of_mode_is c.before) in
    record {
      width = record { least = omega (arith, b.least); most = b.most };
      pixels = pixels c.requires.full c.requires.anchors_are;
    }

pub returns-then-not-tops_zero : goal.returns-then-not-tops_zero
returns-then-not-tops_zero c =
    let s = c in
    first_not s.requires.full s.requires.anchors_are (sym c.tops_zero.ensures ∙ c.if-not-tops_zero.true)

pub returns-then-row-ne3 : goal.returns-then-row-ne3
returns-then-row-ne3 c =
    let s = c in
    first_only s.requires.full s.requires.anchors_are
    (sym c.tops_zero.ensures ∙ c.if-not-tops_zero.false)
    c.if-row-ne3.true

pub tops_zero-requires-2 : goal.tops_zero-requires-2
tops_zero-requires-2 c =
    let s = c.before.before.before.before.before.before in
    record {
      width = record { least = second_bits_is (of_mode_is s) c.if-row-ne3.false; most = (small (of_mode_is s)).second };
      pixels = pixels s.requires.full s.requires.anchors_are;
    }

pub returns : goal.returns
returns c =
    let s = c in
    c.tops_zero-2.ensures ∙ second_decides s.requires.full s.requires.anchors_are
    (sym c.tops_zero.ensures ∙ c.if-not-tops_zero.false)
