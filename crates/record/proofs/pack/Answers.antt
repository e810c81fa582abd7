-- `pack` meets its contract.
-- Assumes nothing.
use mathlib.Core.Path.{◌≡◌, ◌∙◌, sym, ap}
use native.Mathlib.Omega.{arith}
use Rattle.laws.specs.Refusals.{here, then}
use Rattle.laws.proofs.Tests.{no_both}
use Rattle.bc7_format.specs.Modes.{kind_of_mode}
use Rattle.bc7_format.specs.Splits.{kind_of}
use Rattle.record_rules.proofs.Answering.{fits_at, fits_of, refused_as}
use Rattle.bc7_modes.specs.declared.ModeRow.{ModeRow}
use Rattle.record.specs.Fitting.{Full}
use Rattle.record.proofs.fits.Fits.{part_64}
use Rattle.record.proofs.Steps.{packs, tops_set, written}
use Rattle.record.proofs.pack.Goals as goal
use Rattle.record.proofs.pack.Goals.{Else-kind_of-row, Else-not-record_fits}

same_kind : (c : Else-kind_of-row) → kind_of c.args.«record».split
    ≡ kind_of_mode c.args.«record».mode
same_kind c = sym c.kind_of.ensures ∙ c.if-kind_of-row.false ∙ ap (λ (r : ModeRow). r.kind) c.mode_row-row.ensures

full : (c : Else-not-record_fits) → Full c.args.«record»
    c.mode_row-row.result
full c =
    let else2 = c in
    record {
      low = omega arith;
      is = else2.mode_row-row.ensures;
      kind = same_kind c.before.before;
      within = fits_at _ _ _ (sym c.record_fits.ensures ∙ c.if-not-record_fits.false);
    }

pub returns-then-mode-gt7 : goal.returns-then-mode-gt7
returns-then-mode-gt7 c = refused_as _ (here (λ low. omega (arith, c.if-mode-gt7.true)))

pub returns-then-kind_of-row : goal.returns-then-kind_of-row
returns-then-kind_of-row c =
    let kinds = c in
    refused_as _ (then c.if-mode-gt7.false
    (here (λ e. c.if-kind_of-row.true (kinds.kind_of.ensures ∙ e ∙ sym (ap (λ (r : ModeRow). r.kind) kinds.mode_row-row.ensures)))))

pub record_fits-requires : goal.record_fits-requires
record_fits-requires c = record { low = omega arith; is = c.mode_row-row.ensures }

pub returns-then-not-record_fits : goal.returns-then-not-record_fits
returns-then-not-record_fits c =
    let else2 = c in
    refused_as _ (then c.if-mode-gt7.false
    (then (same_kind c.before.before) (here (λ w. no_both (fits_of _ _ _ w)
    (sym c.record_fits.ensures ∙ c.if-not-record_fits.true)))))

pub anchors_of-anchors-requires : goal.anchors_of-anchors-requires
anchors_of-anchors-requires c = part_64 (full c)

pub anchors_fit-requires : goal.anchors_fit-requires
anchors_fit-requires c = record { full = full c.before; anchors_are = c.anchors_of-anchors.ensures }

pub returns-then-not-anchors_fit : goal.returns-then-not-anchors_fit
returns-then-not-anchors_fit c =
    let f = full (goal.at.returns-then-not-anchors_fit c).Else-not-record_fits in
    refused_as _ (then c.if-mode-gt7.false
    (then f.kind (then f.within (here (tops_set f (sym c.anchors_fit.ensures ∙ c.if-not-anchors_fit.true))))))

pub invariant_of-packing : goal.invariant_of-packing
invariant_of-packing c =
    record {
      packs = record {
        packs = packs (full (goal.at.invariant_of-packing c).Else-not-record_fits) (sym c.anchors_fit.ensures ∙ c.if-not-anchors_fit.false);
        anchors_are = c.anchors_of-anchors.ensures;
      };
    }

pub returns : goal.returns
returns c =
    written (full (goal.at.returns c).Else-not-record_fits) (sym c.anchors_fit.ensures ∙ c.if-not-anchors_fit.false) c.block.ensures
