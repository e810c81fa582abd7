-- What the steps of taking apart and of packing make together.
-- Assumes nothing.
use mathlib.Core.Path.{◌≡◌, sym, ap, ◌∙◌, subst}
use mathlib.Core.Logic.{◌≢◌}
use mathlib.Core.List.{List}
use Prim.Native.Nat.{ℕ, ◌<◌}
use Prim.Native.Nat.{◌≤◌}
use native.Mathlib.Omega.{arith}
use mathlib.Core.Bool.{true, false}
use Rattle.record_rules.specs.declared.Record.{Record}
use Rattle.bc7_modes.specs.declared.ModeRow.{ModeRow}
use Rattle.laws.proofs.Tests.{no_both}
use Rattle.bc7_format.specs.Places.{block_of}
use Rattle.bc7_format.specs.Splits.{anchors}
use Rattle.record_rules.specs.Answers.{TopsZero}
use Rattle.record_rules.proofs.Answering.{zero_tops_stored, fits_at, fits_of, packed_as_is, stored_zero_tops}
use Rattle.record.specs.Fitting.{Full, stored_fit}
use Rattle.record.specs.Writing.{Packable}
use Rattle.bc7_format.specs.Modes.{mode_of}
use Rattle.bc7_format.proofs.Modes.{mode_le_8}
use Rattle.record_rules.specs.Records.{packed, packed_as, record_of, says, taken_apart, unpacked_as, zero_record}
use Rattle.record_rules.proofs.Packing.{apart_open, apart_reserved}

-- TAKING APART
pub reserved : (bs : List ℕ) {m : ℕ} → m ≡ mode_of bs → m ≡ 8 → unpacked_as 1 zero_record ≡ taken_apart bs
reserved bs e h = sym (apart_reserved bs (sym e ∙ h))

module _ (bs : List ℕ) {m : ℕ} (em : m ≡ mode_of bs) (not_8 : m ≢ 8) where
  low : mode_of bs < 8
  low = let n : mode_of bs ≢ 8 = λ z. not_8 (em ∙ z) in omega (arith, mode_le_8 bs)

  pub mode_low : m < 8
  mode_low = subst (λ (m : ℕ). m < 8) (sym em) low

  pub accepted : unpacked_as 0 (record_of bs) ≡ taken_apart bs
  accepted = sym (apart_open bs low)

-- PACKING: a record in which everything fits its full width
module _ {r : Record} {row : ModeRow} (full : Full r row) where
  -- and then it packs
  pub packs : stored_fit r ≡ true → Packable r row
  packs e = record { low = full.low; is = full.is; kind = full.kind; fits = fits_at r.mode (anchors r.split) (says r) e }

  -- what packing answers
  pub tops_set : stored_fit r ≡ false → TopsZero r → ⊥
  tops_set f t = no_both (fits_of _ _ _ (zero_tops_stored r full.within t)) f

  pub written : stored_fit r ≡ true → {bs : List ℕ} → bs ≡ block_of r.mode r.split (says r) → packed_as 0 bs ≡ packed r
  written f e =
      ap (packed_as 0) e
      ∙ packed_as_is r (let low : r.mode ≤ 7 = omega (arith, full.low) in
      (low, (full.kind, (full.within, (stored_zero_tops r (fits_at _ _ _ f), tt)))))
