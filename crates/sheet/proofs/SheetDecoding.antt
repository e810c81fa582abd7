-- The ways of `decode_sheet_row`: x is the head of the sheet, if it is whole.
-- Assumes nothing.
use mathlib.Core.Path.{◌≡◌, ◌∙◌, ap, sym, subst}
use mathlib.Core.Logic.{◌≢◌}
use mathlib.Core.List.{List}
use Prim.Native.Nat.{ℕ}
use lib.ListN.{length}
use Rattle.laws.specs.Refusals.{Given, here, then}
use Rattle.laws.proofs.Refusals.{Met, accepted_when, exactly}
use Rattle.head_rules.specs.Answers.{Head}
use Rattle.head_rules.specs.Geometry.{side_shown}
use Rattle.head_rules.specs.Heads.{Sized, read_head}
use Rattle.head_rules.specs.Whole.{Whole, whole_head, whole_refusal}
use Rattle.head_rules.proofs.Whole.{read_sized, whole_number, whole_told}
use Rattle.sheet_rules.specs.Rows.{row_bytes}
use Rattle.sheet_rules.specs.SheetRows.{DecodesSheetRow, row_behind_whole, row_blocks, sheet_row_refusal}
use Rattle.sheet_rules.proofs.SheetRows.{handing, row_drawn, row_undrawn}

module _ (s : List ℕ) (row : ℕ) (out : List ℕ) {x : Head} (ex : x ≡ whole_head (read_head s) s) where
  undrawn : {n : ℕ} → sheet_row_refusal s row (length out) ≡ n → n ≢ 0 → DecodesSheetRow s row out n out
  undrawn e ne = (sym e, sym (row_undrawn s row out (λ z. ne (sym e ∙ z))))

  pub not_whole : x.refusal ≢ 0 → DecodesSheetRow s row out x.refusal out
  not_whole ne =
      let e = whole_number (read_head s) s ex in undrawn ((exactly (handing s row (length out)) _).1 (here (λ z. ne (e ∙ z))) ∙ sym e) ne

  module _ (z : x.refusal ≡ 0) where
    fits : whole_refusal (read_head s) s ≡ 0
    fits = sym (whole_number (read_head s) s ex) ∙ z

    pub head_is : x ≡ read_head s
    head_is = (whole_told (read_head s) s ex z).1

    pub long_is : Whole x s
    long_is = subst (λ (h : Head). Whole h s) (sym head_is) (whole_told (read_head s) s ex z).0

    pub size_is : Sized x.width x.height
    size_is = read_sized s head_is z

    pub not_drawn : {n : ℕ} → Given (row_behind_whole x row (length out)) n → n ≢ 0 → DecodesSheetRow s row out n out
    not_drawn {n} g ne =
        undrawn ((exactly (handing s row (length out)) n).1
        (then fits (subst (λ (h : Head). Given (row_behind_whole h row (length out)) n) head_is g))) ne

    pub is_drawn_is : Met (row_behind_whole x row (length out)) → {scan : ℕ} → scan ≡ side_shown x.height row
        → {after : List ℕ} → after ≡ row_bytes x.width scan (row_blocks s row) → DecodesSheetRow s row out 0 after
    is_drawn_is m es ea =
        let e = (accepted_when (handing s row (length out))).1 (fits, subst (λ (h : Head). Met (row_behind_whole h row (length out))) head_is m) in (
          sym e,
          ea ∙ ap (λ (k : ℕ). row_bytes x.width k (row_blocks s row)) es
              ∙ ap (λ (h : Head). row_bytes h.width (side_shown h.height row) (row_blocks s row)) head_is ∙ sym (row_drawn s row out e),
        )
