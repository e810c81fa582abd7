-- What import answers and leaves, as it is promised to C: the head beside the sheet.
-- Assumes nothing.
use Prim.Native.Nat.{ℕ}
use mathlib.Core.Path.{◌≡◌, ◌∙◌, ap, ap₂, sym}
use mathlib.Core.Logic.{◌≢◌}
use mathlib.Core.List.{List, [], ◌∷◌}
use borrow.Author.Tests.{ne_eqb}
use lib.ListN.{length}
use Rattle.laws.proofs.Refusals.{answer_0}
use Rattle.head_rules.specs.Answers.{Head}
use Rattle.head_rules.specs.Colours.{colour_number}
use Rattle.dds_rules.specs.Files.{head_made, import_after_up_to, import_refusal, sheet_made}
use Rattle.dds_rules.specs.Promises.{Imported}
use Rattle.dds_rules.proofs.Theorems.{import_answers, import_answers_head, refused_import_leaves}
use Rattle.rinchovek_rules.specs.Promises.{ImportsColour, ImportsDds, colour_head_numbers}

module _ (dds out : List ℕ) {x : Head} {after : List ℕ} (p : Imported dds out x after) where
  refusal_is : x.refusal ≡ import_refusal dds (length out)
  refusal_is = ap (λ (h : Head). h.refusal) p.0 ∙ import_answers dds (length out)

  pub imports : ImportsDds dds out x.refusal after
  imports = record { answers = refusal_is; leaves = p.1 }

  pub imports_refused : (head : List ℕ) → x.refusal ≢ 0 → ImportsColour dds (out, head) x.refusal (after, head)
  imports_refused head ne = record {
    answers = refusal_is;
    leaves = ap {B = List ℕ × List ℕ} (λ (l : List ℕ). (l, head)) (refused_import_leaves dds out x after p ne)
        ∙ sym (rw (ne_eqb (import_refusal dds (length out)) 0 (λ z. ne (refusal_is ∙ z))));
  }

  module _ (z : x.refusal ≡ 0) where
    taken : import_refusal dds (length out) ≡ 0
    taken = sym refusal_is ∙ z

    made : after ≡ sheet_made dds
    unfolding import_after_up_to
    made = p.1 ∙ answer_0 (sheet_made dds) out taken

    pub imports_with_head : (head : List ℕ) {n : ℕ} → n ≡ colour_number x.colour_space
        → ImportsColour dds (out, head) 0 (after, x.width ∷ x.height ∷ x.start ∷ n ∷ [])
    imports_with_head head e = record {
      answers = sym taken;
      leaves =
          ap₂ {C = List ℕ × List ℕ} (λ a b. (a, b)) made
          (ap (λ (m : ℕ). x.width ∷ x.height ∷ x.start ∷ m ∷ []) e ∙ ap colour_head_numbers (p.0 ∙ import_answers_head dds (length out) taken))
          ∙ sym (answer_0 (sheet_made dds, colour_head_numbers (head_made dds)) (out, head) taken);
    }
