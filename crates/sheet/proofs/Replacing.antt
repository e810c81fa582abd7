-- The ways of `replace_in_sheet`.
-- Assumes nothing.
use mathlib.Core.Path.{◌≡◌, ◌∙◌, ap, ap₂, sym}
use mathlib.Core.List.{List}
use Prim.Native.Nat.{ℕ}
use Rattle.bcn_format.specs.Block.{block_at, put_block}
use Rattle.head_rules.specs.Heads.{read_head}
use Rattle.line_rules.specs.declared.Replacement.{Replacement}
use Rattle.refusals.specs.Answers.{Answer}
use Rattle.laws.specs.Refusals.{here, then}
use Rattle.laws.proofs.Refusals.{exactly, handed_last}
use Rattle.line_rules.specs.Replace.{replaced}
use Rattle.sheet_rules.specs.Sheets.{block_by, replaced_in, sheet_after, sheet_refusal}
use Rattle.sheet_rules.proofs.Replacing.{accepted_is, handing, refused_is}
use Rattle.sheet.specs.Found.{find_block}
use Rattle.sheet.proofs.blocks.Finding.{at_is, refusal_is, told}

module _ (s : List ℕ) (b l : ℕ) (new : Replacement) where
  refused : {r : ℕ} → sheet_refusal (read_head s) s b l new ≡ r → (r ≡ 0 → ⊥)
      → (r ≡ sheet_refusal (read_head s) s b l new) × (s ≡ sheet_after (read_head s) s b l new)
  refused e ne = (sym e, sym (refused_is s b l new (λ z. ne (sym e ∙ z))))

  module _ {f : Answer ℕ} (ef : f ≡ find_block s b) where
    pub not_found : (f.refusal ≡ 0 → ⊥) → (f.refusal ≡ sheet_refusal (read_head s) s b l new) × (s ≡ sheet_after (read_head s) s b l new)
    not_found ne = refused ((exactly (handing s b l new) _).1 (rw (refusal_is s b ef) (here (rw (refusal_is s b ef) at ne)))) ne

    module _ (a : f.refusal ≡ 0) where
      module _ {block : List ℕ} (eb : block ≡ block_at s f.value) {r : Answer (List ℕ)} (er : r ≡ replaced block l new) where
        answer_is : r ≡ replaced_in (read_head s) s b l new
        unfolding replaced_in block_by
        answer_is = er ∙ ap (λ (k : List ℕ). replaced k l new) eb ∙ ap (λ (at : ℕ). replaced (block_at s at) l new) (at_is s b ef a)

        refusal_then : sheet_refusal (read_head s) s b l new ≡ r.refusal
        refusal_then = (exactly (handing s b l new) _).1 (then (told s b ef a) (handed_last _)) ∙ ap (λ (x : Answer (List ℕ)). x.refusal) (sym answer_is)

        pub not_replaced : (r.refusal ≡ 0 → ⊥) → (r.refusal ≡ sheet_refusal (read_head s) s b l new) × (s ≡ sheet_after (read_head s) s b l new)
        not_replaced ne = refused refusal_then ne

        pub replaced_stored : r.refusal ≡ 0 → {after : List ℕ} → after ≡ put_block s f.value r.value → (0 ≡ sheet_refusal (read_head s) s b l new)
            × (after ≡ sheet_after (read_head s) s b l new)
        replaced_stored z e =
            let q = refusal_then ∙ z in
            (sym q, e ∙ ap₂ (λ (at : ℕ) (x : Answer (List ℕ)). put_block s at x.value) (at_is s b ef a) answer_is ∙ sym (accepted_is s b l new q))
