-- What a line replacement leaves of a sheet, and what a list of them leaves: it acts on the block that it names (OnBlocks).
-- Assumes nothing.
use mathlib.Core.Path.{◌≡◌, refl, ap, ◌∙◌}
use mathlib.Core.Logic.{◌≢◌}
use mathlib.Core.List.{List}
use Prim.Native.Nat.{ℕ}
use Rattle.line_rules.specs.declared.Replacement.{Replacement}
use Rattle.laws.proofs.Refusals.{Answers, accepted_when, answers, none, rules}
use Rattle.head_rules.specs.Geometry.{place_of}
use Rattle.head_rules.specs.Heads.{read_head}
use Rattle.head_rules.specs.Numbers.{Bytes}
use Rattle.head_rules.proofs.Theorems.{head_answers}
use Rattle.line_rules.specs.Replace.{after, call_of, refusal, replaced}
use Rattle.line_rules.proofs.Accepting.{on_block_is}
use Rattle.line_rules.proofs.Blocks.{after_sixteen}
use Rattle.line_rules.proofs.Theorems.{refused_same}
use Rattle.bcn_format.specs.Block.{put_block}
use Rattle.sheet_rules.specs.Calls.{SheetCall, on_block, refusal_on, sheet_with}
use Rattle.sheet_rules.specs.Sheets.{block_in, replaced_in, sheet_refusal, sheet_rules}
use Rattle.sheet_rules.proofs.OnBlocks.{Acting, sixteen}
use Rattle.sheet_rules.proofs.Finding.{finding_in_words}
use Rattle.sheet_rules.proofs.Replacing.{accepted_is, refused_is, replacing}

pub unchanged : (s : List ℕ) (c : SheetCall) → refusal_on s c ≢ 0 → sheet_with s c ≡ s
unchanged s c = refused_is s c.block c.line c.given

block_is : (s : List ℕ) (c : SheetCall) → (replaced_in (read_head s) s c.block c.line c.given).value ≡ after (block_in s c.block) (on_block c)
unfolding replaced_in replaced
block_is s c = refl

-- a call on a sheet acts on the block that it names, as the block's call does
pub acting : Acting refusal_on sheet_with (λ (c : SheetCall). c.block) on_block refusal after
unfolding replaced_in replaced
acting = record {
  answers = λ s c. replacing s c.block c.line c.given;
  accepted = λ s c e. accepted_is s c.block c.line c.given e ∙ ap (put_block s (place_of (read_head s) c.block)) (block_is s c);
  refused = unchanged;
  stays = refused_same;
  fits = after_sixteen;
}

-- the rules of a call on a sheet
pub in_words : (s : List ℕ) → Bytes s → (b l : ℕ) (new : Replacement) → Answers (sheet_refusal (read_head s) s b l new) (sheet_rules s b l new)
unfolding sheet_refusal replaced_in replaced
in_words s y b l new = answers (
    rules (finding_in_words s b) λ (f, (o, (w, (h, (k, (v, (z, (long, (n, u))))))))).
    rules (on_block_is (block_in s b)
    (sixteen s (record { bytes = y; told = (accepted_when (head_answers s)).1 (f, (o, (w, (h, (k, (v, (z, tt))))))); long = long }) b n)
    (call_of l new)) λ m.
    none)
