-- `named_block` meets its contract.
-- Assumes nothing.
use mathlib.Core.Path.{◌∙◌, ap, refl, sym}
use Rattle.std.specs.Prelude.{Result}
use Rattle.refusals.specs.declared.Refusal.{Refusal}
use Rattle.refusals.proofs.Answers.{number_not_0}
use Rattle.head_rules.specs.Answers.{known}
use Rattle.head_rules.proofs.Answers.{passed_up}
use Rattle.counts.specs.declared.NamedBlock.{NamedBlock}
use Rattle.counts.proofs.Counting.{mode_in_is, reads_whole, whole_blocks}
use Rattle.counts.proofs.Naming.{asked_of, block_named, named_in, no_block, no_sheet, number_named, room_of}
use Rattle.counts.proofs.named_block.Goals as goal

pub returns-in_err-head : goal.returns-in_err-head
returns-in_err-head c =
    no_sheet _ _ _ (reads_whole _ c.in_err-head.ensures) (number_not_0 c.in_err-head.field-0.0) (ap number_named (passed_up _ c.from_residual.ensures.1))

pub blocks_of-blocks-requires : goal.blocks_of-blocks-requires
blocks_of-blocks-requires c = (whole_blocks _ (reads_whole _ c.in_ok-head.ensures) refl).sized

pub returns-then-number-blocks : goal.returns-then-number-blocks
returns-then-number-blocks c =
    no_block _ _ _ (reads_whole _ c.in_ok-head.ensures) refl c.blocks_of-blocks.ensures c.if-number-blocks.true refl

pub place_of-at-requires : goal.place_of-at-requires
place_of-at-requires c = asked_of _ _ (reads_whole _ c.in_ok-head.ensures) refl c.blocks_of-blocks.ensures c.if-number-blocks.false

pub load-block-requires : goal.load-block-requires
load-block-requires c =
    room_of _ _ (reads_whole _ c.in_ok-head.ensures) refl c.blocks_of-blocks.ensures c.if-number-blocks.false c.place_of-at.ensures

pub is_opaque_at-opaque-requires : goal.is_opaque_at-opaque-requires
is_opaque_at-opaque-requires c = asked_of _ _ (reads_whole _ c.in_ok-head.ensures) refl c.blocks_of-blocks.ensures c.if-number-blocks.false

pub check_counts-requires : goal.check_counts-requires
check_counts-requires c = mode_in_is _ c.mode_of-mode.ensures

pub returns-in_err-check_counts : goal.returns-in_err-check_counts
returns-in_err-check_counts c =
    let q = c.in_err-check_counts.field-0.0 in
    let e = passed_up _ c.from_residual-in_err-check_counts.ensures.1 in
    block_named _ _ _ (reads_whole _ c.in_ok-head.ensures) refl c.blocks_of-blocks.ensures c.if-number-blocks.false _ (ap number_named e)
    (λ k z. absurd (number_not_0 q (sym (ap number_named e) ∙ ap number_named z))) c.place_of-at.ensures
    c.load-block.ensures c.mode_of-mode.ensures c.is_opaque_at-opaque.ensures c.in_err-check_counts.ensures

pub returns : goal.returns
returns c =
    block_named _ _ _ (reads_whole _ c.in_ok-head.ensures) refl c.blocks_of-blocks.ensures c.if-number-blocks.false _ refl
    (λ k z. let e = sym (ap (λ (r : Result NamedBlock Refusal). named_in r k) z) in record {
      head = ap (λ (x : NamedBlock). known x.head) e;
      at = ap (λ (x : NamedBlock). x.at) e;
      block = ap (λ (x : NamedBlock). x.block) e;
      mode = ap (λ (x : NamedBlock). x.mode) e;
      opaque = ap (λ (x : NamedBlock). x.opaque) e;
    }) c.place_of-at.ensures c.load-block.ensures c.mode_of-mode.ensures c.is_opaque_at-opaque.ensures c.in_ok-check_counts.ensures
