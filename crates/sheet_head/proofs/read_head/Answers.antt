-- `read_head` meets its contract.
-- Assumes nothing.
use mathlib.Core.Path.{◌≡◌, ◌∙◌, ap, sym}
use Prim.Native.Nat.{suc, ◌+◌, ◌-◌}
use native.Mathlib.Omega.{arith}
use Rattle.head_rules.specs.Answers.{HeadReader, head_answered}
use Rattle.head_rules.specs.Reader.{has_ended, next_number}
use Rattle.head_rules.proofs.Answers.{passed_up}
use Rattle.head_rules.proofs.Bytewise.{all_numbers}
use Rattle.sheet_head.proofs.Behind.{behind, behind_ended}
use Rattle.sheet_head.proofs.read_head.Goals as goal

pub loop-i-init : goal.loop-i-init
unfolding behind
loop-i-init c = (omega arith, omega (arith, ap (λ (r : HeadReader). r.head.start) c.start-reader.ensures), c.start-reader.ensures)

-- ended before the last round
pub returns-then-has_ended : goal.returns-then-has_ended
unfolding behind
returns-then-has_ended c =
    let s = c.args.sheet.now in
    let i = c.loop-i.i in
    let e = c.loop-i.invariant.2 in
    ap (λ (r : HeadReader). r.head)
    (e ∙ sym (behind_ended s (4 - i) i 4 (omega (arith, c.loop-i.invariant.1)) (sym (sym c.if-has_ended.true ∙ c.has_ended.ensures ∙ ap has_ended e))))
    ∙ all_numbers s

-- refused: no number behind is looked at
pub returns-in_err-reader : goal.returns-in_err-reader
unfolding behind
returns-in_err-reader c =
    let s = c.args.sheet.now in
    let i = c.loop-i.i in
    let one_more : suc i ≡ i + 1 = omega arith in
    let e = c.in_err-reader.ensures.same ∙ ap (next_number s) c.loop-i.invariant.2 ∙ ap (behind s) one_more in
    ap head_answered (passed_up _ c.from_residual.ensures.1)
    ∙ ap (λ (r : HeadReader). r.head)
    (e ∙ sym (behind_ended s (3 - i) (i + 1) 4 (omega arith) (sym (ap has_ended e)))) ∙ all_numbers s

pub loop-i-preserved : goal.loop-i-preserved
unfolding behind
loop-i-preserved c =
    let s = c.args.sheet.now in
    let next = c.in_ok-reader.ensures in
    let one_more : suc c.loop-i.i ≡ c.loop-i.i + 1 = omega arith in
    (omega arith, omega (arith, next.near), next.same ∙ ap (next_number s) c.loop-i.invariant.2 ∙ ap (behind s) one_more)

pub returns : goal.returns
unfolding behind
returns c =
    let s = c.args.sheet.now in
    let all : c.loop-i.i ≡ 4 = omega arith in
    ap (λ (r : HeadReader). r.head) (c.loop-i.invariant.2 ∙ ap (behind s) all) ∙ all_numbers s
