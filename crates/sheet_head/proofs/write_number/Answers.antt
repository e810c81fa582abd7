-- `write_number` meets its contract.
-- Assumes nothing.
use mathlib.Core.Path.{◌∙◌, ap}
use mathlib.Core.List.{[], ◌∷◌}
use Prim.Native.Nat.{◌+◌, ◌/◌, ◌%◌}
use Rattle.head_rules.specs.Answers.{HeadBytes}
use Rattle.head_rules.specs.Heads.{with_bytes}
use native.Mathlib.Omega.{arith}
use Rattle.head_rules.proofs.Writing.{one_group, three_groups, two_groups}
use Rattle.sheet_head.proofs.write_number.Goals as goal

pub returns-then-n-lt128 : goal.returns-then-n-lt128
returns-then-n-lt128 c = c.push.ensures.same ∙ one_group _ _ (omega arith)

pub returns-then-above-lt128 : goal.returns-then-above-lt128
returns-then-above-lt128 c =
    c.push-then-above-lt128.ensures.same ∙ ap (λ (x : HeadBytes). with_bytes x (c.args.n / 128 ∷ [])) c.push-one.ensures.same
    ∙ two_groups _ _ (omega arith) (omega arith)

pub returns : goal.returns
returns c =
    let n = c.args.n in
    c.push-2.ensures.same
    ∙ ap (λ (x : HeadBytes). with_bytes x (n / 128 / 128 ∷ []))
    (c.push-two.ensures.same ∙ ap (λ (x : HeadBytes). with_bytes x ((n / 128 % 128 + 128) ∷ [])) c.push-one.ensures.same)
    ∙ three_groups _ _ (omega arith) (omega arith) (omega arith)
