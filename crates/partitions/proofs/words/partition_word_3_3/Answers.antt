-- `words::partition_word_3_3` meets its contract: each arm is what its string says.
-- Assumes nothing.
use mathlib.Core.Path.{◌∙◌}
use native.Mathlib.Nat.{add-zero}
use native.Mathlib.Omega.{arith}
use Rattle.bcn_format.specs.Partitions.{digits, marks, strings3}
use Rattle.partitions.specs.Words.{partition_word3, partition_word}
use Rattle.laws.proofs.Arms.{by_arms, eight_arms, no_more}
use Rattle.partitions.proofs.words.partition_word_3_3.Goals as goal

pub returns : goal.returns
unfolding strings3 digits marks partition_word
returns c =
    let m = c.match-id in
    add-zero m.word
    ∙ by_arms (partition_word3 3) c.args.id m.word m.branch-raw
    (eight_arms (omega arith) (eight_arms (omega arith) (no_more c.requires (λ p. p.in_default.in_default-own.rest))))
