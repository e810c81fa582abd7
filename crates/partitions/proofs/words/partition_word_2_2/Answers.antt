-- `words::partition_word_2_2` meets its contract: each arm is what its string says.
-- Assumes nothing.
use mathlib.Core.Path.{◌∙◌}
use native.Mathlib.Nat.{add-zero}
use native.Mathlib.Omega.{arith}
use Rattle.bcn_format.specs.Partitions.{digits, marks, strings2}
use Rattle.partitions.specs.Words.{partition_word2, partition_word}
use Rattle.laws.proofs.Arms.{by_arms, eight_arms, no_more}
use Rattle.partitions.proofs.words.partition_word_2_2.Goals as goal

pub returns : goal.returns
unfolding strings2 digits marks partition_word
returns c =
    let m = c.match-id in
    add-zero m.word
    ∙ by_arms (partition_word2 2) c.args.id m.word m.branch-raw
    (eight_arms (omega arith) (eight_arms (omega arith) (eight_arms (omega arith) (eight_arms (omega arith) (
    eight_arms (omega arith) (eight_arms (omega arith) (eight_arms (omega arith) (eight_arms (omega arith)
    (no_more c.requires (λ p. p.in_default.in_default-own.rest))))))))))
