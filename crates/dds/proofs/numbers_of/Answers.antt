-- `numbers_of` meets its contract.
-- Assumes nothing.
use mathlib.Core.Path.{ap}
use Prim.Native.Nat.{ℕ, ◌*◌}
use Rattle.head_rules.specs.Answers.{known}
use Rattle.dds.proofs.Headers.{numbers_laid}
use Rattle.dds.proofs.numbers_of.Goals as goal

pub returns : goal.returns
returns c =
    numbers_laid (known c.args.head) _ _ (ap (λ (n : ℕ). 16 * n) c.blocks_of.ensures.same) c.format_of.ensures
