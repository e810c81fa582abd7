-- `fixup_indexes_3` meets its contract.
-- Assumes nothing.
use Prim.Native.Nat.{ℕ, ◌/◌, ◌%◌, ◌^◌}
use mathlib.Core.Path.{ap, ◌∙◌}
use lib.Pow.{high, low}
use borrow.Author.Rules.{rules}
use Rattle.partitions.specs.Maps.{map3}
use Rattle.partitions.proofs.Maps.{second_below}
use Rattle.partitions.proofs.fixup_indexes_3.Goals as goal

pub returns : goal.returns
returns c = λ j. record {
  fixup_index_2 = (ap (λ (x : ℕ). x % 2 ^ 4) c.both_fixups_3-both.ensures ∙ low (map3 c.args.id).fixup_index_3 4
      (second_below c.args.id (search rules))) j;
  fixup_index_3 = (ap (λ (x : ℕ). x / 2 ^ 4) c.both_fixups_3-both.ensures ∙ high (map3 c.args.id).fixup_index_3 4
      (second_below c.args.id (search rules))) j;
}
