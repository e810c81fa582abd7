-- `store` meets its contract.
-- Assumes nothing.
use mathlib.Core.Path.{◌≡◌}
use lib.ListN.{length}
use borrow.Author.Rules.{rules}
use Rattle.block_bytes.proofs.Copied.{stored}
use Rattle.block_bytes.proofs.store.Goals as goal

pub returns : goal.returns
returns c =
    let long : length c.args.block ≡ 16 = search rules in
    rw c.copy_from_slice.ensures.after (stored c.args.s.now c.args.at c.args.block c.requires long)
