-- `recount` meets its contract.
-- Assumes nothing.
use mathlib.Core.Path.{◌≡◌}
use native.Mathlib.Omega.{arith}
use lib.ListN.{length}
use Rattle.counts.proofs.Recounting.{both_changed, room_left}
use borrow.Author.Rules.{rules}
use Rattle.counts.proofs.recount.Goals as goal
use Rattle.counts.proofs.recount.Goals.{Start}

size : (s : Start) → length s.args.counts.modes ≡ 9
size s = search rules

pub overflow_add-modes : goal.overflow_add-modes
overflow_add-modes c = omega (arith, room_left c.requires (size c.before))

pub returns : goal.returns
returns c = both_changed c.requires (search rules) c.from.ensures c.from-2.ensures
