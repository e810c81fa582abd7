-- `run_of` meets its contract.
-- Assumes nothing.
use mathlib.Core.Path.{◌≡◌}
use Prim.Native.Nat.{ℕ}
use native.Mathlib.Omega.{arith}
use Rattle.head_rules.specs.Answers.{Head}
use Rattle.listing_rules.specs.Machine.{InBlocks, run_of}
use Rattle.listing_rules.proofs.Runs.{run_full, run_inside, run_rest, run_within}
use Rattle.listing.specs.Promised.{TellsRun}
use Rattle.listing.proofs.run_of.Goals as goal

-- no run is longer than the buffer, or goes beyond the sheet
told : {h : Head} {from r : ℕ} → InBlocks h from → r ≡ run_of h from → TellsRun h from r
told i e = record { same = e; few = omega (arith, e, run_within i); inside = omega (arith, e, run_inside i) }

pub returns-then-left-lt-MOST_IN_RUN : goal.returns-then-left-lt-MOST_IN_RUN
returns-then-left-lt-MOST_IN_RUN c =
    let b = c in
    told b.requires (rw b.blocks_across-columns.ensures (run_rest b.requires (rw b.blocks_across-columns.ensures at c.if-left-lt-MOST_IN_RUN.true)))

pub returns-else-left-lt-MOST_IN_RUN : goal.returns-else-left-lt-MOST_IN_RUN
returns-else-left-lt-MOST_IN_RUN c =
    let b = c in
    told b.requires (run_full b.requires (rw b.blocks_across-columns.ensures at c.if-left-lt-MOST_IN_RUN.false))
