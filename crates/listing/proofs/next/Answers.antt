-- `next` meets its contract.
-- Assumes nothing.
use mathlib.Core.Path.{◌≡◌, ◌∙◌, ap, sym}
use mathlib.Core.List.{List}
use Prim.Native.Nat.{ℕ}
use Rattle.listing_rules.specs.Machine.{machine_known, Machine}
use Rattle.listing_rules.specs.declared.Phase.{Phase}
use Rattle.listing_rules.specs.Machine.{machine_known, Ready, next_in, next_of}
use Rattle.listing_rules.proofs.Rounds.{ready_next, rounds_next}
use Rattle.listing.specs.Promised.{GoesOnReady}
use Rattle.listing.proofs.next.Goals as goal

-- the next state is ready, and has fewer rounds to go
nexts : (m : Machine) (came : List ℕ) → Ready m → {n : Machine} → n ≡ next_of m came → GoesOnReady m came n
nexts m came h e = record { next = e; ready = rw e (ready_next m.phase m came h); fewer = rw e (rounds_next m.phase m came h) }

pub returns-in-Head : goal.returns-in-Head
returns-in-Head c =
    let a = c in
    nexts (machine_known a.args.machine) a.args.came.now a.requires
    (c.next_at_head.ensures ∙ sym (ap (λ (p : Phase). next_in p (machine_known a.args.machine) a.args.came.now) c.in-Head.is))

pub returns-in-Blocks : goal.returns-in-Blocks
returns-in-Blocks c =
    let a = c in
    nexts (machine_known a.args.machine) a.args.came.now a.requires
    (c.next_in_blocks.ensures ∙ sym (ap (λ (p : Phase). next_in p (machine_known a.args.machine) a.args.came.now) c.in-Blocks.is))

pub returns-in-End : goal.returns-in-End
returns-in-End c =
    let a = c in
    nexts (machine_known a.args.machine) a.args.came.now a.requires
    (c.stopped.ensures ∙ sym (ap (λ (p : Phase). next_in p (machine_known a.args.machine) a.args.came.now) c.in-End.is))

pub returns-in-Listed : goal.returns-in-Listed
returns-in-Listed c =
    let a = c in
    nexts (machine_known a.args.machine) a.args.came.now a.requires
    (c.stopped-in-Listed.ensures ∙ sym (ap (λ (p : Phase). next_in p (machine_known a.args.machine) a.args.came.now) c.in-Listed.is))

pub returns-in-Refused : goal.returns-in-Refused
returns-in-Refused c =
    let a = c in
    nexts (machine_known a.args.machine) a.args.came.now a.requires
    (c.stopped-in-Refused.ensures ∙ sym (ap (λ (p : Phase). next_in p (machine_known a.args.machine) a.args.came.now) c.in-Refused.is))
