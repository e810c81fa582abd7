-- `list` meets its contract.
-- Assumes nothing.
use native.Mathlib.Omega.{arith}
use mathlib.Core.Bool.{true, false}
use mathlib.Core.Path.{ap, subst}
use lib.Dec.{eqb}
use lib.ListN.{length}
use Rattle.head_rules.specs.Answers.{reader_known}
use Rattle.laws.proofs.Padding.{written_none}
use Rattle.listing_rules.specs.declared.Phase.{Phase}
use Rattle.listing_rules.specs.Machine.{machine_known, ReadyIn, spare_in, wanted_in}
use Rattle.listing_rules.proofs.Room.{spare_ended, spare_next}
use Rattle.listing_rules.proofs.Runs.{run_inside}
use Rattle.listing.proofs.list.Goals as goal

pub list_run-requires : goal.list_run-requires
list_run-requires c =
    let a = c in
    let at = c.in-Blocks.is in
    let inside = subst (λ (p : Phase). ReadyIn p (machine_known a.args.machine)) at a.requires.ready in
    let few = ap (λ (p : Phase). wanted_in p (machine_known a.args.machine)) at in
    let run = run_inside inside in
    record { inside = inside; blocks = record { sized = inside.sized; there = omega (arith, run, few); fits = omega (arith, ap spare_in at) } }

pub returns-in-Blocks : goal.returns-in-Blocks
returns-in-Blocks c =
    let told = c in
    let a = told in
    let spared = spare_next (reader_known a.args.machine.reader) a.args.machine.from (length a.args.came.now) in
    rw told.in-Blocks.is
    (record { text = told.list_run.ensures.text; room = omega (arith, told.list_run.ensures, spared) })

pub returns-in-End : goal.returns-in-End
returns-in-End c =
    let told = c in
    let a = told in
    let spared = spare_ended (eqb (length a.args.came.now) 0) in
    rw told.in-End.is
    (record { text = told.refuse_unless.ensures.text; room = omega (arith, told.refuse_unless.ensures, spared) })

pub returns-in-Listed : goal.returns-in-Listed
returns-in-Listed c =
    rw c.in-Listed.is (record { text = written_none; room = omega (arith, spare_ended true) })

pub returns-in-Refused : goal.returns-in-Refused
returns-in-Refused c =
    rw c.in-Refused.is (record { text = written_none; room = omega (arith, spare_ended false) })
