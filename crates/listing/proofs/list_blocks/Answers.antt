-- `list_blocks` meets its contract.
-- Assumes nothing.
use native.Mathlib.Omega.{arith}
use mathlib.Core.Path.{◌≡◌}
use Prim.Native.Nat.{◌/◌}
use lib.ListN.{length}
use Rattle.head_rules.specs.Answers.{known}
use Rattle.listing_rules.specs.Listing.{listed}
use Rattle.listing_rules.proofs.Rounds.{few_in_all}
use Rattle.listing.proofs.Listed.{texts_more, texts_none}
use Rattle.listing.proofs.list_blocks.Goals as goal

pub loop-k-init : goal.loop-k-init
loop-k-init c = (omega arith, omega arith, texts_none _ _ _ _ _)

pub overflow_cast-k : goal.overflow_cast-k
overflow_cast-k c = let s = c in omega (arith, few_in_all (known s.args.head) s.requires.sized)

pub overflow_add-from : goal.overflow_add-from
overflow_add-from c = let s = c in omega (arith, few_in_all (known s.args.head) s.requires.sized)

pub loop-k-preserved : goal.loop-k-preserved
loop-k-preserved c =
    let b = c in
    let l = b in (
      omega arith,
      omega arith,
      texts_more _ _ _ _ _ l.loop-k.k l.loop-k.invariant.2
          (rw b.load.ensures at b.list_stored-next.ensures.text),
    )

pub returns : goal.returns
unfolding listed
returns c =
    let e = c.loop-k.invariant.2 in
    let a = c.args in
    let all : c.loop-k.k ≡ length a.blocks.now / 16 = omega arith in
    record { text = rw (← all) e; within = omega arith }
