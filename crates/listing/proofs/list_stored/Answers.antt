-- `list_stored` meets its contract.
-- Assumes nothing.
use native.Mathlib.Omega.{arith}
use Rattle.head_rules.specs.Answers.{known}
use Rattle.head_rules.proofs.Orders.{numbered_in}
use Rattle.listing.proofs.list_stored.Goals as goal

pub list_block-requires : goal.list_block-requires
list_block-requires c =
    let a = c in
    record {
      sized = a.requires.sized;
      there = omega (arith, c.number_at.ensures.same, numbered_in (known a.args.head) a.args.place a.requires.there);
      fits = a.requires.fits;
    }
