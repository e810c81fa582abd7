-- `fits::pair_fits` meets its contract.
-- Assumes nothing.
use Rattle.bc7_places.proofs.fits.Bytes.{pair_test}
use borrow.Author.Rules.{rules}
use Rattle.bc7_places.proofs.fits.pair_fits.Goals as goal
use Rattle.bc7_places.proofs.fits.pair_fits.Goals.{Start}

pub returns : goal.returns
returns c = pair_test c.args.colour c.args.alpha c.requires.colour c.requires.alpha c.args.bytes (search rules)
