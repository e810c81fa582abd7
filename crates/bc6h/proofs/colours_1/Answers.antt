-- All colours of one subset.
-- Assumes nothing.
use Rattle.bc6h.proofs.Pictures.{any_most, doubled_widened, sixteen_widened}
use Rattle.bc6h.proofs.colours_1.Goals as goal

pub palette_1-requires : goal.palette_1-requires
palette_1-requires g c = (
  sixteen_widened g.S.Sign.signed c.args.width c.args.v (any_most c.requires.0) c.requires.0.fit c.widened_1.ensures,
  doubled_widened g.S.Sign.signed c.args.width c.args.v c.requires.1 c.widened_1.ensures,
)
