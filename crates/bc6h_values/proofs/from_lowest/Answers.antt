-- A value moved round by half of its room.
-- Assumes nothing.
use Rattle.bc6h_values.proofs.Words.{round_large, round_small}
use Rattle.bc6h_values.proofs.from_lowest.Goals as goal

pub returns : goal.returns
returns c = (λ h. round_small _ _ h, λ h. round_large _ _ h c.requires.1)
