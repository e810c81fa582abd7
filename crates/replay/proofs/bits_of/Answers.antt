-- `bits_of`: a float that does not differ from itself has bits of its own.
-- Assumes nothing.
use mathlib.Core.Path.{sym, subst}
use mathlib.Core.Bool.{Bool, not}
use lib.Dec.{T}
use Rattle.float_rules.proofs.Nans.{same_no_nan}
use Rattle.replay.proofs.bits_of.Goals as goal

pub float_to_bits-result : goal.float_to_bits-result
float_to_bits-result c = subst (λ (t : Bool). T (not t)) (sym (same_no_nan c.args.value c.if-value.false)) tt
