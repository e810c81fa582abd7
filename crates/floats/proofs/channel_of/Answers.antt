-- `channel_of` meets its contract: a NaN alone differs from itself, and any other float goes by its bits.
-- Assumes nothing.
use mathlib.Core.Path.{sym, ◌∙◌, subst}
use mathlib.Core.Bool.{Bool, not}
use lib.Dec.{T}
use Rattle.float_rules.specs.Floats.{channel_found_of}
use Rattle.float_rules.proofs.Nans.{differs_nan, same_no_nan}
use Rattle.float_rules.proofs.Theorems.{as_its_bits}
use Rattle.floats.proofs.channel_of.Goals as goal

pub returns-then-value : goal.returns-then-value
unfolding channel_found_of
returns-then-value c = rw (differs_nan c.args.value c.if-value.true)

pub float_to_bits-value : goal.float_to_bits-value
float_to_bits-value c = subst (λ (t : Bool). T (not t)) (sym (same_no_nan c.args.value c.if-value.false)) tt

pub returns : goal.returns
returns c =
    let x = c.args.value in
    c.channel_of_bits.ensures ∙ sym (as_its_bits x (same_no_nan x c.if-value.false))
