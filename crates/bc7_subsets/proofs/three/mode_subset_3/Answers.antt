-- `mode_subset_3`: what the function of the mode shows.
-- Assumes nothing.
use mathlib.Core.Path.{◌≡◌, ap, ◌∙◌}
use Rattle.bc7_fields.specs.Fields.{direct_pixels}
use Rattle.bits.proofs.On.{held_skipped}
use Rattle.bc7_subsets.proofs.Laws.{last_of_2}
use Rattle.bc7_subsets.proofs.three.mode_subset_3.Goals as goal
use Rattle.bc7_subsets.proofs.three.mode_subset_3.Goals.{In_default}

-- behind the other arms
the_last : (c : In_default) → c.args.mode ≡ 2
the_last c = last_of_2 _ 0 2 c.requires.mode c.in_default.in_default-own.rest.1

pub returns-in-0 : goal.returns-in-0
returns-in-0 c = rw c.in-0.is (c.mode_0.ensures ∙ ap (direct_pixels 0) (held_skipped _ 1 c.skip.ensures))

pub returns-in_default : goal.returns-in_default
returns-in_default c = rw (the_last c.before.before) (c.mode_2.ensures ∙ ap (direct_pixels 2) (held_skipped _ 3 c.skip-in_default.ensures))
