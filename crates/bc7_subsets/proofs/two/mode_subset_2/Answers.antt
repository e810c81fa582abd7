-- `mode_subset_2`: what the function of the mode shows.
-- Assumes nothing.
use mathlib.Core.Path.{◌≡◌, ap, ◌∙◌}
use Rattle.bc7_fields.specs.Fields.{direct_pixels}
use Rattle.bits.proofs.On.{held_skipped}
use Rattle.bc7_subsets.proofs.Laws.{last_of_3}
use Rattle.bc7_subsets.proofs.two.mode_subset_2.Goals as goal
use Rattle.bc7_subsets.proofs.two.mode_subset_2.Goals.{In_default}

-- behind the other arms
the_last : (c : In_default) → c.args.mode ≡ 7
the_last c = last_of_3 _ 1 3 7 c.requires.mode c.in_default.in_default-own.rest.0.1 c.in_default.in_default-own.rest.1

pub returns-in-1 : goal.returns-in-1
returns-in-1 c = rw c.in-1.is (c.mode_1.ensures ∙ ap (direct_pixels 1) (held_skipped _ 2 c.skip.ensures))

pub returns-in-3 : goal.returns-in-3
returns-in-3 c = rw c.in-3.is (c.mode_3.ensures ∙ ap (direct_pixels 3) (held_skipped _ 4 c.skip-in-3.ensures))

pub returns-in_default : goal.returns-in_default
returns-in_default c = rw (the_last c.before.before) (c.mode_7.ensures ∙ ap (direct_pixels 7) (held_skipped _ 8 c.skip-in_default.ensures))
