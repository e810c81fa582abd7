-- One pixel with two channels exchanged.
-- Assumes nothing.
use mathlib.Core.Path.{ap, ◌∙◌}
use mathlib.Core.List.{[], ◌∷◌}
use lib.Dec.{eqb}
use lib.ListN.{get_or}
use Rattle.laws.specs.Tables.{pick}
use Rattle.bc7_unpartitioned.proofs.Laws.{chosen_one_by_one}
use Rattle.bc7_unpartitioned.proofs.swap_channel.Goals as goal

pub returns : goal.returns
returns c =
    let or-green = c in
    let red-or-alpha = or-green in
    let b = red-or-alpha in
    let g = b in
    let r = g in
    let s = r in
    let p = s.args.p in
    let rotation = s.args.rotation in
    let alpha =
    c.chosen-a.ensures
    ∙ ap (pick (eqb rotation 3) (get_or p 2 0))
    (or-green.chosen-or_green.ensures ∙ ap (pick (eqb rotation 2) (get_or p 1 0)) red-or-alpha.chosen-red_or_alpha.ensures) in
    (λ i. r.chosen-r.ensures i ∷ g.chosen-g.ensures i ∷ b.chosen-b.ensures i ∷ alpha i ∷ []) ∙ chosen_one_by_one rotation s.requires p
