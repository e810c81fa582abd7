-- `splits::anchors_of` meets its contract.
-- Assumes nothing.
use mathlib.Core.Path.{ap, ◌≡◌, subst, sym, ◌∙◌}
use Prim.Native.Nat.{◌<◌}
use Rattle.bc7_format.specs.Splits.{partition}
use Rattle.bc7_format.specs.declared.Split.{Split}
use Rattle.bc7_places.specs.Splits.{anchors_of}
use Rattle.bc7_places.proofs.splits.AnchorPixels.{anchors_two, anchors_three}
use Rattle.bc7_places.proofs.splits.anchors_of.Goals as goal

low : {s t : Split} → partition s < 64 → s ≡ t → partition t < 64
low h e = subst (λ (s : Split). partition s < 64) e h

pub returns-in-Two : goal.returns-in-Two
returns-in-Two c =
    rw c.fixup_index_2.ensures (anchors_two _ (low c.requires c.in-Two.is) ∙ sym (ap anchors_of c.in-Two.is))

pub returns-in-Three : goal.returns-in-Three
returns-in-Three c =
    rw c.fixup_indexes_3-fixups.ensures (anchors_three _ (low c.requires c.in-Three.is) ∙ sym (ap anchors_of c.in-Three.is))
