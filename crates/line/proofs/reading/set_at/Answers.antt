-- `reading::set_at` meets its contract.
-- Assumes nothing.
use mathlib.Core.Path.{◌∙◌}
use Rattle.line.proofs.fields.Sets.{before_is}
use Rattle.line.specs.Reading.{set_at}
use Rattle.line.proofs.reading.set_at.Goals as goal

pub returns : goal.returns
unfolding set_at
returns c =
    let set = c in
    let from = set in
    let mask = from in
    let s = mask in
    let part = s.args.part in
    c.parts_of.ensures
    ∙ rw (
      before_is s.args.s s.args.kind s.args.at part 0 0 from.standing_at.ensures set.read_indexes-set.ensures,
      mask.mask_of-mask.ensures,
    )
