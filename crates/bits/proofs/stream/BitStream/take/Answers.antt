-- `stream::BitStream::take` meets its contract.
-- Assumes nothing.
use mathlib.Core.Path.{◌∙◌}
use Rattle.bits.specs.Stream.{held}
use Rattle.bits.proofs.On.{in_window, takes}
use Rattle.bits.proofs.stream.BitStream.take.Goals as goal

pub returns : goal.returns
unfolding held
returns c =
    let s = c in
    let w = s.args.count in
    let value = in_window _ _ s.args.self.at w s.requires.narrow c.window.ensures s.requires.inside in
    takes s.args.self w (c.accepted.ensures ∙ rw value)
