-- `stream::BitStream::consume` meets its contract.
-- Assumes nothing.
use mathlib.Core.Path.{ap, sym, ◌∙◌}
use native.Mathlib.Omega.{arith}
use Rattle.bits.specs.Stream.{accepted}
use Rattle.bits.proofs.On.{read_fits, read_short, reads}
use Rattle.bits.proofs.stream.BitStream.consume.Goals as goal

pub returns-then-self-count-gt128 : goal.returns-then-self-count-gt128
returns-then-self-count-gt128 c =
    let s = c in
    reads s.args.self s.args.count (c.short.ensures ∙ sym (read_short s.args.self s.args.count (omega arith)))

pub returns : goal.returns
returns c =
    let s = c in
    reads s.args.self s.args.count (ap accepted c.take.ensures.same ∙ sym (read_fits s.args.self s.args.count (omega arith)))
