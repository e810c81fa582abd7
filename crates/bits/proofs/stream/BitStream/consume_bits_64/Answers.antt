-- `stream::BitStream::consume_bits_64` meets its contract.
-- Assumes nothing.
use mathlib.Core.Path.{◌≡◌, ap, sym, ◌∙◌}
use native.Mathlib.Omega.{arith}
use Rattle.bcn_format.specs.Block.{field}
use Rattle.bits.specs.Stream.{accepted, held}
use Rattle.bits.proofs.On.{read_fits, read_short, reads}
use Rattle.bits.proofs.stream.BitStream.consume_bits_64.Goals as goal

pub returns-then-self-gt64 : goal.returns-then-self-gt64
returns-then-self-gt64 c =
    let s = c in
    reads s.args.self s.args.count (c.short.ensures ∙ sym (read_short s.args.self s.args.count (omega arith)))

pub returns : goal.returns
unfolding held field
returns c =
    let s = c in
    let all : s.args.count ≡ 64 = omega arith in
    rw all
    (reads s.args.self 64
    (ap accepted c.accepted.ensures ∙ rw (c.window.ensures (omega arith)) (sym (read_fits s.args.self 64 (omega arith)))))
