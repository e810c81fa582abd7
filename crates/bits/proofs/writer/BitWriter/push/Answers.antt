-- `writer::BitWriter::push` meets its contract.
-- Assumes nothing.
use native.Mathlib.Omega.{arith}
use Rattle.bits.proofs.Puts.{push_high, push_low, push_none}
use Rattle.bits.proofs.writer.BitWriter.push.Goals as goal

pub returns-then-at-lt64 : goal.returns-then-at-lt64
returns-then-at-lt64 c =
    let s = c in
    push_low s.args.self s.args.value s.args.count (omega arith) s.requires (omega arith)

pub returns-then-at-lt128 : goal.returns-then-at-lt128
returns-then-at-lt128 c =
    let s = c in
    push_high s.args.self s.args.value s.args.count (omega arith) s.requires (omega arith)

pub returns-else-at-lt128 : goal.returns-else-at-lt128
returns-else-at-lt128 c =
    let s = c in
    push_none s.args.self s.args.value s.args.count (omega arith) s.requires (omega arith)
