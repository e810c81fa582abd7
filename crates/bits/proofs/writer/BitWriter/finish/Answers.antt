-- `writer::BitWriter::finish` meets its contract.
-- Assumes nothing.
use native.Mathlib.Omega.{arith}
use Rattle.bits.specs.Writer.{written}
use Rattle.bits.proofs.Bytes.{bytes_apart}
use Rattle.bits.proofs.writer.BitWriter.finish.Goals as goal

pub returns : goal.returns
unfolding written
returns c =
    let s = c.args.self in
    rw (c.copy_from_slice.ensures.after, c.copy_from_slice-2.ensures.after, c.to_le_bytes.ensures, c.to_le_bytes-2.ensures)
    (bytes_apart s.high s.low (omega arith))
