-- `output::put_scanline` meets its contract.
-- Assumes nothing.
use Rattle.sheet.proofs.output.Scanlines.{Scanline}
use Rattle.sheet.proofs.output.put_scanline.Given as goal

abbrev pub invariant-loop-k : goal.invariant-loop-k
invariant-loop-k l = Scanline l.fn.px l.fn.y l.fn.at l.initial.out l.k l.out
