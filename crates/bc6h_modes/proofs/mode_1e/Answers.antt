-- Mode 1e: its fields by their runs, and its endpoints.
-- Assumes nothing.
use mathlib.Core.Path.{refl}
use Rattle.bc6h_modes.specs.Words.{whole}
use Rattle.bc6h_format.specs.Items.{is_of, items_from, items_of, long}
use Rattle.bc6h_format.specs.Modes.{bits_at, row_of, rows}
use Rattle.bc6h_modes.proofs.Rows.{first, known, other, sixteen}
use Rattle.bc6h_modes.proofs.Runs.{topped}
use Rattle.bc6h_modes.proofs.mode_1e.Goals as goal

pub returns : goal.returns
unfolding rows row_of items_of items_from is_of long bits_at
returns c =
    let n = whole c.args.words in
    let r = row_of 30 in
    let red = known r n 0 0 c.bits-rw.ensures in
    let green = known r n 1 0 c.bits-gw.ensures in
    let blue = known r n 2 0 c.bits-bw.ensures in
    sixteen 1 r n
    (first r n 0 red tt c.narrow.ensures)
    (first r n 1 green tt c.narrow-2.ensures)
    (first r n 2 blue tt c.narrow-3.ensures)
    (other r n 0 2 refl (known r n 0 2 c.bits-4.ensures) tt c.narrow-ry.ensures)
    (other r n 1 2 refl (known r n 1 2 c.with_2.ensures) tt c.narrow-gy.ensures)
    (other r n 2 2 refl (known r n 2 2 c.with_2-2.ensures) tt c.narrow-by.ensures)
    (other r n 0 1 refl (known r n 0 1 c.bits.ensures) tt c.narrow-rx.ensures)
    (other r n 1 1 refl (known r n 1 1 c.bits-2.ensures) tt c.narrow-gx.ensures)
    (other r n 2 1 refl (known r n 2 1 c.bits-3.ensures) tt c.narrow-bx.ensures)
    (other r n 0 3 refl (known r n 0 3 c.bits-5.ensures) tt c.narrow-rz.ensures)
    (other r n 1 3 refl (known r n 1 3 c.with_2-3.ensures) tt c.narrow-gz.ensures)
    (other r n 2 3 refl (known r n 2 3 (topped 33 (topped 34 c.bits_4.ensures c.above.ensures.0)
    c.above-2.ensures.0)) tt c.narrow-bz.ensures)
