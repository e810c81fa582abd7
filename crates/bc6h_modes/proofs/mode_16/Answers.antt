-- Mode 16: its fields by their runs, and its endpoints.
-- Assumes nothing.
use mathlib.Core.Path.{refl}
use Rattle.bc6h_modes.specs.Words.{whole}
use Rattle.bc6h_format.specs.Items.{is_of, items_from, items_of, long}
use Rattle.bc6h_format.specs.Modes.{bits_at, row_of, rows}
use Rattle.bc6h_modes.proofs.Rows.{differing, first, known, sixteen}
use Rattle.bc6h_modes.proofs.Runs.{in_one, topped}
use Rattle.bc6h_modes.proofs.mode_16.Goals as goal

pub returns : goal.returns
unfolding rows row_of items_of items_from is_of long bits_at
returns c =
    let n = whole c.args.words in
    let r = row_of 22 in
    let red = known r n 0 0 c.bits-rw.ensures in
    let green = known r n 1 0 c.bits-gw.ensures in
    let blue = known r n 2 0 c.bits-bw.ensures in
    sixteen 1 r n
    (first r n 0 red tt c.narrow.ensures)
    (first r n 1 green tt c.narrow-2.ensures)
    (first r n 2 blue tt c.narrow-3.ensures)
    (differing r n 0 2 refl tt red (known r n 0 2 (in_one n 65 5)) c.apart-ry.ensures)
    (differing r n 1 2 refl tt green (known r n 1 2 c.with_2.ensures) c.wrap-gy.ensures)
    (differing r n 2 2 refl tt blue (known r n 2 2 c.with_1.ensures) c.wrap-by.ensures)
    (differing r n 0 1 refl tt red (known r n 0 1 (in_one n 35 5)) c.apart-rx.ensures)
    (differing r n 1 1 refl tt green (known r n 1 1 (in_one n 45 6)) c.apart-gx.ensures)
    (differing r n 2 1 refl tt blue (known r n 2 1 (in_one n 55 5)) c.apart-bx.ensures)
    (differing r n 0 3 refl tt red (known r n 0 3 (in_one n 71 5)) c.apart-rz.ensures)
    (differing r n 1 3 refl tt green (known r n 1 3 c.with_2-2.ensures) c.wrap-gz.ensures)
    (differing r n 2 3 refl tt blue (known r n 2 3 (topped 34 c.bits_4.ensures c.above.ensures.0)) c.wrap-bz.ensures)
