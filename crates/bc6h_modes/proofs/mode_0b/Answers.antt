-- Mode 0b: its fields by their runs, and its endpoints.
-- Assumes nothing.
use mathlib.Core.Path.{refl}
use Rattle.bc6h_modes.specs.Words.{whole}
use Rattle.bc6h_format.specs.Items.{is_of, items_from, items_of, long}
use Rattle.bc6h_format.specs.Modes.{bits_at, row_of, rows}
use Rattle.bc6h_modes.proofs.Rows.{differing, first, known, sixteen}
use Rattle.bc6h_modes.proofs.Runs.{in_one}
use Rattle.bc6h_modes.proofs.mode_0b.Goals as goal

pub returns : goal.returns
unfolding rows row_of items_of items_from is_of long bits_at
returns c =
    let n = whole c.args.words in
    let r = row_of 11 in
    let red = known r n 0 0 c.with_2-rw.ensures in
    let green = known r n 1 0 c.with_2-gw.ensures in
    let blue = known r n 2 0 c.with_2-bw.ensures in
    sixteen 0 r n
    (first r n 0 red tt c.narrow-rv.ensures)
    (first r n 1 green tt c.narrow-gv.ensures)
    (first r n 2 blue tt c.narrow-bv.ensures)
    (first r n 0 red tt c.narrow-rv.ensures)
    (first r n 1 green tt c.narrow-gv.ensures)
    (first r n 2 blue tt c.narrow-bv.ensures)
    (differing r n 0 1 refl tt red (known r n 0 1 (in_one n 35 8)) c.apart-rx.ensures)
    (differing r n 1 1 refl tt green (known r n 1 1 (in_one n 45 8)) c.apart-gx.ensures)
    (differing r n 2 1 refl tt blue (known r n 2 1 (in_one n 55 8)) c.apart-bx.ensures)
    (differing r n 0 1 refl tt red (known r n 0 1 (in_one n 35 8)) c.apart-rx.ensures)
    (differing r n 1 1 refl tt green (known r n 1 1 (in_one n 45 8)) c.apart-gx.ensures)
    (differing r n 2 1 refl tt blue (known r n 2 1 (in_one n 55 8)) c.apart-bx.ensures)
