-- `output::put_pixel` meets its contract.
-- Assumes nothing.
use mathlib.Core.Path.{◌≡◌}
use Prim.Native.Nat.{ℕ}
use native.Mathlib.Omega.{arith}
use lib.ListN.{length}
use borrow.Author.Rules.{rules}
use Rattle.laws.proofs.Over.{copied_over}
use Rattle.sheet.proofs.output.put_pixel.Goals as goal

pub returns : goal.returns
returns c =
    let four : length c.args.pixel ≡ 4 = search rules in
    rw c.copy_from_slice.ensures.after (rw four at (copied_over {A = ℕ} c.args.out.now c.args.pixel c.args.at 0 (omega (arith, four, c.requires))))
