-- `lay` meets its contract.
-- Assumes nothing.
use Prim.Native.Nat.{ℕ}
use Rattle.laws.proofs.Over.{copied_over}
use Rattle.record_bytes.proofs.lay.Goals as goal

pub returns : goal.returns
returns c =
    rw c.copy_from_slice.ensures.after (copied_over {A = ℕ} c.args.into.now c.args.values.now c.args.at 0 c.requires)
