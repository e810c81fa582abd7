-- `rinchovek_sheet_replace_block_counted`: what `replace_block_counted` answers and leaves, the counts in ten numbers.
-- Assumes nothing.
use mathlib.Core.Path.{refl}
use Rattle.refusals.proofs.Answers.{number_not_0}
use Rattle.rinchovek_rules.proofs.Counting.{counted_accepted, counted_refused}
use Rattle.rinchovek.proofs.rinchovek_sheet_replace_block_counted.Goals as goal

pub returns-in-Err : goal.returns-in-Err
returns-in-Err c = rw c.number.ensures (counted_refused _ _ _ _ c.counts_of-came.ensures c.in-Err.ensures (number_not_0 _))

pub returns-in-Ok : goal.returns-in-Ok
returns-in-Ok c = counted_accepted _ c.args.counts.now _ _ c.counts_of-came.ensures c.in-Ok.ensures refl c.ten_of.ensures
