-- `accepted` meets its contract.
-- Assumes nothing.
use mathlib.Core.Path.{◌≡◌}
use Prim.Native.Nat.{ℕ}
use borrow.Author.Rules.{rules}
use mir.Syntax.{w8}
use mir.Val.{Fits}
use lib.ListN.{length, get_or}
use Rattle.bc7_format.proofs.Subsets.{sixteen_bytes}
use Rattle.std.specs.Prelude.{None}
use Rattle.chart.proofs.Answers.{answered, of_mode_is}
use Rattle.chart.proofs.accepted.Goals as goal

pub put_places-length-requires : goal.put_places-length-requires
put_places-length-requires c =
    let size : length c.args.block ≡ 16 = search rules in
    let byte : (i : ℕ) → Fits w8 (get_or c.args.block i 0) = search rules in
    record {
      of_mode_is = of_mode_is c.args.block (sixteen_bytes _ size (λ i l. (byte i).fits)) c.requires c.read_lead-lead.ensures.split;
      mode_row_holds = record { low = c.requires.low; is = c.mode_row-row.ensures };
      fits = search rules;
    }

pub returns : goal.returns
returns c =
    answered None (rw c.read_lead-lead.ensures.split at c.put_places-length.ensures)
