-- `splits::read_lead` meets its contract.
-- Assumes nothing.
use mathlib.Core.Path.{◌≡◌}
use Prim.Native.Nat.{ℕ}
use borrow.Author.Rules.{rules}
use mir.Syntax.{w8}
use mir.Val.{Fits}
use lib.ListN.{length, get_or}
use Rattle.laws.specs.Digits.{Fit}
use Rattle.bcn_format.specs.Block.{eights}
use Rattle.bc7_format.proofs.Subsets.{sixteen_bytes}
use Rattle.bc7_places.proofs.splits.Leads.{is_lead, lead_ahead, marker_on}
use Rattle.bc7_places.proofs.splits.read_lead.Goals as goal
use Rattle.bc7_places.proofs.splits.read_lead.Goals.{Start}

size : (s : Start) → length s.args.block ≡ 16
size s = search rules

byte : (s : Start) (i : ℕ) → Fits w8 (get_or s.args.block i 0)
byte s i = search rules

sixteen : (s : Start) → Fit eights s.args.block
sixteen s = sixteen_bytes _ (size s) (λ i l. (byte s i).fits)

pub read_split-requires : goal.read_split-requires
read_split-requires c =
    let s = c.before.before in
    lead_ahead s.requires.low s.requires.mode_row_is (marker_on s.args.mode c.new.ensures c.skip.ensures)

pub returns : goal.returns
returns c =
    let skipped = c.before in
    let s = skipped.before.before in
    is_lead s.args.block (sixteen s) s.requires skipped.new.ensures skipped.skip.ensures c.read_split.ensures
