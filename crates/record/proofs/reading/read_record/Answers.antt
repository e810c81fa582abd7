-- `reading::read_record` meets its contract.
-- Assumes nothing.
use mathlib.Core.Path.{◌≡◌}
use Prim.Native.Nat.{ℕ}
use mir.Syntax.{w8}
use mir.Val.{Fits}
use lib.ListN.{get_or, length}
use Rattle.laws.specs.Digits.{Fit}
use Rattle.bcn_format.specs.Block.{eights}
use Rattle.bc7_format.proofs.Subsets.{sixteen_bytes}
use Rattle.bc7_modes.specs.Modes.{OfMode}
use Rattle.bc7_modes.proofs.Bounds.{small}
use Rattle.record.proofs.reading.Standing.{endpoints_ahead, first_ahead, p_ahead, record_read, second_ahead}
use borrow.Author.Rules.{rules}
use Rattle.record.proofs.reading.read_record.Goals as goal
use Rattle.record.proofs.reading.read_record.Goals.{Start}

size : (s : Start) → length s.args.block ≡ 16
size s = search rules

byte : (s : Start) (i : ℕ) → Fits w8 (get_or s.args.block i 0)
byte s i = search rules

sixteen : (s : Start) → Fit eights s.args.block
sixteen s = sixteen_bytes _ (size s) (λ i l. (byte s i).fits)

of_mode_is : (s : Start) → OfMode s.args.row
of_mode_is s = record { mode = _; low = s.requires.low; is = s.requires.mode_row_is }

pub read_lead-lead-requires : goal.read_lead-lead-requires
read_lead-lead-requires c = c.requires

pub read_endpoints-requires : goal.read_endpoints-requires
read_endpoints-requires c =
    endpoints_ahead _ (sixteen (goal.at.read_endpoints-requires c).Start) c.requires.mode_is c.requires.low c.requires.mode_row_is c.read_lead-lead.ensures

pub read_p-requires : goal.read_p-requires
read_p-requires c =
    p_ahead _ (sixteen (goal.at.read_p-requires c).Start) c.requires.mode_is c.requires.low c.requires.mode_row_is c.read_lead-lead.ensures
    c.read_endpoints.ensures

pub anchors_of-anchors-requires : goal.anchors_of-anchors-requires
anchors_of-anchors-requires c = c.read_lead-lead.ensures.few

pub read_indexes-set-requires : goal.read_indexes-set-requires
read_indexes-set-requires c =
    first_ahead _ (sixteen (goal.at.read_indexes-set-requires c).Start) c.requires.mode_is c.requires.low c.requires.mode_row_is c.read_lead-lead.ensures
    c.read_endpoints.ensures c.read_p.ensures c.anchors_of-anchors.ensures

pub parts_of-first-requires : goal.parts_of-first-requires
parts_of-first-requires c = (small (of_mode_is (goal.at.parts_of-first-requires c).Start)).most

pub read_second-second-requires : goal.read_second-second-requires
read_second-second-requires c =
    second_ahead _ (sixteen (goal.at.read_second-second-requires c).Start) c.requires.mode_is c.requires.low c.requires.mode_row_is c.read_lead-lead.ensures
    c.read_endpoints.ensures c.read_p.ensures c.anchors_of-anchors.ensures c.read_indexes-set.ensures

pub returns : goal.returns
returns c =
    record_read _ (sixteen (goal.at.returns c).Start) c.requires.mode_is c.requires.low c.requires.mode_row_is c.read_lead-lead.ensures
    c.read_endpoints.ensures c.read_p.ensures c.anchors_of-anchors.ensures
    c.read_indexes-set.ensures c.parts_of-first.ensures c.read_second-second.ensures
