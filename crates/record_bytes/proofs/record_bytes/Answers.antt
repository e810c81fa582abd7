-- `record_bytes`: four bytes of the lead, then the arrays one behind the other.
-- Assumes nothing.
use mathlib.Core.Path.{◌≡◌, refl}
use native.Mathlib.Omega.{arith}
use lib.ListN.{length, replicate}
use borrow.Author.Rules.{rules}
use Rattle.laws.proofs.Filled.{Filled, filled_all}
use Rattle.record_rules.specs.Wire.{record_byte, record_bytes}
use Rattle.record_rules.proofs.Wire.{first_at, p_bit_at, second_at, value_at_is}
use Rattle.record_bytes.proofs.Laying.{lead_laid, laid}
use Rattle.bc7_format.specs.Places.{values_from, ps_from, first_from, second_from, place_count}
use Rattle.record_bytes.proofs.record_bytes.Goals as goal
use Rattle.record_bytes.proofs.record_bytes.Goals.{After-lay, After-lay-2, After-lay-3, Start}

endpoints_long : (s : Start) → length s.args.from.endpoints ≡ 24
endpoints_long s = search rules

p_long : (s : Start) → length s.args.from.p ≡ 6
p_long s = search rules

first_long : (s : Start) → length s.args.from.first ≡ 16
first_long s = search rules

second_long : (s : Start) → length s.args.from.second ≡ 16
second_long s = search rules

pub lay-requires : goal.lay-requires
lay-requires c = omega (arith, endpoints_long c.before.before.before.before.before.before)

abbrev from_1 : After-lay → Start
from_1 c = c.before.before.before.before.before.before.before

filled_values : (c : After-lay) → Filled place_count 0 (record_byte (from_1 c).args.from) ps_from c.lay.new.into
filled_values c =
    let set = c in
    let r = (from_1 c).args.from in
    laid values_from 24 r.endpoints (endpoints_long (from_1 c)) c.lay.ensures
    (lead_laid r _ _ _ (replicate place_count 0) refl set.kind_of.ensures set.split_byte.ensures
    set.index_mode_of.ensures)
    (omega arith) (value_at_is r)

pub lay-requires-2 : goal.lay-requires-2
lay-requires-2 c = let at = c in omega (arith, p_long (from_1 c.before.before.before.before), (filled_values c.before.before.before.before).long)

abbrev from-2 : After-lay-2 → After-lay
from-2 c = c.before.before.before.before.before

filled_ps : (c : After-lay-2) → Filled place_count 0 (record_byte (from_1 (from-2 c)).args.from) first_from c.lay-2.new.into
filled_ps c =
    let s = from_1 (from-2 c) in
    laid ps_from 6 s.args.from.p (p_long s) c.lay-2.ensures (filled_values (from-2 c)) (omega arith) (p_bit_at s.args.from)

pub lay-requires-3 : goal.lay-requires-3
lay-requires-3 c = let at = c in omega (arith, first_long (from_1 (from-2 c.before.before.before.before)), (filled_ps c.before.before.before.before).long)

abbrev from-3 : After-lay-3 → After-lay-2
from-3 c = c.before.before.before.before.before

filled_first : (c : After-lay-3) → Filled place_count 0 (record_byte (from_1 (from-2 (from-3 c))).args.from) second_from c.lay-3.new.into
filled_first c =
    let s = from_1 (from-2 (from-3 c)) in
    laid first_from 16 s.args.from.first (first_long s) c.lay-3.ensures (filled_ps (from-3 c)) (omega arith) (first_at s.args.from)

pub lay-requires-4 : goal.lay-requires-4
lay-requires-4 c = let at = c in omega (arith, second_long (from_1 (from-2 (from-3 c.before.before.before.before))), (filled_first c.before.before.before.before).long)

pub returns : goal.returns
unfolding record_bytes
returns c =
    let at = c in
    let s = from_1 (from-2 (from-3 c.before.before.before.before.before.before)) in
    filled_all (laid second_from 16 s.args.from.second (second_long s) c.lay-4.ensures (filled_first c.before.before.before.before.before.before) (omega arith)
    (second_at s.args.from)) (omega arith)
