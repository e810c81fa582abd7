-- `replacement_bytes`: the arrays are laid one behind the other.
-- Assumes nothing.
use mathlib.Core.Path.{◌≡◌, refl}
use native.Mathlib.Omega.{arith}
use lib.ListN.{length}
use borrow.Author.Rules.{rules}
use Rattle.laws.proofs.Filled.{Filled, filled_all, filled_none}
use Rattle.line_rules.specs.Read.{replacement_bytes, value_at}
use Rattle.record_bytes.proofs.Laying.{endpoint_at, index_at, laid, p_at}
use Rattle.record_bytes.proofs.replacement_bytes.Goals as goal
use Rattle.record_bytes.proofs.replacement_bytes.Goals.{After-lay, After-lay-2, Start}

endpoints_long : (s : Start) → length s.args.from.endpoints ≡ 8
endpoints_long s = search rules

p_long : (s : Start) → length s.args.from.p ≡ 2
p_long s = search rules

indexes_long : (s : Start) → length s.args.from.indexes ≡ 16
indexes_long s = search rules

pub lay-requires : goal.lay-requires
lay-requires c = omega (arith, endpoints_long c.before.before.before)

-- what was laid first, and the call that it was laid in
abbrev from_1 : After-lay → Start
from_1 c = c.before.before.before.before

filled_8 : (c : After-lay) → Filled 26 0 (value_at (from_1 c).args.from) 8 c.lay.new.into
filled_8 c =
    laid 0 8 (from_1 c).args.from.endpoints (endpoints_long (from_1 c)) c.lay.ensures (filled_none refl) (omega arith) (endpoint_at _)

pub lay-requires-2 : goal.lay-requires-2
lay-requires-2 c = let at = c in omega (arith, p_long (from_1 c.before.before.before.before), (filled_8 c.before.before.before.before).long)

abbrev from-2 : After-lay-2 → After-lay
from-2 c = c.before.before.before.before.before

filled_10 : (c : After-lay-2) → Filled 26 0 (value_at (from_1 (from-2 c)).args.from) 10 c.lay-2.new.into
filled_10 c =
    let s = from_1 (from-2 c) in
    laid 8 2 s.args.from.p (p_long s) c.lay-2.ensures (filled_8 (from-2 c)) (omega arith) (p_at s.args.from)

pub lay-requires-3 : goal.lay-requires-3
lay-requires-3 c = let at = c in omega (arith, indexes_long (from_1 (from-2 c.before.before.before.before)), (filled_10 c.before.before.before.before).long)

pub returns : goal.returns
unfolding replacement_bytes
returns c =
    let at = c in
    let s = from_1 (from-2 c.before.before.before.before.before.before) in
    filled_all (laid 10 16 s.args.from.indexes (indexes_long s) c.lay-3.ensures (filled_10 c.before.before.before.before.before.before) (omega arith)
    (index_at s.args.from)) (omega arith)
