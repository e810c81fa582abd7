-- All colours of two subsets.
-- Assumes nothing.
use Rattle.std.proofs.Common.{◌≡◌, ℕ, ◌<◌, ◌≤◌, List, [], ◌∷◌, get_or, ◌∙◌, arith}
use Rattle.laws.proofs.Filled.{filled_all}
use Rattle.bc6h.specs.Lanes.{level}
use Rattle.bc6h.proofs.Steps.{all_dividing, coloured, two_levels, two_most, two_weights, weight2}
use Rattle.bc6h.proofs.palette.palette_2.Goals as goal
use Rattle.bc6h.proofs.palette.palette_2.Goals.{After-step-v7}

-- the eight rows; each step stands behind the one before it, and two lead from row 3 to row 4
abbrev rows_at : After-step-v7 → List (List ℕ)
rows_at c =
    let at-6 = c in
    let at_5 = at-6 in
    let at-4 = at_5 in
    let at-3 = at-4 in
    let at-2 = at-3 in
    let at_1 = at-2 in
    let at-0 = at_1 in
    at-0.loop-i.v0 ∷ at_1.step-v1.result ∷ at-2.step-v2.result ∷ at-3.step-v3.result ∷ at-4.step-v4.result ∷ at_5.step-v5.result ∷
    at-6.step-v6.result ∷ c.step-v7.result ∷ []

levels : (c : After-step-v7) (k : ℕ) → k < 8 → get_or (rows_at c) k []
    ≡ level c.args.e (weight2 k)
levels c =
    let at-6 = c in
    let at_5 = at-6 in
    let at-4 = at_5 in
    let by_one = at-4 in
    let at-3 = by_one in
    let at-2 = at-3 in
    let at_1 = at-2 in
    let at-0 = at_1 in
    let inv = at-0.loop-i.invariant in
    let done : 8 ≤ at-0.loop-i.i = omega arith in
    two_levels at-0.args.e at-0.requires (filled_all inv.1 done) (filled_all inv.2 done) (filled_all inv.3 done)
    at_1.step-v1.ensures at-2.step-v2.ensures at-3.step-v3.ensures by_one.step.ensures at-4.step-v4.ensures at_5.step-v5.ensures
    at-6.step-v6.ensures c.step-v7.ensures

pub rows-requires : goal.rows-requires
rows-requires c =
    all_dividing c.args.e c.requires weight2 (rows_at c) (levels c) two_most

pub returns : goal.returns
returns c =
    c.rows.ensures ∙ coloured 3 8 c.args.e weight2 (rows_at c.before) (levels c.before) two_weights
