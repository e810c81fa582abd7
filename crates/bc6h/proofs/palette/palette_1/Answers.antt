-- All colours of one subset.
-- Assumes nothing.
use Rattle.std.proofs.Common.{◌≡◌, ℕ, ◌<◌, List, [], ◌∷◌, get_or, ◌∙◌}
use Rattle.bc6h.proofs.Steps.{all_dividing, coloured, one_levels, one_most, one_weights, weight1}
use Rattle.bc6h.specs.Lanes.{level}
use Rattle.bc6h.proofs.palette.palette_1.Goals as goal
use Rattle.bc6h.proofs.palette.palette_1.Goals.{After-step-v7}

-- the eight rows; each step stands behind the one before it
abbrev rows_at : After-step-v7 → List (List ℕ)
rows_at c =
    let at-6 = c in
    let at_5 = at-6 in
    let at-4 = at_5 in
    let at-3 = at-4 in
    let at-2 = at-3 in
    let at_1 = at-2 in
    let at-0 = at_1 in
    at-0.at_first_two-v0.result ∷ at_1.step-v1.result ∷ at-2.step-v2.result ∷ at-3.step-v3.result ∷ at-4.step-v4.result ∷ at_5.step-v5.result ∷
    at-6.step-v6.result ∷ c.step-v7.result ∷ []

levels : (c : After-step-v7) (k : ℕ) → k < 8 → get_or (rows_at c) k []
    ≡ level c.args.e (weight1 k)
levels c =
    let at-6 = c in
    let at_5 = at-6 in
    let at-4 = at_5 in
    let at-3 = at-4 in
    let at-2 = at-3 in
    let at_1 = at-2 in
    let at-0 = at_1 in
    let at-d9 = at-0 in
    let at-d8 = at-d9 in
    let s = at-d8 in
    one_levels s.args.e s.requires.0 at-0.at_first_two-v0.ensures at-d8.rises-d8.ensures at-d9.rises-d9.ensures
    at_1.step-v1.ensures at-2.step-v2.ensures at-3.step-v3.ensures at-4.step-v4.ensures at_5.step-v5.ensures at-6.step-v6.ensures
    c.step-v7.ensures

pub rows-requires : goal.rows-requires
rows-requires c =
    all_dividing c.args.e c.requires.0 weight1 (rows_at c) (levels c) one_most

pub returns : goal.returns
returns c =
    c.rows.ensures ∙ coloured 4 4 c.args.e weight1 (rows_at c.before) (levels c.before) one_weights
