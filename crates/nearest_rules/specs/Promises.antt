-- What finding an index promises, under one name each: the contract and `determined-*` say the same.
-- Assumes nothing.
use Rattle.std.specs.Prelude.{◌≡◌, List, ℕ, Result}
use Rattle.refusals.specs.Answers.{answer_of}
use Rattle.refusals.specs.declared.Refusal.{Refusal}
use Rattle.nearest_rules.specs.Nearest.{exact_index, nearest_index}

abbrev pub FindsNearest : List ℕ → ℕ → ℕ → List ℕ → Result ℕ Refusal → Type 0
FindsNearest block line pixel wanted answer = answer_of 0 answer ≡ nearest_index block line pixel wanted

abbrev pub FindsExact : List ℕ → ℕ → ℕ → List ℕ → Result ℕ Refusal → Type 0
FindsExact block line pixel wanted answer = answer_of 0 answer ≡ exact_index block line pixel wanted
