-- `exact_index` meets its contract.
-- Assumes nothing.
use mathlib.Core.Path.{refl}
use Rattle.std.proofs.lemmas.Result.{err_from_is_err_and}
use Rattle.refusals.proofs.Answers.{number_not_0}
use Rattle.nearest.proofs.Hitting.{exact_found, exact_missed, exact_refused}
use Rattle.nearest.proofs.exact_index.Goals as goal

pub returns-in_err-nearest : goal.returns-in_err-nearest
returns-in_err-nearest c =
    let p = err_from_is_err_and c.from_residual.result c.from_residual.ensures.1 in
    rw (p.1, p.2) (exact_refused _ _ _ _ c.in_err-nearest.ensures (number_not_0 _))

pub returns-then-nearest-ne0 : goal.returns-then-nearest-ne0
returns-then-nearest-ne0 c = exact_missed _ _ _ _ c.in_ok-nearest.ensures refl c.if-nearest-ne0.true

pub returns : goal.returns
returns c = exact_found _ _ _ _ c.in_ok-nearest.ensures refl c.if-nearest-ne0.false
