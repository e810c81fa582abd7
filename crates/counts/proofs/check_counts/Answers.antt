-- `check_counts` meets its contract.
-- Assumes nothing.
use mathlib.Core.Path.{◌∙◌, sym}
use Rattle.counts.proofs.Falseness.{mode_false, none_false, opaque_false, rest_false, sum_false}
use Rattle.counts.proofs.check_counts.Goals as goal

pub returns-then-sum_of-from : goal.returns-then-sum_of-from
returns-then-sum_of-from c = sum_false _ _ _ _ c.sum_of.ensures (λ e. c.if-sum_of-from.true (e ∙ sym c.from.ensures))

pub returns-then-counts-mode-eq0 : goal.returns-then-counts-mode-eq0
returns-then-counts-mode-eq0 c = mode_false _ _ _ _ c.sum_of.ensures (c.if-sum_of-from.false ∙ c.from.ensures) c.if-counts-mode-eq0.true

pub returns-then-counts-eq0 : goal.returns-then-counts-eq0
returns-then-counts-eq0 c =
    opaque_false _ _ _ _ c.sum_of.ensures (c.if-sum_of-from.false ∙ c.from.ensures) c.if-counts-mode-eq0.false c.if-opaque.true c.if-counts-eq0.true

pub returns-then-counts-blocks : goal.returns-then-counts-blocks
returns-then-counts-blocks c =
    rest_false _ _ _ _ c.sum_of.ensures (c.if-sum_of-from.false ∙ c.from.ensures) c.if-counts-mode-eq0.false c.if-not-opaque.true c.if-counts-blocks.true

pub returns : goal.returns
returns c =
    none_false _ _ _ _ c.sum_of.ensures (c.if-sum_of-from.false ∙ c.from.ensures) c.if-counts-mode-eq0.false c.else-opaque.either c.else-not-opaque.either
