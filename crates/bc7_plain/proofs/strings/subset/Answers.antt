-- `subset` meets its contract.
-- Assumes nothing.
use mathlib.Core.Path.{ap, sym, subst}
use Prim.Native.Nat.{ℕ, ◌-◌, ◌≤◌, ◌<◌}
use lib.ListN.{get_or, length}
use Rattle.pixel_rules.specs.Strings.{subset_spelt}
use Rattle.bc7_plain.proofs.strings.subset.Goals as goal

pub bounds-string-k : goal.bounds-string-k
bounds-string-k c =
    let s = c.before.before.before in
    let found = s.requires.sixteen.found s.args.pixel s.requires.pixel in
    subst (λ (k : ℕ). k < length s.args.string.now) (sym c.place-k.ensures) found

pub overflow_sub-result : goal.overflow_sub-result
overflow_sub-result c =
    let s = c.before.before.before in
    let digit = s.requires.sixteen.digit s.args.pixel s.requires.pixel in
    subst (λ (k : ℕ). 48 ≤ get_or s.args.string.now k 0) (sym c.place-k.ensures) digit

pub returns : goal.returns
unfolding subset_spelt
returns c = ap (λ (k : ℕ). get_or c.args.string.now k 0 - 48) c.place-k.ensures
