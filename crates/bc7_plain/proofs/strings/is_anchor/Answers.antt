-- `is_anchor` meets its contract.
-- Assumes nothing.
use mathlib.Core.Path.{ap, sym, ◌∙◌}
use mathlib.Core.Bool.{Bool, true}
use Prim.Native.Nat.{ℕ, ◌-◌}
use native.Mathlib.Omega.{arith}
use borrow.Author.Tests.{eq-eqb, ne_eqb}
use lib.Dec.{eqb}
use lib.ListN.{get_or}
use Rattle.laws.specs.Tables.{pick}
use Rattle.pixel_rules.specs.Strings.{is_anchor_in, place_in}
use Rattle.bc7_plain.proofs.strings.is_anchor.Goals as goal

pub returns-then-pixel-eq0 : goal.returns-then-pixel-eq0
unfolding is_anchor_in
returns-then-pixel-eq0 c = rw (eq-eqb c.args.pixel 0 c.if-pixel-eq0.true)

pub overflow_sub-result : goal.overflow_sub-result
overflow_sub-result c =
    let s = c.before.before.before in
    omega (arith, c.place-k.ensures, s.requires.sixteen.past s.args.pixel s.requires.pixel, c.if-pixel-eq0.false)

pub bounds-string-k : goal.bounds-string-k
bounds-string-k c =
    let s = c.before.before.before.before in
    omega (arith, c.place-k.ensures, s.requires.sixteen.found s.args.pixel s.requires.pixel)

pub returns : goal.returns
unfolding is_anchor_in
returns c =
    let s = c.before.before.before.before in
    let cs = s.args.string.now in
    let q : ℕ = s.args.pixel in
    ap (λ (k : ℕ). eqb (get_or cs (k - 1) 0) 45) c.place-k.ensures
    ∙ sym (ap (λ (b : Bool). pick b true (eqb (get_or cs (place_in cs q - 1) 0) 45)) (ne_eqb q 0 c.if-pixel-eq0.false))
