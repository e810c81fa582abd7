-- `set_start` meets its contract.
-- Assumes nothing.
use mathlib.Core.Path.{ap, ap₂, sym, subst, ◌∙◌}
use mathlib.Core.Bool.{Bool}
use mathlib.Core.List.{List}
use Prim.Native.Nat.{ℕ, ◌+◌, ◌-◌, ◌*◌, ◌≤◌}
use native.Mathlib.Nat.{add-zero, le_refl}
use native.Mathlib.Omega.{arith}
use borrow.Author.Tests.{eq-eqb, ne_eqb}
use Rattle.laws.specs.Tables.{pick}
use Rattle.bc7_format.specs.Modes.{first_bits}
use Rattle.pixel_rules.specs.Strings.{anchors_before}
use Rattle.pixel_rules.specs.Plain.{first_start, index_start, set_start}
use Rattle.bc7_plain.specs.Asked.{SetAsked}
use Rattle.bc7_plain.proofs.Rows.{fits}
use Rattle.bc7_plain.proofs.set_start.Goals as goal

-- there is room behind it
short : {m : ℕ} {cs : List ℕ} {a : ℕ} → SetAsked m cs a → set_start m cs a ≤ 128
unfolding index_start
short {a = a} s = omega (arith, s.spelt.room a 0 s.set (omega arith))

pub returns-then-set-eq0 : goal.returns-then-set-eq0
unfolding set_start
returns-then-set-eq0 c =
    let cs = c.args.string.now in
    let m : ℕ = c.args.mode.number in
    let e = c.first_start.ensures.is
    ∙ sym (ap (λ (b : Bool). first_start m + pick b 0 (16 * first_bits m - anchors_before cs 16)) (eq-eqb c.args.set 0 c.if-set-eq0.true)
    ∙ add-zero _) in
    record { is = e; few = c.first_start.ensures.few }

pub overflow_sub-result : goal.overflow_sub-result
overflow_sub-result c =
    omega (
      arith,
      c.anchors_before.ensures,
      c.requires.spelt.sixteen.fewer 16 (le_refl 16),
      c.index_bits.ensures.is,
      (fits c.args.mode.number c.args.mode.in_table).least,
    )

pub returns : goal.returns
unfolding set_start
returns c =
    let cs = c.args.string.now in
    let m : ℕ = c.args.mode.number in
    let e = ap₂ (λ (x y : ℕ). x + y) c.first_start-2.ensures.is
    (ap₂ (λ (x y : ℕ). 16 * x - y) c.index_bits.ensures.is c.anchors_before.ensures)
    ∙ sym (ap (λ (b : Bool). first_start m + pick b 0 (16 * first_bits m - anchors_before cs 16))
    (ne_eqb c.args.set 0 c.if-set-eq0.false)) in
    record { is = e; few = subst (λ (x : ℕ). x ≤ 128) (sym e) (short c.requires) }
