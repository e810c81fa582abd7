-- `rotation_of` meets its contract.
-- Assumes nothing.
use mathlib.Core.Path.{◌≡◌, ap, sym, ◌∙◌}
use mathlib.Core.Bool.{Bool}
use Prim.Native.Nat.{ℕ, suc, ◌-◌}
use native.Mathlib.Omega.{arith}
use borrow.Author.Tests.{eq-eqb, ne_eqb}
use lib.Dec.{eqb}
use Rattle.laws.specs.Tables.{pick}
use Rattle.bc7_format.specs.Lines.{rotated}
use Rattle.bc7_plain.proofs.rotation_of.Goals as goal
use Rattle.bc7_plain.proofs.rotation_of.Goals.{Else-channel-eq3, Else-rotation-eq0}

turned : (c : Else-rotation-eq0) → rotated c.args.rotation c.args.channel
    ≡ pick (eqb c.args.channel 3) (c.args.rotation - 1)
    (pick (eqb c.args.channel (c.args.rotation - 1)) 3 c.args.channel)
unfolding rotated
turned c =
    let e : c.args.rotation ≡ suc (c.args.rotation - 1) = omega (arith, c.if-rotation-eq0.false) in
    ap (λ (r : ℕ). rotated r c.args.channel) e

other : (c : Else-channel-eq3) → rotated c.args.rotation c.args.channel
    ≡ pick (eqb c.args.channel (c.args.rotation - 1)) 3 c.args.channel
other c =
    let s = c.before.before in
    turned c.before
    ∙ ap (λ (b : Bool). pick b (s.args.rotation - 1) (pick (eqb s.args.channel (s.args.rotation - 1)) 3 s.args.channel))
    (ne_eqb s.args.channel 3 c.if-channel-eq3.false)

pub returns-then-rotation-eq0 : goal.returns-then-rotation-eq0
unfolding rotated
returns-then-rotation-eq0 c = ap (λ (r : ℕ). rotated r c.args.channel) (sym c.if-rotation-eq0.true)

pub returns-then-channel-eq3 : goal.returns-then-channel-eq3
returns-then-channel-eq3 c =
    let s = c.before.before in
    sym (turned c.before
    ∙ ap (λ (b : Bool). pick b (s.args.rotation - 1) (pick (eqb s.args.channel (s.args.rotation - 1)) 3 s.args.channel))
    (eq-eqb s.args.channel 3 c.if-channel-eq3.true))

pub returns-then-channel-rotation : goal.returns-then-channel-rotation
returns-then-channel-rotation c =
    let s = c.before.before.before in
    sym (other c.before ∙ ap (λ (b : Bool). pick b 3 s.args.channel) (eq-eqb s.args.channel (s.args.rotation - 1) c.if-channel-rotation.true))

pub returns : goal.returns
returns c =
    let s = c.before.before.before in
    sym (other c.before ∙ ap (λ (b : Bool). pick b 3 s.args.channel) (ne_eqb s.args.channel (s.args.rotation - 1) c.if-channel-rotation.false))
