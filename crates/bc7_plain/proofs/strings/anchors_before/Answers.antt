-- `anchors_before` meets its contract.
-- Assumes nothing.
use mathlib.Core.Path.{◌≡◌, refl, ap, sym, ◌∙◌}
use mathlib.Core.Bool.{Bool}
use mathlib.Core.List.{List}
use Prim.Native.Nat.{ℕ, suc, ◌-◌, ◌<◌}
use native.Mathlib.Omega.{arith}
use borrow.Author.Tests.{eq-eqb, ne_eqb}
use lib.ListN.{length, take}
use Rattle.laws.specs.Tables.{pick}
use Rattle.bcn_format.specs.Partitions.{how_many}
use Rattle.pixel_rules.specs.Strings.{anchors_before, place_in}
use Rattle.bc7_plain.specs.Asked.{PixelsBefore}
use Rattle.bc7_plain.proofs.Walks.{no_more, one_more}
use Rattle.bc7_plain.proofs.strings.anchors_before.Goals as goal
use Rattle.bc7_plain.proofs.strings.anchors_before.Goals.{then-string-k-eq45, else-string-k-eq45}

pub returns-then-pixel-eq0 : goal.returns-then-pixel-eq0
unfolding anchors_before
returns-then-pixel-eq0 c = rw (eq-eqb c.args.pixel 0 c.if-pixel-eq0.true)

pub overflow_sub-pixel : goal.overflow_sub-pixel
overflow_sub-pixel c = omega (arith, c.if-pixel-eq0.false)

pub place-end-requires : goal.place-end-requires
place-end-requires c = tt

pub loop-k-init : goal.loop-k-init
loop-k-init c = (omega arith, omega arith, refl)

-- a letter before the digit of the pixel before
inside : {cs : List ℕ} {q k e : ℕ} → PixelsBefore cs q → (q ≡ 0 → ⊥) → k < e → e ≡ place_in cs (q - 1) → k < length cs
inside {cs = cs} {q = q} s z h e =
    let some : q - 1 < 16 = omega (arith, s.most, z) in
    omega (arith, h, e, s.sixteen.found (q - 1) some)

pub bounds-string-k : goal.bounds-string-k
bounds-string-k c = inside c.requires c.if-pixel-eq0.false c.loop-k-test.true c.place-end.ensures

pub overflow_add-found : goal.overflow_add-found
overflow_add-found c = omega (arith, inside c.requires c.if-pixel-eq0.false c.loop-k-test.true c.place-end.ensures)

pub overflow_add-k : goal.overflow_add-k
overflow_add-k c = omega (arith, inside c.requires c.if-pixel-eq0.false c.loop-k-test.true c.place-end.ensures)

pub loop-k-smaller : goal.loop-k-smaller
loop-k-smaller c = omega arith

pub loop-k-preserved : goal.loop-k-preserved
loop-k-preserved c =
    let cs = c.args.string.now in
    let h = inside c.requires c.if-pixel-eq0.false c.loop-k-test.true c.place-end.ensures in (
      omega arith,
      elim c.if-string-k-eq45.branch [ then-string-k-eq45 w ↦ omega arith | else-string-k-eq45 w ↦ omega arith ],
      elim c.if-string-k-eq45.branch [
        | then-string-k-eq45 w ↦
            omega (arith, w.found-is, c.loop-k.invariant.2, one_more cs c.loop-k.k h w.if-string-k-eq45.true)
        | else-string-k-eq45 w ↦
            omega (arith, w.found-is, c.loop-k.invariant.2, no_more cs c.loop-k.k h w.if-string-k-eq45.false)
      ],
    )

pub returns : goal.returns
unfolding anchors_before
returns c =
    let cs = c.args.string.now in
    let q : ℕ = c.args.pixel in
    let end : c.loop-k.k ≡ place_in cs (q - 1) = (let z : c.loop-k.k ≡ c.place-end.result = omega arith in z) ∙ c.place-end.ensures in
    c.loop-k.invariant.2 ∙ ap (λ (j : ℕ). suc (how_many 45 (take j cs))) end
    ∙ sym (ap (λ (b : Bool). pick b 0 (suc (how_many 45 (take (place_in cs (q - 1)) cs)))) (ne_eqb q 0 c.if-pixel-eq0.false))
