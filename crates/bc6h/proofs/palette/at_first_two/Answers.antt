-- Four lanes at the weight 0, and four at 4.
-- Assumes nothing.
use Rattle.std.proofs.Common.{◌≡◌, ℕ, ◌+◌, ◌/◌, ◌%◌, ◌<◌, List, get_or, arith}
use Rattle.laws.proofs.Part.{part_all, part_set}
use Rattle.bcn_format.specs.Drawing.{weight_of, weights}
use Rattle.bc6h.specs.Lanes.{Doubled, mixed_at}
use Rattle.bc6h.proofs.palette.at_first_two.Goals as goal
use Rattle.bc6h.proofs.palette.at_first_two.Invariants.{lane_at}

lower : (e : List ℕ) (i x : ℕ) → i < 4 → x ≡ mixed_at 0 (get_or e i 0) (get_or e (i + 8) 0) → x ≡ lane_at e i
unfolding weight_of weights
lower e i x l p = let z : i / 4 ≡ 0 = omega arith in rw z p

upper : (e : List ℕ) → Doubled e → (i x : ℕ) → i < 4 → x ≡ mixed_at 4 (get_or e i 0) (get_or e (i + 8) 0) → x ≡ lane_at e (i + 4)
unfolding weight_of weights
upper e d i x l p =
    let z : (i + 4) / 4 ≡ 1 = omega arith in
    let t : i + 4 + 8 ≡ i + 12 = omega arith in
    rw (z, t, d.first i l, d.second i l) p

pub loop-i-preserved : goal.loop-i-preserved
loop-i-preserved c =
    let i = c.loop-i.i in
    let l = c.loop-i-test.true in (
      omega arith,
      part_set (i + 4) _
          (part_set {Q = λ k. (k % 4 < i + 1) × (k < 4 + i)} i _ c.loop-i.invariant.1 (omega arith)
          (lower c.args.e i _ l c.mixed.ensures)
          (λ k lk q ne. omega (arith, q.0, q.1, ne)))
          (omega arith) (upper c.args.e c.requires i _ l c.mixed-in-loop-i.ensures)
          (λ k lk q ne. (q, let y : k < 4 + i = omega (arith, q, ne) in y)),
    )

pub returns : goal.returns
returns c = part_all c.loop-i.invariant.1 (λ k l. omega arith)
