-- Six bits turned round, above ten.
-- Assumes nothing.
use mathlib.Core.Path.{◌≡◌, ◌∙◌, ap, sym}
use mathlib.Core.List.{[], ◌∷◌}
use Prim.Native.Nat.{ℕ, ◌+◌, ◌*◌, ◌/◌, ◌%◌, ◌<◌, ◌^◌}
use native.Mathlib.Omega.{arith}
use lib.Dec.{T, eqb, eqb→eq}
use Rattle.laws.specs.Tables.{below}
use Rattle.laws.proofs.Tests.{at}
use Rattle.bcn_format.specs.Block.{field}
use Rattle.bc6h_format.specs.Items.{reversed}
use Rattle.bc6h_format.proofs.Bounds.{reversed_lt}
use Rattle.bc6h_modes.specs.Words.{whole}
use Rattle.bc6h_modes.specs.Runs.{placed, run}
use Rattle.bc6h_modes.proofs.Rows.{placed_turned}
use Rattle.bc6h_modes.proofs.Words.with_6_turned.Goals as goal

-- the six bits as the code turns them
abbrev code : ℕ → ℕ
code x =
    (x % 2 * 2 ^ 5) % 2 ^ 32 + (x / 2 ^ 1 % 2 * 2 ^ 4) % 2 ^ 32 + (x / 2 ^ 2 % 2 * 2 ^ 3) % 2 ^ 32 + (x / 2 ^ 3 % 2 * 2 ^ 2) % 2 ^ 32
    + (x / 2 ^ 4 % 2 * 2 ^ 1) % 2 ^ 32 + x / 2 ^ 5

turns : T (below 64 (λ x. eqb (code x) (reversed 6 x)))
turns = tt

is_turned : (x : ℕ) → x < 64 → code x ≡ reversed 6 x
is_turned x h = eqb→eq (code x) (reversed 6 x) (at 64 (λ x. eqb (code x) (reversed 6 x)) turns x h)

above_ten : (y b z : ℕ) → y < 64 → b < 1024 → b ≡ z → b + (y * 2 ^ 10) % 2 ^ 32 ≡ y * 2 ^ 10 + z
above_ten y b z h l e = omega arith

above_ten_lt : (y b : ℕ) → y < 64 → b < 1024 → b + (y * 2 ^ 10) % 2 ^ 32 < 65536
above_ten_lt y b h l = omega arith

pub returns : goal.returns
returns c =
    let n = whole c.args.self in
    let x = c.bits-x.result in
    let t = c.args.tops in
    let six : x < 64 = c.bits-x.ensures.small in
    let here : x ≡ field n t 6 = omega (arith, c.bits-x.ensures.is) in
    let turned-is = is_turned x six in
    let small : reversed 6 x < 64 = reversed_lt 6 x in
    record {
      is = ap (λ (y : ℕ). c.bits.result + (y * 2 ^ 10) % 2 ^ 32) turned-is
          ∙ (above_ten (reversed 6 x) c.bits.result _ small c.bits.ensures.small c.bits.ensures.is
          ∙ (ap (λ (y : ℕ). reversed 6 y * 2 ^ 10 + placed n (run c.args.at 10 0 ∷ [])) here
          ∙ sym (placed_turned n 6 t 10 (run c.args.at 10 0 ∷ []))));
      small = rw turned-is (above_ten_lt (reversed 6 x) c.bits.result small c.bits.ensures.small);
    }
