-- What the two signs share: mode, partition, indexes and endpoints are the block's, whatever the sign. Values below the highest signed one are
-- widened to the same number by both, so that the same number is drawn between them, and unsigned it is finished to half as much.
-- Assumes nothing.
use mathlib.Core.Path.{◌≡◌, refl, sym, ◌∙◌, ap, ap₂}
use mathlib.Core.Bool.{Bool, true, false}
use mathlib.Core.Logic.{◌⊎◌, ◌≢◌, inl, inr, ⊎_elim}
use Prim.Native.Nat.{ℕ, suc, ◌+◌, ◌-◌, ◌*◌, ◌/◌, ◌^◌, ◌≤◌, ◌<◌}
use native.Mathlib.Nat.{mul-div-mul_right, pow-suc}
use native.Mathlib.Omega.{arith}
use borrow.Author.Tests.{eqb-true, le-ltb, lt-ltb, ne_eqb}
use lib.Dec.{T, eqb, leb, leb→le, ltb}
use Rattle.laws.specs.Tables.{pick}
use Rattle.laws.proofs.Cases.{lt_or}
use Rattle.bcn_format.specs.Drawing.{drawn, weight_of}
use Rattle.bcn_format.proofs.Drawing.{weight_most}
use Rattle.bc6h_format.specs.Modes.{Row, index_bits, row_of, rows}
use Rattle.bc6h_format.specs.Opened.{index_of, partition_of, subset}
use Rattle.bc6h_format.specs.Widening.{endpoint, widened, widened_signed, widened_size, widened_unsigned, zero_at}
use Rattle.bc6h_format.specs.Halves.{finished, finished_signed, finished_unsigned}
use Rattle.bc6h_format.proofs.Bounds.{between, of_row}
use Rattle.bc6h_format.proofs.Raising.{raised}
use Rattle.bc6h_format.proofs.Rows.{every}

-- a mode's base has 14 bits at the most, or 16
abbrev fourteen_or16 : Row → Bool
fourteen_or16 r = pick (eqb r.base 16) true (leb r.base 14)

bases : T (every fourteen_or16 rows)
unfolding rows
bases = tt

pub base_is : (m : ℕ) → ((row_of m).base ≡ 16) ⊎ ((row_of m).base ≤ 14)
unfolding row_of
base_is m = go (eqb (row_of m).base 16) refl (of_row fourteen_or16 rows bases m tt)
  where
    go : (b : Bool) → eqb (row_of m).base 16 ≡ b → T (pick b true (leb (row_of m).base 14)) → ((row_of m).base ≡ 16) ⊎ ((row_of m).base ≤ 14)
    go true e t = inl (eqb-true (row_of m).base 16 e)
    go false e t = inr (leb→le (row_of m).base 14 t)

-- the size of a signed value is widened as the same value is unsigned: half the numerator over half the denominator
half_power : (w : ℕ) → 1 ≤ w → 2 ^ w ≡ 2 ^ (w - 1) * 2
half_power w h = ap (λ (k : ℕ). 2 ^ k) (let e : w ≡ suc (w - 1) = omega arith in e) ∙ pow-suc 2 (w - 1)

same_quotient : (w v : ℕ) → 1 ≤ w → (v * 2 ^ 15 + 0x4000) / 2 ^ (w - 1) ≡ (v * 2 ^ 16 + 0x8000) / 2 ^ w
same_quotient w v h =
    sym (ap₂ (λ (x y : ℕ). x / y) (let e : v * 2 ^ 16 + 0x8000 ≡ (v * 2 ^ 15 + 0x4000) * 2 = omega arith in e) (half_power w h)
    ∙ mul-div-mul_right {m = 2} (v * 2 ^ 15 + 0x4000) (2 ^ (w - 1)) (omega arith))

-- a value below the highest signed one, of a width that a mode has
pub record Low (w v : ℕ) : Type 0 where
  pub width : (w ≡ 16) ⊎ (w ≤ 14)
  pub below : v + 1 < 2 ^ (w - 1)

module _ {w v : ℕ} (low : Low w v) where
  some : 2 ≤ w
  some = ⊎_elim (λ (l : w < 2). absurd (few l)) (λ (l : 2 ≤ w). l) (lt_or w 2)
    where
      few : w < 2 → ⊥
      few l =
          let none : w - 1 ≡ 0 = omega arith in
          let b : v + 1 < 1 = rw none at low.below in
          omega (arith, b)

  narrow_size : w ≤ 14 → widened_size w v ≡ widened_unsigned w v
  unfolding widened_size widened_unsigned
  narrow_size l = go (eqb v 0) refl
    where
      go : (b : Bool) → eqb v 0 ≡ b
          → pick (ltb 15 w) v (pick b 0 (pick (ltb v (2 ^ (w - 1) - 1)) ((v * 2 ^ 15 + 0x4000) / 2 ^ (w - 1)) 0x7FFF))
          ≡ pick (ltb 14 w) v (pick b 0 (pick (eqb v (2 ^ w - 1)) 0xFFFF ((v * 2 ^ 16 + 0x8000) / 2 ^ w)))
      go true e = rw (le-ltb 15 w (omega arith), le-ltb 14 w l) refl
      go false e =
          let s = some in
          let p = half_power w (omega arith) in
          let b = low.below in
          let not_last : v ≢ 2 ^ w - 1 = λ q. let z : ⊥ = omega (arith, p, b, q) in z in
          rw (le-ltb 15 w (omega arith), le-ltb 14 w l, lt-ltb v (2 ^ (w - 1) - 1) (omega (arith, b)), ne_eqb v (2 ^ w - 1) not_last)
          (same_quotient w v (omega arith))

  same_size : widened_size w v ≡ widened_unsigned w v
  unfolding widened_size widened_unsigned
  same_size =
      ⊎_elim (λ (e : w ≡ 16). rw (lt-ltb 15 w (omega arith), lt-ltb 14 w (omega arith)) refl) narrow_size low.width

  -- so both signs widen it to the same number, which signed is kept as zero_at more
  pub same_wide : widened true w v ≡ zero_at + widened false w v
  unfolding widened widened_signed
  same_wide = let b = low.below in rw (lt-ltb v (2 ^ (w - 1)) (omega (arith, b))) (ap (λ (x : ℕ). zero_at + x) same_size)

-- drawn, and finished: 31/64 is half of 31/32
half_as_much : (x : ℕ) → finished_unsigned x ≡ finished_signed (zero_at + x) / 2
unfolding finished_unsigned finished_signed
half_as_much x =
    rw (le-ltb (zero_at + x) zero_at (omega arith)) (let y : x * 31 / 64 ≡ (zero_at + x - zero_at) * 31 / 32 / 2 = omega arith in y)

-- both endpoints of a pixel's channel
pub record LowEnds (r : Row) (n q c : ℕ) : Type 0 where
  pub first : endpoint r n c (2 * subset r (partition_of r n) q) + 1 < 2 ^ (r.base - 1)
  pub second : endpoint r n c (2 * subset r (partition_of r n) q + 1) + 1 < 2 ^ (r.base - 1)

pub same_drawn : (m n q c : ℕ) → LowEnds (row_of m) n q c → between true (row_of m) n q c ≡ zero_at + between false (row_of m) n q c
same_drawn m n q c low =
    let r = row_of m in
    let k = subset r (partition_of r n) q in
    let one : Low r.base (endpoint r n c (2 * k)) = record { width = base_is m; below = low.first } in
    let two : Low r.base (endpoint r n c (2 * k + 1)) = record { width = base_is m; below = low.second } in
    let t = weight_of (index_bits r) (index_of r n q) in
    ap₂ (λ (x y : ℕ). drawn x y t) (same_wide one) (same_wide two)
    ∙ raised zero_at (widened false r.base (endpoint r n c (2 * k))) (widened false r.base (endpoint r n c (2 * k + 1))) t
    (weight_most (index_bits r) (index_of r n q))

pub half_of_signed : (m n q c : ℕ) → LowEnds (row_of m) n q c
    → finished false (between false (row_of m) n q c) ≡ finished true (between true (row_of m) n q c) / 2
unfolding finished
half_of_signed m n q c low =
    half_as_much (between false (row_of m) n q c) ∙ ap (λ (x : ℕ). finished_signed x / 2) (sym (same_drawn m n q c low))
