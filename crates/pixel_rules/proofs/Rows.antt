-- What the printed table of modes says, in the format's words: computed tests over the modes.
-- Assumes nothing.
use mathlib.Core.Path.{◌≡◌, refl}
use mathlib.Core.Bool.{Bool, true, false}
use Prim.Native.Nat.{ℕ, ◌+◌, ◌*◌, ◌<◌}
use native.Mathlib.Omega.{arith}
use lib.Dec.{T, eqb, eqb→eq}
use Rattle.laws.specs.Tables.{below, pick}
use Rattle.laws.proofs.Tests.{at}
use Rattle.bc7_format.specs.Modes.{alpha_bits, colour_bits, endpoint_count, first_bits, index_mode_bits, mode_row, p_count, partition_bits, rotation_bits}
use Rattle.bc7_format.specs.Modes.{second_bits}
use Rattle.pixel_rules.specs.Columns.{column_of, printed_rows}

by_row : (f g : ℕ → ℕ) → T (below 8 (λ m. eqb (f m) (g m))) → (m : ℕ) → m < 8 → f m ≡ g m
by_row f g t m h = eqb→eq (f m) (g m) (at 8 (λ m. eqb (f m) (g m)) t m h)

-- a test as a number
abbrev pub flag : Bool → ℕ
flag b = pick b 1 0

-- the columns
pub record Row (m : ℕ) : Type 0 where
  pub ends : 2 * column_of m 0 ≡ endpoint_count m
  pub partition : column_of m 1 ≡ partition_bits m
  pub rotation : column_of m 2 ≡ rotation_bits m
  pub index_mode : column_of m 3 ≡ index_mode_bits m
  pub colour : column_of m 4 ≡ colour_bits m
  pub alpha : column_of m 5 ≡ alpha_bits m
  pub ps : endpoint_count m * column_of m 6 + column_of m 0 * column_of m 7 ≡ p_count m
  pub none : flag (eqb (column_of m 6 + column_of m 7) 0) ≡ flag (eqb (p_count m) 0)
  pub shared : flag (eqb (column_of m 7) 1) ≡ flag (eqb m 1)
  pub first : column_of m 8 ≡ first_bits m
  pub second : column_of m 9 ≡ second_bits m

pub row : (m : ℕ) → m < 8 → Row m
unfolding column_of printed_rows mode_row endpoint_count
row m h = record {
  ends = by_row (λ m. 2 * column_of m 0) endpoint_count tt m h;
  partition = by_row (λ m. column_of m 1) partition_bits tt m h;
  rotation = by_row (λ m. column_of m 2) rotation_bits tt m h;
  index_mode = by_row (λ m. column_of m 3) index_mode_bits tt m h;
  colour = by_row (λ m. column_of m 4) colour_bits tt m h;
  alpha = by_row (λ m. column_of m 5) alpha_bits tt m h;
  ps = by_row (λ m. endpoint_count m * column_of m 6 + column_of m 0 * column_of m 7) p_count tt m h;
  none = by_row (λ m. flag (eqb (column_of m 6 + column_of m 7) 0)) (λ m. flag (eqb (p_count m) 0)) tt m h;
  shared = by_row (λ m. flag (eqb (column_of m 7) 1)) (λ m. flag (eqb m 1)) tt m h;
  first = by_row (λ m. column_of m 8) first_bits tt m h;
  second = by_row (λ m. column_of m 9) second_bits tt m h;
}

pub same_flag : (a b : Bool) → flag a ≡ flag b → a ≡ b
same_flag true true e = refl
same_flag true false e = absurd (let z : ⊥ = omega arith in z)
same_flag false true e = absurd (let z : ⊥ = omega arith in z)
same_flag false false e = refl
