-- WHAT HOLDS THE PROMISE OF BC6H TO C: a block of piglit's in both signs through it, with any number but 0 for signed, and a reserved block.
-- Assumes nothing.
use mathlib.Core.Path.{◌≡◌, refl, sym}
use mathlib.Core.Bool.{true}
use mathlib.Core.List.{List, ◌∷◌}
use Prim.Native.Nat.{ℕ}
use lib.ListN.{replicate}
use Rattle.bcn_format.specs.Block.{number}
use Rattle.bc6h_format.specs.Modes.{mode_in, row_of, rows}
use Rattle.bc6h_format.proofs.Examples.{block_00, signed_00, signed_00_holds, unsigned_00, unsigned_00_holds}
use Rattle.bc6h_format.proofs.Theorems.{reserved_is_zero}
use Rattle.rinchovek_rules.specs.Promises.{DecodesBc6h}

-- all bits but the mode's
abbrev reserved : List ℕ
reserved = 0xF3 ∷ replicate 15 0xFF

pub record Bc6hCalls : Type 0 where
  pub without : DecodesBc6h block_00 0 unsigned_00
  pub with_1 : DecodesBc6h block_00 1 signed_00
  pub with_2 : DecodesBc6h block_00 2 signed_00
  pub with_256 : DecodesBc6h block_00 256 signed_00
  pub with_the_last : DecodesBc6h block_00 0xFFFFFFFF signed_00
  pub with_none : DecodesBc6h reserved 1 (replicate 16 (replicate 3 0))

pub bc6h_calls_hold : Bc6hCalls
unfolding number mode_in row_of rows
bc6h_calls_hold = record {
  without = sym unsigned_00_holds;
  with_1 = sym signed_00_holds;
  with_2 = sym signed_00_holds;
  with_256 = sym signed_00_holds;
  with_the_last = sym signed_00_holds;
  with_none = sym (reserved_is_zero true reserved (let y : (row_of (mode_in (number reserved))).subsets ≡ 0 = refl in y));
}
