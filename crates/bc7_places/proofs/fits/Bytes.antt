-- Eight bytes under one mask, and sixteen bytes as two words of eight.
-- Assumes nothing.
use mathlib.Core.Path.{◌≡◌, refl, sym, ap, ap₂, ◌∙◌}
use mathlib.Core.Bool.{Bool, true, false}
use mathlib.Core.List.{List, ◌++◌}
use Prim.Native.Nat.{ℕ, ◌+◌, ◌-◌, ◌*◌, ◌%◌, ◌^◌, ◌≤◌, ◌<◌}
use native.Mathlib.Nat.{le_of_suc-le-suc}
use native.Mathlib.Omega.{arith}
use lib.Dec.{eqb, ltb}
use lib.ListN.{get_or, replicate, get_or-append}
use lib.Seq.{get_or-append-add}
use lib.Pow.{high, low}
use lib.Bits.{bit_and}
use Rattle.bits.specs.declared.stream.BitStream.{BitStream}
use Rattle.laws.specs.Digits.{Fit, join, split}
use Rattle.laws.specs.Tables.{below, both, pick, table, table_from}
use Rattle.laws.proofs.Cases.{pick_lt}
use Rattle.laws.proofs.Digits.{join_split, split_fits_is, split_join}
use Rattle.laws.proofs.Barred.{barred, mask_fits}
use Rattle.laws.proofs.Putting.{split_append}
use Rattle.laws.proofs.Rows.{split_mod}
use Rattle.laws.proofs.Scan.{below_add, scan_same}
use Rattle.bcn_format.specs.Block.{eights, number}
use Rattle.bits.specs.Stream.{held}
use Rattle.laws.proofs.Words.{one_shl}

module _ (c a : ℕ) (hc : c ≤ 8) (ha : a ≤ 8) where
  abbrev of_pair : ℕ → ℕ
  of_pair i = pick (eqb (i % 4) 3) a c

  low_widths : (i : ℕ) → i < 8 → of_pair i ≤ 8
  low_widths i h = le_of_suc-le-suc (pick_lt (eqb (i % 4) 3) a c 9 (omega arith) (omega arith))

  pair_mask : (256 - (1 * 2 ^ c) % 2 ^ 64) * 0x0001010100010101 + (256 - (1 * 2 ^ a) % 2 ^ 64) * 0x0100000001000000
      ≡ join (replicate 8 8) (table 8 (λ i. barred (of_pair i)))
  unfolding table table_from
  pair_mask = rw (one_shl c (omega arith), one_shl a (omega arith)) (omega arith)

  pub pair_test : (bytes : ℕ) → bytes < 2 ^ 64
      → eqb (bit_and bytes ((256 - (1 * 2 ^ c) % 2 ^ 64) * 0x0001010100010101 + (256 - (1 * 2 ^ a) % 2 ^ 64) * 0x0100000001000000)) 0
      ≡ below 8 (λ i. ltb (get_or (split (replicate 8 8) bytes) i 0) (2 ^ of_pair i))
  pair_test bytes h =
      ap₂ (λ (x y : ℕ). eqb (bit_and x y) 0) (sym (join_split (replicate 8 8) bytes h)) pair_mask
      ∙ mask_fits 8 of_pair (split (replicate 8 8) bytes) low_widths (split_fits_is (replicate 8 8) bytes)

-- sixteen bytes in two halves
abbrev octet : List ℕ
octet = replicate 8 8

module _ {bs : List ℕ} (sixteen : Fit eights bs) (s : BitStream) (h : held s ≡ number bs) (l : s.low < 2 ^ 64) where
  in_halves : bs ≡ split octet s.low ++ split octet s.high
  unfolding held number
  in_halves =
      sym (split_join sixteen) ∙ ap (split eights) (sym h) ∙ split_append octet octet (held s)
      ∙ ap₂ {C = List ℕ} (λ x y. x ++ split octet y) (sym (split_mod octet (held s)) ∙ ap (split octet) (low s.high 64 l)) (high s.high 64 l)

  pub low_byte : (i : ℕ) → i < 8 → get_or (split octet s.low) i 0 ≡ get_or bs i 0
  low_byte i hi = sym (ap (λ (l : List ℕ). get_or l i 0) in_halves ∙ get_or-append (split octet s.low) (split octet s.high) 0 i hi)

  pub high_byte : (i : ℕ) → i < 8 → get_or (split octet s.high) i 0 ≡ get_or bs (8 + i) 0
  high_byte i hi = sym (ap (λ (l : List ℕ). get_or l (8 + i) 0) in_halves ∙ get_or-append-add (split octet s.low) (split octet s.high) i 0)

-- one width for all: the tests of both halves
pub one_width : (b : Bool) (w : ℕ) → pick b w w ≡ w
one_width true w = refl
one_width false w = refl

abbrev pub octet_test : ℕ → ℕ → Bool
octet_test w x = below 8 (λ i. ltb (get_or (split octet x) i 0) (2 ^ pick (eqb (i % 4) 3) w w))

pub halves_test : (w : ℕ) {bs : List ℕ} → Fit eights bs → (s : BitStream) → held s ≡ number bs → s.low < 2 ^ 64
    → below 16 (λ i. ltb (get_or bs i 0) (2 ^ w)) ≡ both (octet_test w s.low) (octet_test w s.high)
halves_test w {bs} sixteen s h l =
    below_add 8 8 (λ i. ltb (get_or bs i 0) (2 ^ w))
    ∙ sym (ap₂ both (scan_same 8 _ _ (λ i hi. ap₂ (λ (x y : ℕ). ltb x (2 ^ y)) (low_byte sixteen s h l i hi) (one_width (eqb (i % 4) 3) w)))
    (scan_same 8 _ _ (λ i hi. ap₂ (λ (x y : ℕ). ltb x (2 ^ y)) (high_byte sixteen s h l i hi) (one_width (eqb (i % 4) 3) w))))
