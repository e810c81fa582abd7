-- The split of a block is one read.
-- Assumes nothing.
use mathlib.Core.Path.{◌≡◌, refl, ap, ap₂, subst, ◌∙◌}
use mathlib.Core.List.{List}
use Prim.Native.Nat.{ℕ, zero, suc, ◌+◌, ◌/◌, ◌%◌, ◌^◌, ◌<◌}
use native.Mathlib.Nat.{add_assoc, add-zero, zero-add}
use native.Mathlib.Numerals.{add-one}
use native.Mathlib.Omega.{arith}
use lib.Pow.{field as part_of, mod-mod-pow, shr-shr}
use Rattle.bc7_places.specs.declared.splits.ReadSplit.{ReadSplit}
use Rattle.bc7_modes.specs.declared.ModeRow.{ModeRow}
use Rattle.bits.specs.declared.stream.BitStream.{BitStream}
use Rattle.bc7_format.specs.declared.Split.TheVariants.{Vector}
use Rattle.laws.specs.Digits.{Fit}
use Rattle.bcn_format.specs.Block.{eights, field, number}
use Rattle.bc7_fields.specs.Fields.{lead_end}
use Rattle.bc7_format.specs.Modes.{index_mode_bits, kind_of_mode, mode_row, partition_bits, rotation_bits}
use Rattle.bc7_format.specs.Splits.{of_kind, split_at, split_of}
use Rattle.bc7_fields.proofs.Fields.{groups_128}
use Rattle.bc7_format.proofs.Modes.{good_64}
use Rattle.bc7_format.proofs.Opening.{opened_good}
use Rattle.bits.specs.Stream.{skipped}
use Rattle.bits.proofs.On.{On, got, on_read, on_skipped}
use Rattle.bc7_modes.specs.Modes.{OfBlock, mode_row_of}
use Rattle.bc7_places.specs.Splits.{IsLead, SplitAhead, split_read}

-- two bits of rotation, and the index mode above them
vector : (n a i : ℕ) → Vector (field n a (i + 2) % 4) (field n a (i + 2) / 2 ^ 2) ≡ Vector (field n (a + 0) 2) (field n (a + (0 + 2)) i)
unfolding field
vector n a i =
    rw (add-zero a)
    (ap₂ Vector (mod-mod-pow (n / 2 ^ a) i 2)
    (part_of (n / 2 ^ a) i 2 ∙ ap (λ (x : ℕ). x % 2 ^ i) (shr-shr n a 2)))

-- in each mode, what the kind takes of one read is what stands at the split's places
one_read : (m n a : ℕ) → m < 8
    → of_kind (kind_of_mode m) (field n a (partition_bits m + rotation_bits m + index_mode_bits m))
    (field n a (partition_bits m + rotation_bits m + index_mode_bits m) % 4)
    (field n a (partition_bits m + rotation_bits m + index_mode_bits m) / 2 ^ 2)
    ≡ of_kind (kind_of_mode m) (field n a (partition_bits m)) (field n (a + partition_bits m) (rotation_bits m))
    (field n (a + (partition_bits m + rotation_bits m)) (index_mode_bits m))
unfolding mode_row kind_of_mode
one_read zero n a h = refl
one_read (suc zero) n a h = refl
one_read (suc (suc zero)) n a h = refl
one_read (suc (suc (suc zero))) n a h = refl
one_read (suc (suc (suc (suc zero)))) n a h = vector n a 1
one_read (suc (suc (suc (suc (suc zero))))) n a h = vector n a 0
one_read (suc (suc (suc (suc (suc (suc zero)))))) n a h = refl
one_read (suc (suc (suc (suc (suc (suc (suc zero))))))) n a h = refl
one_read (suc (suc (suc (suc (suc (suc (suc (suc m)))))))) n a h = absurd (let z : ⊥ = omega arith in z)

-- behind the marker
pub marker_on : (m : ℕ) {n : ℕ} {b s : BitStream} → On n 0 b → s ≡ skipped b (m + 1) → On n (m + 1) s
marker_on m o e = rw e (rw (zero-add (m + 1)) at (on_skipped o (m + 1)))

-- there it is the block's
split_parts : (m n : ℕ)
    → of_kind (kind_of_mode m) (field n (m + 1) (partition_bits m)) (field n (m + 1 + partition_bits m) (rotation_bits m))
    (field n (m + 1 + (partition_bits m + rotation_bits m)) (index_mode_bits m)) ≡ split_at m n
unfolding split_at field
split_parts m n = rw (← (add_assoc (m + 1) (partition_bits m) (rotation_bits m))) (simp (shr-shr, add-one))

module _ (m : ℕ) (low : m < 8) {n : ℕ} {row : ModeRow} {s : BitStream} {r : ReadSplit} (e : row ≡ mode_row_of m) (o : On n (m + 1) s)
    (er : r ≡ split_read row s) where
  bits : ℕ
  bits = partition_bits m + rotation_bits m + index_mode_bits m

  split_is : r.split ≡ split_at m n
  unfolding bits
  split_is = rw (er, e, got o bits refl) (one_read m n (m + 1) low ∙ split_parts m n)

  split_on : On n (m + 1 + (partition_bits m + rotation_bits m + index_mode_bits m)) r.stream
  unfolding bits
  split_on = rw (er, e) (on_read o bits refl)

lead_end_is : (m : ℕ) → m + 1 + (partition_bits m + rotation_bits m + index_mode_bits m) ≡ lead_end m
unfolding lead_end
lead_end_is m = omega arith

-- its bits are there
pub lead_ahead : {mode : ℕ} {row : ModeRow} {n : ℕ} {s : BitStream} → mode < 8 → row ≡ mode_row_of mode → On n (mode + 1) s → SplitAhead row s
lead_ahead {mode} low e o = record {
  of_mode_is = record { mode = mode; low = low; is = e };
  inside = rw (e, o.stands) (omega (arith, lead_end_is mode, groups_128 mode low));
}

-- THE LEAD OF A BLOCK, read from its start
module _ (bs : List ℕ) (sixteen : Fit eights bs) {mode : ℕ} {row : ModeRow} (of : OfBlock bs mode row) {b s : BitStream} {r : ReadSplit}
    (o : On (number bs) 0 b) (es : s ≡ skipped b (mode + 1)) (e : r ≡ split_read row s) where
  on : On (number bs) (mode + 1) s
  on = marker_on mode o es

  the_split : r.split ≡ split_of bs
  unfolding split_of
  the_split = split_is mode of.low of.mode_row_is on e ∙ ap (λ (m : ℕ). split_at m (number bs)) of.mode_is

  pub is_lead : IsLead bs r
  is_lead = record {
    split = the_split;
    few = rw the_split (good_64 (opened_good bs sixteen (rw of.mode_is at of.low)));
    stands =
        subst (λ (a : ℕ). On (number bs) a r.stream) (lead_end_is mode ∙ ap lead_end of.mode_is) (split_on mode of.low of.mode_row_is on e);
  }
