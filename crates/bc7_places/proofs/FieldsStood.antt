-- THE FIELDS OF A BLOCK, READ ONE AFTER THE OTHER: none is refused, and each stood where the widths say. It is the law of reads in order, for
-- all widths together have 128 bits.
-- Assumes nothing.
use mathlib.Core.Path.{◌≡◌, sym, ap, ◌∙◌}
use Prim.Native.Nat.{ℕ, ◌+◌, ◌-◌, ◌^◌, ◌<◌}
use native.Mathlib.Nat.{div-one, zero-add}
use native.Mathlib.Omega.{arith}
use lib.ListN.{get_or}
use Rattle.bits.specs.declared.stream.BitStream.{BitStream}
use Rattle.bits.specs.Stream.{Answer, On, reads_of}
use Rattle.bits.proofs.InOrder.{in_order}
use Rattle.laws.specs.Digits.{split}
use Rattle.bc7_format.specs.declared.Split.{Split}
use Rattle.bc7_format.specs.Modes.{kind_of_mode, partition_bits}
use Rattle.bc7_format.specs.Places.{at_place, place_count, start, widths}
use Rattle.bc7_format.specs.Splits.{kind_of, partition}
use Rattle.bc7_format.proofs.Places.{length_widths, pos_place_at, total_128}
use Rattle.bc7_places.specs.Reads.{FieldRead}

pub fields_stood : (m : ℕ) (s : Split) → m < 8 → kind_of s ≡ kind_of_mode m → partition s < 2 ^ partition_bits m → {n : ℕ} {b : BitStream}
    → On n 0 b → (none : Answer) (i : ℕ) → i < place_count → FieldRead m s n i (get_or (reads_of b (widths m s)) i none)
unfolding start at_place
fields_stood m s hm hk hp {n} o none i h =
    let r = in_order o (widths m s) (omega (arith, total_128 m s hm hk hp)) none i (rw (length_widths m s) h) in
    record {
      accepted = r.accepted;
      value = r.digit ∙ ap (λ (x : ℕ). get_or (split (widths m s) x) i 0) (div-one n)
          ∙ ap (λ (j : ℕ). get_or (split (widths m s) n) j 0) (sym (pos_place_at i h));
      first = r.starts ∙ zero-add (start m s i);
      remaining = r.leaves ∙ ap (λ (a : ℕ). 128 - (a + get_or (widths m s) i 0)) (zero-add (start m s i));
    }
