-- Reads one after the other: each is accepted where all the widths together have room, and stood behind those before it.
-- Assumes nothing.
use mathlib.Core.Path.{◌≡◌, refl, sym, ap, ◌∙◌}
use mathlib.Core.List.{List, [], ◌∷◌}
use Prim.Native.Nat.{ℕ, zero, suc, ◌+◌, ◌-◌, ◌≤◌, ◌<◌}
use native.Mathlib.Nat.{add-zero, le_of_suc-le-suc, not-suc-le-zero}
use native.Mathlib.Omega.{arith}
use lib.ListN.{length, get_or, take}
use lib.Pow.{shr-shr}
use Rattle.bits.specs.declared.stream.BitStream.{BitStream}
use Rattle.laws.specs.Digits.{split, total}
use Rattle.bcn_format.specs.Block.{field}
use Rattle.bits.specs.Stream.{Answer, On, Stood, read_of, reads_of}
use Rattle.bits.proofs.On.{accepts, got, left, on_read, stood}

-- THE LAW OF READS IN ORDER
pub in_order : {n a : ℕ} {s : BitStream} → On n a s → (ws : List ℕ) → a + total ws ≤ 128 → (none : Answer) (i : ℕ) → i < length ws
    → Stood n a ws i (get_or (reads_of s ws) i none)
unfolding reads_of field
in_order o [] h none i l = absurd (not-suc-le-zero l)
in_order {n} {a} {s} o (w ∷ ws) h none zero l =
    rw (accepts o w (omega arith) refl)
    (record {
      accepted = refl;
      digit = got o w refl;
      starts = rw (add-zero a) (stood o w refl);
      leaves = rw (add-zero a) (left o w refl);
    })
in_order {n} {a} {s} o (w ∷ ws) h none (suc i) l =
    let next : On n (a + w) (read_of s w).stream = rw (accepts o w (omega arith) refl) (on_read o w refl) in
    let behind = in_order {a = a + w} next ws (omega arith) none i (le_of_suc-le-suc l) in
    let before : a + w + total (take i ws) ≡ a + (total (take i ws) + w) = omega arith in
    record {
      accepted = behind.accepted;
      digit = behind.digit ∙ ap (λ (x : ℕ). get_or (split ws x) i 0) (sym (shr-shr n a w));
      starts = behind.starts ∙ before;
      leaves = behind.leaves ∙ ap (λ (b : ℕ). 128 - (b + get_or ws i 0)) before;
    }
