-- The reads that open a mode 4 block give `opening_at`, whichever way the stream goes from one to the next; and from a block's start
-- each is accepted.
-- Assumes nothing.
use mathlib.Core.Path.{◌≡◌, refl, ap, ◌∙◌}
use mathlib.Core.List.{[], ◌∷◌}
use Prim.Native.Nat.{ℕ}
use Rattle.std.specs.Prelude.{Result}
use native.Mathlib.Omega.{arith}
use lib.Dec.{lit<}
use Rattle.bits.specs.declared.stream.BitStream.{BitStream}
use Rattle.bits.specs.declared.stream.Read.{Read}
use Rattle.bits.specs.declared.stream.ShortRead.{ShortRead}
use Rattle.bits.specs.Stream.{Answer, On, answer_of, read_of, reads_of, skipped}
use Rattle.bits.proofs.InOrder.{in_order}
use Rattle.bits.proofs.On.{on_skipped}
use Rattle.bits_lent.specs.declared.Opening.{Opening}
use Rattle.bits_lent.specs.Opening.{LentRead, Opens, answers_of, opening_at}

-- a read by value, as one that is lent answers it
pub as_lent : (s : BitStream) (x : Result Read ShortRead) {r : Answer} {t : BitStream} → answer_of s x ≡ r → t ≡ (answer_of s x).stream
    → LentRead r (answer_of s x) t
as_lent s x e l = record { answer = e; left = l ∙ ap (λ (r : Answer). r.stream) e }

pub opens_at : (s : BitStream) (o : Opening) {s₁ s₂ s₃ : BitStream} → s₁ ≡ skipped s 5
    → LentRead (read_of s₁ 2) (answer_of s₁ o.rotation) s₂ → LentRead (read_of s₂ 1) (answer_of s₂ o.index_mode) s₃
    → answer_of s₃ o.endpoints ≡ read_of s₃ 42 → answers_of s o ≡ opening_at s
unfolding answers_of opening_at
opens_at s o p r q t =
    let x = rw p at r in
    let y = rw x.left at q in
    let z = rw y.left at t in
    rw (x.answer, y.answer, z) refl

-- at bit 5 of a block there is room for all three
pub opens_block : {n : ℕ} {s : BitStream} → On n 0 s → (o : Opening) → answers_of s o ≡ opening_at s → Opens n o
unfolding opening_at reads_of
opens_block {s = s} on o e =
    let stood = in_order (on_skipped on 5) (2 ∷ 1 ∷ 42 ∷ []) (omega arith) (read_of s 0) in
    record {
      start = s;
      first = on;
      rotation = rw e (stood 0 (lit< tt));
      index_mode = rw e (stood 1 (lit< tt));
      endpoints = rw e (stood 2 (lit< tt));
    }
