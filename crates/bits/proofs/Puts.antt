-- A value put above what is written: the machine's forms, and a row of pushes as a join.
-- Assumes nothing.
use mathlib.Core.Path.{◌≡◌, refl, sym, ap, ap₂, ◌∙◌}
use Prim.Native.Nat.{ℕ, ◌+◌, ◌-◌, ◌*◌, ◌/◌, ◌%◌, ◌^◌, ◌≤◌, ◌<◌}
use native.Mathlib.Nat.{add_assoc, add-mul, add-zero, div-add-mod', div-eq_of_lt, lt_of_lt_of_le, mod-lt, mul_assoc, zero-add, zero-mul}
use native.Mathlib.Numerals.{add-one}
use native.Mathlib.Omega.{arith}
use lib.Arith.{lt-one}
use lib.Pow.{pow_pos, pow-add, pow_mono, shl_exact, shr_lt, shr-shr, high, low}
use lib.Bits.{bit_or, or_lt, or_shifted_r}
use Rattle.bits.specs.declared.writer.BitWriter.{BitWriter}
use Rattle.laws.specs.Digits.{join, total}
use Rattle.laws.specs.Tables.{table}
use Rattle.laws.proofs.Digits.{join_lt}
use Rattle.laws.proofs.Rows.{fit_table, join_more, table_none, total_more, total_room}
use Rattle.bits.specs.Writer.{Pushable, pushed, writer_of, written}
use Rattle.laws.proofs.Words.{shl_keeps}

-- a writer is what it has written, and its position
pub written_of : (n a : ℕ) → written (writer_of n a) ≡ n
unfolding written
written_of n a = div-add-mod' n (2 ^ 64)

writer_is : (s : BitWriter) (n : ℕ) → s.low < 2 ^ 64 → s.high * 2 ^ 64 + s.low ≡ n → s ≡ writer_of n s.at
writer_is s n h e =
    ap₂ (λ (x y : ℕ). record { low = x; high = y; at = s.at })
    (sym (low s.high 64 h) ∙ ap (λ (x : ℕ). x % 2 ^ 64) e)
    (sym (high s.high 64 h) ∙ ap (λ (x : ℕ). x / 2 ^ 64) e)

-- a value put at a place below 64
put_low : (lo hi v a : ℕ) → lo < 2 ^ 64 → a < 64 → hi * 2 ^ 64 + lo < 2 ^ a
    → bit_or hi (v / 2 ^ 1 / 2 ^ (63 - a)) * 2 ^ 64 + bit_or lo ((v * 2 ^ a) % 2 ^ 64) ≡ v * 2 ^ a + (hi * 2 ^ 64 + lo)
put_low lo hi v a hl ha h =
    let e : 64 - a + a ≡ 64 = omega arith in
    let f : 1 + (63 - a) ≡ 64 - a = omega arith in
    let z : hi ≡ 0 = sym (high hi 64 hl) ∙ div-eq_of_lt (lt_of_lt_of_le h (pow_mono {i = a} {j = 64} (omega arith))) in
    let l : lo < 2 ^ a = rw (z, zero-add) at h in
    let lowp : bit_or lo ((v * 2 ^ a) % 2 ^ 64) ≡ v % 2 ^ (64 - a) * 2 ^ a + lo =
    ap (bit_or lo) (rw e at (shl_keeps v (64 - a) a)) ∙ or_shifted_r (v % 2 ^ (64 - a)) a lo l in
    let highp : v / 2 ^ 1 / 2 ^ (63 - a) ≡ v / 2 ^ (64 - a) = rw f at (shr-shr v 1 (63 - a)) in
    let top : v / 2 ^ (64 - a) * 2 ^ 64 ≡ v / 2 ^ (64 - a) * 2 ^ (64 - a) * 2 ^ a =
    ap (λ (x : ℕ). v / 2 ^ (64 - a) * x) (sym (rw e at (sym (pow-add 2 (64 - a) a)))) ∙ sym (mul_assoc (v / 2 ^ (64 - a)) (2 ^ (64 - a)) (2 ^ a)) in
    rw (z, zero-add, highp, lowp, top, ← add_assoc, ← add-mul, div-add-mod')

-- a value of k bits put at a place from 64 on
put_high : (lo hi v a k : ℕ) → lo < 2 ^ 64 → 64 ≤ a → a + k ≤ 128 → v < 2 ^ k → hi * 2 ^ 64 + lo < 2 ^ a
    → bit_or hi ((v * 2 ^ (a - 64)) % 2 ^ 64) * 2 ^ 64 + lo ≡ v * 2 ^ a + (hi * 2 ^ 64 + lo)
put_high lo hi v a k hl ha hk hv h =
    let e : a - 64 + 64 ≡ a = omega arith in
    let top : hi < 2 ^ (a - 64) = rw (high hi 64 hl) at (shr_lt {n = hi * 2 ^ 64 + lo} (a - 64) 64 (rw e h)) in
    let put : bit_or hi ((v * 2 ^ (a - 64)) % 2 ^ 64) ≡ v * 2 ^ (a - 64) + hi =
    ap (bit_or hi) (shl_exact k (a - 64) 64 hv (omega arith)) ∙ or_shifted_r v (a - 64) hi top in
    let up : v * 2 ^ (a - 64) * 2 ^ 64 ≡ v * 2 ^ a =
    mul_assoc v (2 ^ (a - 64)) (2 ^ 64) ∙ ap (λ (x : ℕ). v * x) (sym (pow-add 2 (a - 64) 64) ∙ ap (λ (x : ℕ). 2 ^ x) e) in
    ap (λ (x : ℕ). x * 2 ^ 64 + lo) put ∙ rw (add-mul, up, add_assoc)

module _ (s : BitWriter) (v k : ℕ) (hl : s.low < 2 ^ 64) (p : Pushable s v k) where
  pub push_low : s.at < 64 → record {
    low = bit_or s.low ((v * 2 ^ s.at) % 2 ^ 64);
    high = bit_or s.high
        (v / 2 ^ 1 / 2 ^ (63 - s.at));
    at = s.at + k;
  } ≡ pushed s v k
  unfolding written
  push_low ha =
      writer_is (record { low = bit_or s.low ((v * 2 ^ s.at) % 2 ^ 64); high = bit_or s.high (v / 2 ^ 1 / 2 ^ (63 - s.at)); at = s.at + k }) _
      (or_lt 64 s.low _ hl (mod-lt _ (pow_pos 64))) (put_low s.low s.high v s.at hl ha p.below)

  pub push_high : 64 ≤ s.at → record { low = s.low; high = bit_or s.high ((v * 2 ^ (s.at - 64)) % 2 ^ 64); at = s.at + k } ≡ pushed s v k
  unfolding written
  push_high ha =
      writer_is (record { low = s.low; high = bit_or s.high ((v * 2 ^ (s.at - 64)) % 2 ^ 64); at = s.at + k }) _ hl
      (put_high s.low s.high v s.at k hl ha p.room p.fits p.below)

  -- at 128 there is room for no bits
  pub push_none : 128 ≤ s.at → s ≡ pushed s v k
  unfolding written
  push_none ha =
      let e : k ≡ 0 = omega arith in
      let z : v ≡ 0 = lt-one (rw e at p.fits) in
      rw (e, z, zero-mul, zero-add, add-zero) (writer_is s _ hl refl)

-- the writer after i turns of a loop that pushes v 0, v 1, .. at the widths f 0, f 1, ..
abbrev pub writer_after : (ℕ → ℕ) → (ℕ → ℕ) → ℕ → BitWriter
writer_after f v i = writer_of (join (table i f) (table i v)) (total (table i f))

pub pushes_none : (f v : ℕ → ℕ) → writer_of 0 0 ≡ writer_after f v 0
pushes_none f v = rw (table_none f)

module _ (f v : ℕ → ℕ) (n : ℕ) (fits : (k : ℕ) → k < n → v k < 2 ^ f k) (i : ℕ) (h : i < n) {w : BitWriter} (e : w ≡ writer_after f v i) where
  upto : (k : ℕ) → k < i → v k < 2 ^ f k
  upto k l = fits k (omega arith)

  -- what a push asks for
  pub pushes_ask : total (table n f) ≤ 128 → Pushable w (v i) (f i)
  pushes_ask room =
      rw e
      (record {
        fits = fits i h;
        room = omega (arith, total_room f i n h);
        below = rw (written_of (join (table i f) (table i v)) (total (table i f))) (join_lt (fit_table i f v upto));
      })

  pub pushes_more : {r : BitWriter} → r ≡ pushed w (v i) (f i) → r ≡ writer_after f v (i + 1)
  pushes_more q = q ∙ rw (e, written_of (join (table i f) (table i v)) (total (table i f)), add-one, join_more i f v upto, total_more i f)

-- what the loop has written in the end
pub pushes_written : (f v : ℕ → ℕ) (n : ℕ) {w : BitWriter} → w ≡ writer_after f v n → written w ≡ join (table n f) (table n v)
pushes_written f v n e = ap written e ∙ written_of (join (table n f) (table n v)) (total (table n f))
