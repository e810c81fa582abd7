-- A field of a number of two words replaced, in the machine's words.
-- Assumes nothing.
use mathlib.Core.Path.{◌≡◌, refl, sym, ap, ap₂, ◌∙◌}
use mathlib.Core.Logic.{⊎_elim}
use Prim.Native.Nat.{ℕ, ◌+◌, ◌-◌, ◌*◌, ◌/◌, ◌%◌, ◌^◌, ◌≤◌, ◌<◌}
use native.Mathlib.Nat.{add-zero, div-eq_of_lt, div-one, lt_of_lt_of_le, mod-eq_of_lt, mod-lt, mod-one, mul-one, zero-add}
use native.Mathlib.Omega.{arith}
use lib.Arith.{digits_lt}
use lib.Pow.{field as low_bits, high, low, mod-mod-pow, pow-add, pow_mono, pow_pos, shl_exact, shr_lt, shr-shr}
use Rattle.bits.specs.declared.stream.BitStream.{BitStream}
use Rattle.bits.specs.declared.stream.Read.{Read}
use Rattle.laws.specs.Digits.{replaced_at}
use Rattle.laws.proofs.Cases.{lt_or}
use Rattle.laws.proofs.Putting.{at_zero, up}
use Rattle.laws.proofs.Replacing.{across, in_lower, replaced_lt, taken_added, taken_le}
use Rattle.bcn_format.specs.Block.{field}
use Rattle.bits.specs.Stream.{held, taken}
use Rattle.bits.proofs.On.{got}
use Rattle.laws.proofs.Words.{shl_keeps}
use Rattle.line.specs.Fields.{Step, standing}

step : (x a c v o n : ℕ) → x < 2 ^ 64 → a + c ≤ 64 → v < 2 ^ c → o ≡ x / 2 ^ a % 2 ^ c * 2 ^ a → n ≡ v * 2 ^ a
    → Step x o n × (x - o + n ≡ replaced_at x a c v)
step x a c v o n hx h hv eo en =
    let e : x - o + n ≡ replaced_at x a c v = rw (eo, en) (taken_added x a c v) in
    (record { below = rw eo (taken_le x a c); fits = rw e (replaced_lt x a c v hv 64 h hx) }, e)

-- the words of a number
module _ (lo hi a c v : ℕ) (hl : lo < 2 ^ 64) (hh : hi < 2 ^ 64) (hv : v < 2 ^ c) where
  abbrev n : ℕ
  n = hi * 2 ^ 64 + lo

  abbrev old : ℕ
  old = n / 2 ^ a % 2 ^ c

  lower : n % 2 ^ 64 ≡ lo
  lower = low hi 64 hl

  upper : n / 2 ^ 64 ≡ hi
  upper = high hi 64 hl

  -- from bit 64 on
  pub record InHigh : Type 0 where
    pub high : Step hi ((old * 2 ^ (a - 64)) % 2 ^ 64) ((v * 2 ^ (a - 64)) % 2 ^ 64)
    pub whole : (hi - (old * 2 ^ (a - 64)) % 2 ^ 64 + (v * 2 ^ (a - 64)) % 2 ^ 64) * 2 ^ 64 + lo ≡ replaced_at n a c v

  pub in_high : 64 ≤ a → a + c ≤ 128 → InHigh
  in_high h k =
      let b : ℕ = a - 64 in
      let e : b + 64 ≡ a = omega arith in
      let f : 64 + b ≡ a = omega arith in
      let here : old ≡ hi / 2 ^ b % 2 ^ c =
      ap (λ (x : ℕ). x % 2 ^ c) (ap (λ (k : ℕ). n / 2 ^ k) (sym f) ∙ sym (shr-shr n 64 b) ∙ ap (λ (x : ℕ). x / 2 ^ b) upper) in
      let so : (old * 2 ^ b) % 2 ^ 64 ≡ hi / 2 ^ b % 2 ^ c * 2 ^ b =
      shl_exact {a = old} c b 64 (mod-lt _ (pow_pos c)) (omega arith) ∙ ap (λ (x : ℕ). x * 2 ^ b) here in
      let t = step hi b c v _ _ hh (omega arith) hv so (shl_exact {a = v} c b 64 hv (omega arith)) in
      record {
        high = t.0;
        whole =
            ap (λ (x : ℕ). x * 2 ^ 64 + lo) t.1
            ∙ sym (ap (λ (k : ℕ). replaced_at n k c v) (sym e) ∙ up n b 64 c v ∙ ap₂ (λ (x y : ℕ). replaced_at x b c v * 2 ^ 64 + y) upper lower);
      }

  -- from a bit below 64 on
  pub record InLow : Type 0 where
    pub low : Step lo ((old * 2 ^ a) % 2 ^ 64) ((v * 2 ^ a) % 2 ^ 64)
    pub high : Step hi (old / 2 ^ 1 / 2 ^ (63 - a)) (v / 2 ^ 1 / 2 ^ (63 - a))
    pub whole : (hi - old / 2 ^ 1 / 2 ^ (63 - a) + v / 2 ^ 1 / 2 ^ (63 - a)) * 2 ^ 64 + (lo - (old * 2 ^ a) % 2 ^ 64 + (v * 2 ^ a) % 2 ^ 64)
        ≡ replaced_at n a c v

  module _ (h : a < 64) where
    e : 64 - a + a ≡ 64
    e = omega arith

    kept : (x : ℕ) → (x * 2 ^ a) % 2 ^ 64 ≡ x % 2 ^ (64 - a) * 2 ^ a
    kept x = rw e at (shl_keeps x (64 - a) a)

    over : (x : ℕ) → x / 2 ^ 1 / 2 ^ (63 - a) ≡ x / 2 ^ (64 - a)
    over x = let f : 1 + (63 - a) ≡ 64 - a = omega arith in rw f at (shr-shr x 1 (63 - a))

    both : (c0 c1 v0 v1 : ℕ) → a + c0 ≤ 64 → c1 ≤ 64 → v0 < 2 ^ c0 → v1 < 2 ^ c1 → v % 2 ^ (64 - a) ≡ v0 → v / 2 ^ (64 - a) ≡ v1
        → old % 2 ^ (64 - a) ≡ lo / 2 ^ a % 2 ^ c0 → old / 2 ^ (64 - a) ≡ hi % 2 ^ c1
        → replaced_at n a c v ≡ replaced_at hi 0 c1 v1 * 2 ^ 64 + replaced_at lo a c0 v0 → InLow
    both c0 c1 v0 v1 k0 k1 h0 h1 e0 e1 o0 o1 all =
        let l = step lo a c0 v0 _ _ hl k0 h0 (kept old ∙ ap (λ (x : ℕ). x * 2 ^ a) o0) (kept v ∙ ap (λ (x : ℕ). x * 2 ^ a) e0) in
        let u =
        step hi 0 c1 v1 _ _ hh (rw (zero-add c1) k1) h1 (over old ∙ o1 ∙ sym (rw (div-one hi) (mul-one (hi % 2 ^ c1))))
        (over v ∙ e1 ∙ sym (mul-one v1)) in
        record { low = l.0; high = u.0; whole = ap₂ (λ (x y : ℕ). x * 2 ^ 64 + y) u.1 l.1 ∙ sym all }

    in_word : n / 2 ^ a % 2 ^ (64 - a) ≡ lo / 2 ^ a % 2 ^ (64 - a)
    in_word =
        let word : n / 2 ^ a % 2 ^ (64 - a) ≡ lo / 2 ^ a = sym (rw e at (low_bits n (64 - a) a)) ∙ ap (λ (x : ℕ). x / 2 ^ a) lower in
        word ∙ sym (mod-eq_of_lt (shr_lt {n = lo} (64 - a) a (rw e hl)))

    small : {x : ℕ} → a + c ≤ 64 → x < 2 ^ c → x < 2 ^ (64 - a)
    small k hx = lt_of_lt_of_le hx (pow_mono {i = c} {j = 64 - a} (omega arith))

    -- the field lies in the low word
    below : a + c ≤ 64 → InLow
    below k =
        let o : old < 2 ^ c = mod-lt _ (pow_pos c) in
        let g : 64 - a - c + c ≡ 64 - a = omega arith in
        let same : old ≡ lo / 2 ^ a % 2 ^ c =
        sym (rw g at (mod-mod-pow (n / 2 ^ a) (64 - a - c) c))
        ∙ ap (λ (x : ℕ). x % 2 ^ c) (sym (rw e at (low_bits n (64 - a) a)) ∙ ap (λ (x : ℕ). x / 2 ^ a) lower) in
        both c 0 v 0 k (omega arith) hv (pow_pos 0) (mod-eq_of_lt (small k hv)) (div-eq_of_lt (small k hv)) (mod-eq_of_lt (small k o) ∙ same)
        (div-eq_of_lt (small k o) ∙ sym (mod-one hi))
        (in_lower n a c v 64 k
        ∙ ap₂ (λ (x y : ℕ). x * 2 ^ 64 + replaced_at y a c v) (upper ∙ sym (at_zero hi 0 0 ∙ add-zero _ ∙ mul-one _ ∙ div-one hi)) lower)

    -- it lies in both
    crossing : 64 ≤ a + c → a + c ≤ 128 → InLow
    crossing k m =
        let d : ℕ = a + c - 64 in
        let f : d + (64 - a) ≡ c = omega arith in
        let g : a + (64 - a) ≡ 64 = omega arith in
        both (64 - a) d (v % 2 ^ (64 - a)) (v / 2 ^ (64 - a)) (omega arith) (omega arith) (mod-lt v (pow_pos (64 - a)))
        (shr_lt {n = v} d (64 - a) (rw f hv)) refl refl
        ((rw f at (mod-mod-pow (n / 2 ^ a) d (64 - a))) ∙ in_word)
        ((rw f at (low_bits (n / 2 ^ a) d (64 - a))) ∙ ap (λ (x : ℕ). x % 2 ^ d) ((rw g at (shr-shr n a (64 - a))) ∙ upper))
        (across n a c v 64 (omega arith) k
        ∙ ap₂ (λ (x y : ℕ). replaced_at x 0 d (v / 2 ^ (64 - a)) * 2 ^ 64 + replaced_at y a (64 - a) (v % 2 ^ (64 - a))) upper lower)

    pub in_low : a + c ≤ 128 → InLow
    in_low m = ⊎_elim (λ k. below (omega arith)) (λ k. crossing (omega arith) m) (lt_or (a + c) 65)

-- what is read of a stream that was set to another position
pub read_at : (s : BitStream) (a c : ℕ) {q : BitStream} {r : Read} → q ≡ standing s a → r ≡ taken q c
    → r.value ≡ (s.high * 2 ^ 64 + s.low) / 2 ^ a % 2 ^ c
unfolding held field
read_at s a c eq er = got (record { of = ap held eq; stands = ap (λ (t : BitStream). t.at) eq }) c er

-- and two values of w bits, read at once
module _ (s : BitStream) (a w : ℕ) {q : BitStream} {r : Read} (eq : q ≡ standing s a) (er : r ≡ taken q (2 * w)) where
  read_both : r.value ≡ (s.high * 2 ^ 64 + s.low) / 2 ^ a % 2 ^ (w + w)
  read_both = let e : 2 * w ≡ w + w = omega arith in rw e at (read_at s a (2 * w) eq er)

  pub first_of : r.value % 2 ^ w ≡ field (held s) a w
  unfolding held field
  first_of = rw read_both (mod-mod-pow ((s.high * 2 ^ 64 + s.low) / 2 ^ a) w w)

  pub second_of : r.value / 2 ^ w ≡ field (held s) (a + w) w
  unfolding held field
  second_of =
      rw read_both (low_bits ((s.high * 2 ^ 64 + s.low) / 2 ^ a) w w ∙ ap (λ (x : ℕ). x % 2 ^ w) (shr-shr (s.high * 2 ^ 64 + s.low) a w))

-- two values of w bits side by side
pub pair_is : (w a b : ℕ) {x y : ℕ} → w ≤ 8 → b < 2 ^ w → y ≡ b → x ≡ a → (y * 2 ^ w) % 2 ^ 64 + x ≡ b * 2 ^ w + a
pair_is w a b hw hb ey ex = rw (ey, ex, shl_exact {a = b} w w 64 hb (omega arith))

pub pair_lt : (w a b : ℕ) → a < 2 ^ w → b < 2 ^ w → b * 2 ^ w + a < 2 ^ (2 * w)
pair_lt w a b ha hb = let e : w + w ≡ 2 * w = omega arith in rw (← (pow-add 2 w w), e) at (digits_lt hb ha)

pub pair_fits : (w a b : ℕ) → w ≤ 8 → a < 2 ^ w → b < 2 ^ w → b * 2 ^ w + a < 2 ^ 64
pair_fits w a b hw ha hb = lt_of_lt_of_le (pair_lt w a b ha hb) (pow_mono {i = 2 * w} {j = 64} (omega arith))
