-- The Rust's steps for an anchor put a zero in at the top of its index, and all steps together expand the stored indexes.
-- Assumes nothing.
use mathlib.Core.Path.{◌≡◌, sym, ap, ap₂, ◌∙◌}
use mathlib.Core.List.{List, [], ◌∷◌}
use Prim.Native.Nat.{ℕ, ◌+◌, ◌-◌, ◌*◌, ◌/◌, ◌%◌, ◌^◌, ◌≤◌, ◌<◌}
use native.Mathlib.Nat.{add_comm, div-add-mod', lt_of_le_of_lt, lt_of_lt_of_le, mod-eq_of_lt, mod-lt}
use native.Mathlib.Omega.{arith}
use lib.Bits.{and_high, and_mask, bit_and, bit_or, or_shifted}
use lib.Pow.{field, pow_mono, pow_pos, shl_exact, shl-shr, shr_le, shr_lt, shr_mod, shr-shr}
use Rattle.laws.specs.Digits.{inserted}
use Rattle.bcn_format.specs.Block.{field as field_of}
use Rattle.bcn_format.proofs.Fields.{field_lt}
use Rattle.bcn_format.specs.Indexes.{expanded, part}
use Rattle.bcn_format.proofs.Expanding.{after_1, after_2, one_anchor, spare_bit, three_anchors, times_width, two_anchors}
use Rattle.bcn_format.proofs.Insert.{inserted_high, inserted_low, inserted_lt}
use Rattle.published.specs.Machine.{flip, mul, shl, shr, sub}
use Rattle.published.specs.BcnUtil.{Indexes, decompress_single_index, from_compressed_p1, from_compressed_p2, from_compressed_p3, get_index}
use Rattle.published.specs.BcnUtil.{get_mask, new_p1, new_p2, new_p3}
use Rattle.published.proofs.Reading.{consume_bits_64_is, mask_64}

-- the steps on what is left above the kept bits
module _ (b c : ℕ) (hb : 0 < b) (most : b ≤ 4) (hc : c < 2 ^ 63) where
  one_less : b - 1 + 1 ≡ b
  one_less = omega arith

  rest : 64 - b + b ≡ 64
  rest = omega arith

  moved : shl 64 c 1 ≡ c * 2 ^ 1
  moved = shl_exact 63 1 64 hc (omega arith)

  doubled_lt : c * 2 ^ 1 < 2 ^ (64 - b + b)
  doubled_lt = rw rest (omega arith)

  flipped : flip 64 (2 ^ b - 1) ≡ 2 ^ (64 - b + b) - 2 ^ b
  flipped = rw rest (omega (arith, pow_pos b))

  upper : bit_and (c * 2 ^ 1) (flip 64 (2 ^ b - 1)) ≡ c / 2 ^ (b - 1) * 2 ^ b
  upper =
      let down : c * 2 ^ 1 / 2 ^ (1 + (b - 1)) ≡ c / 2 ^ (b - 1) =
      sym (shr-shr (c * 2 ^ 1) 1 (b - 1)) ∙ ap (λ (x : ℕ). x / 2 ^ (b - 1)) (shl-shr c 1) in
      let same : 1 + (b - 1) ≡ b = omega arith in
      ap (bit_and (c * 2 ^ 1)) flipped ∙ and_high (c * 2 ^ 1) (64 - b) b
      ∙ ap (λ (x : ℕ). x * 2 ^ b) (shr_mod (64 - b) b doubled_lt ∙ (rw same at down))

  lower : bit_and (c * 2 ^ 1) (2 ^ b - 1) / 2 ^ 1 ≡ c % 2 ^ (b - 1)
  lower =
      ap (λ (x : ℕ). x / 2 ^ 1) (and_mask (c * 2 ^ 1) b)
      ∙ (rw one_less at (field (c * 2 ^ 1) (b - 1) 1))
      ∙ ap (λ (x : ℕ). x % 2 ^ (b - 1)) (shl-shr c 1)

  pub opened : bit_or (bit_and (shl 64 c 1) (flip 64 (2 ^ b - 1))) (shr 64 (bit_and (shl 64 c 1) (2 ^ b - 1)) 1) ≡ inserted c (b - 1)
  unfolding inserted
  opened =
      ap (λ (x : ℕ). bit_or (bit_and x (flip 64 (2 ^ b - 1))) (bit_and x (2 ^ b - 1) / 2 ^ 1)) moved
      ∙ ap₂ bit_or upper lower
      ∙ or_shifted (c / 2 ^ (b - 1)) b (c % 2 ^ (b - 1)) (lt_of_lt_of_le (mod-lt c (pow_pos (b - 1))) (pow_mono {i = b - 1} {j = b} (omega arith)))
      ∙ ap (λ (x : ℕ). c / 2 ^ (b - 1) * 2 ^ x + c % 2 ^ (b - 1)) (sym one_less)

module _ (b n i : ℕ) (hb : 0 < b) (most : b ≤ 4) (hi : i < 16) (hn : n < 2 ^ 63) where
  kept_60 : i * b ≤ 60
  kept_60 = omega (arith, times_width b i 15 (omega arith))

  room : i * b + b ≤ 64
  room = omega (arith, times_width b i 15 (omega arith))

  count_is : i * b % 64 ≡ i * b
  count_is = mod-eq_of_lt (omega (arith, kept_60))

  put_back : (inserted (n / 2 ^ (i * b)) (b - 1) * 2 ^ (i * b)) % 2 ^ 64 ≡ inserted (n / 2 ^ (i * b)) (b - 1) * 2 ^ (i * b)
  put_back =
      let k : ℕ = i * b in
      let e : 63 - k + k ≡ 63 = omega (arith, kept_60) in
      let small = inserted_lt (n / 2 ^ k) (b - 1) (63 - k) (shr_lt (63 - k) k (rw e hn)) (omega (arith, room)) in
      shl_exact (63 - k + 1) k 64 small (omega (arith, kept_60))

  pub decompressed : decompress_single_index b n i ≡ inserted n (i * b + (b - 1))
  unfolding decompress_single_index get_mask
  decompressed =
      let k : ℕ = i * b in
      let count : mul 8 i b ≡ k = mod-eq_of_lt (omega (arith, kept_60)) in
      let small : n / 2 ^ k < 2 ^ 63 = lt_of_le_of_lt (shr_le n k) hn in
      rw (count, mask_64 b (omega arith), mask_64 k (omega (arith, kept_60)), count_is, opened b (n / 2 ^ k) hb most small, put_back)
      (ap (bit_or (inserted (n / 2 ^ k) (b - 1) * 2 ^ k)) (and_mask n k)
      ∙ or_shifted (inserted (n / 2 ^ k) (b - 1)) k (n % 2 ^ k) (mod-lt n (pow_pos k))
      ∙ ap₂ (λ (x y : ℕ). x * 2 ^ k + y) (sym (inserted_high n k (b - 1))) (sym (inserted_low n k (b - 1)))
      ∙ div-add-mod' (inserted n (b - 1 + k)) (2 ^ k)
      ∙ ap (inserted n) (add_comm (b - 1) k))

-- the indexes of b bits in a word, and those that stand in x without the top bit of each anchor
abbrev indexes_in : ℕ → ℕ → Indexes
indexes_in b word = record { uncompressed = word; bits = b; mask = get_mask b }

abbrev pub indexes_are : ℕ → List ℕ → ℕ → Indexes
indexes_are b an x = indexes_in b (expanded b an x)

module _ (b n s : ℕ) (hb : 0 < b) (most : b ≤ 4) where
  -- the field that is read where k anchors have a bit less, and the stream behind it
  abbrev stored : ℕ → ℕ
  stored k = field_of n s (16 * b - k)

  abbrev behind : ℕ → ℕ
  behind k = n / 2 ^ (s + (16 * b - k))

  step : (k x p : ℕ) → 1 ≤ k → p < 16 → x < 2 ^ (16 * b - k) → decompress_single_index b x p ≡ inserted x (p * b + (b - 1))
  step k x p hk hp small = decompressed b x p hb most hp (spare_bit b k x most hk small)

  pub new_p1_is : new_p1 b (n / 2 ^ s) ≡ (indexes_are b (0 ∷ []) (stored 1), behind 1)
  unfolding new_p1 from_compressed_p1
  new_p1_is =
      let x : ℕ = stored 1 in
      let count : sub 8 (mul 8 16 b) 1 ≡ 16 * b - 1 = omega arith in
      let small : x < 2 ^ (16 * b - 1) = field_lt n s (16 * b - 1) in
      let first = step 1 x 0 (omega arith) (omega arith) small in
      rw (count, consume_bits_64_is n s (16 * b - 1) (omega arith))
      (λ i. (indexes_in b (one_anchor b hb x 0 _ (omega arith) small first i), behind 1))

  pub new_p2_is : (p : ℕ) → 0 < p → p < 16 → new_p2 b (n / 2 ^ s) p ≡ (indexes_are b (0 ∷ p ∷ []) (stored 2), behind 2)
  unfolding new_p2 from_compressed_p2
  new_p2_is p h0 hp =
      let x : ℕ = stored 2 in
      let count : sub 8 (mul 8 16 b) 2 ≡ 16 * b - 2 = omega arith in
      let small : x < 2 ^ (16 * b - 2) = field_lt n s (16 * b - 2) in
      let y : ℕ = decompress_single_index b x 0 in
      let first = step 2 x 0 (omega arith) (omega arith) small in
      let second = step 1 y p (omega arith) hp (after_1 b hb x 0 y (omega arith) small first) in
      rw (count, consume_bits_64_is n s (16 * b - 2) (omega arith))
      (λ i. (indexes_in b (two_anchors b hb x 0 p y _ h0 hp small first second i), behind 2))

  pub new_p3_is : (p q : ℕ) → 0 < p → p < q → q < 16 → new_p3 b (n / 2 ^ s) p q ≡ (indexes_are b (0 ∷ p ∷ q ∷ []) (stored 3), behind 3)
  unfolding new_p3 from_compressed_p3
  new_p3_is p q h0 hp hq =
      let x : ℕ = stored 3 in
      let count : sub 8 (mul 8 16 b) 3 ≡ 16 * b - 3 = omega arith in
      let small : x < 2 ^ (16 * b - 3) = field_lt n s (16 * b - 3) in
      let y : ℕ = decompress_single_index b x 0 in
      let z : ℕ = decompress_single_index b y p in
      let first = step 3 x 0 (omega arith) (omega arith) small in
      let less = after_2 b hb x y small first in
      let second = step 2 y p (omega arith) (omega arith) less in
      let third = step 1 z q (omega arith) hq (after_1 b hb y p z (omega arith) less second) in
      rw (count, consume_bits_64_is n s (16 * b - 3) (omega arith))
      (λ i. (indexes_in b (three_anchors b hb x p q y z _ h0 hp hq small first second third i), behind 3))

-- an index, masked
pub get_index_is : (b : ℕ) (an : List ℕ) (x q : ℕ) → b ≤ 4 → q < 16 → get_index (indexes_are b an x) q ≡ part (expanded b an x) b q
unfolding get_index get_mask field_of
get_index_is b an x q most hq =
    let few : q * b ≤ 60 = omega (arith, times_width b q 15 (omega arith)) in
    let count : mul 8 q b ≡ q * b = mod-eq_of_lt (omega arith) in
    let shift : q * b % 64 ≡ q * b = mod-eq_of_lt (omega arith) in
    let v : ℕ = expanded b an x / 2 ^ (q * b) in
    rw (count, shift, mask_64 b (omega arith))
    (ap (λ (y : ℕ). y % 2 ^ 8) (and_mask v b) ∙ mod-eq_of_lt (lt_of_lt_of_le (mod-lt v (pow_pos b)) (pow_mono {i = b} {j = 8} (omega arith))))
