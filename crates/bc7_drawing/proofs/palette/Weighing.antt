-- The weights of indexes of four bits, eight at a time.
-- Assumes nothing.
use mathlib.Core.Path.{◌≡◌, sym, ap, ap₂, ◌∙◌}
use mathlib.Core.List.{List, []}
use Prim.Native.Nat.{ℕ, ◌+◌, ◌*◌, ◌/◌, ◌%◌, ◌^◌, ◌≤◌, ◌<◌}
use native.Mathlib.Nat.{add_comm, mod-eq_of_lt, mod-lt, mul_comm, not-suc-le-zero}
use native.Mathlib.Omega.{arith}
use lib.Bits.{bit_and}
use lib.ListN.{length, set}
use lib.Pow.{field as pow-field, mod-mod-pow, pow_pos, shr-shr}
use Rattle.laws.specs.Digits.{evenly}
use Rattle.laws.specs.Tables.{table, table_from}
use Rattle.laws.proofs.Evenly.{evenly_linear, evenly_mask, evenly_part, evenly_same}
use Rattle.laws.proofs.Part.{Part, part_all, part_none, part_set}
use Rattle.bcn_format.specs.Block.{field}
use Rattle.bcn_format.specs.Drawing.{weight_of}
use Rattle.bcn_format.proofs.Drawing.{weight_le}
use Rattle.bcn_format.specs.Indexes.{part}
use Rattle.bcn_format.proofs.Weighing.{computed, computed_weight, four_bits}

-- a weight is four times its index, and one more for each four
weight_is : (i : ℕ) → i < 16 → i * 4 + (i + 2) / 4 % 8 ≡ weight_of 4 i
unfolding computed
weight_is i h =
    let whole : (i + 2) / 4 % 8 ≡ (i + 2) / 4 = mod-eq_of_lt (omega arith) in
    let e : i * 4 + (i + 2) / 4 ≡ (64 * i + 7) / 15 = omega arith in
    ap (λ (n : ℕ). i * 4 + n) whole ∙ e ∙ computed_weight 4 i (four_bits h)

module _ (x : ℕ) where
  abbrev index : ℕ → ℕ
  index j = part x 4 (2 * j)

  index_lt : (j : ℕ) → index j < 16
  unfolding field
  index_lt j = mod-lt (x / 2 ^ (2 * j * 4)) (pow_pos 4)

  pub indexes : bit_and x 0x0F0F_0F0F_0F0F_0F0F ≡ evenly 8 8 index
  unfolding evenly table table_from field
  indexes =
      evenly_mask 8 8 4 (omega arith) x
      ∙ evenly_same 8 8 _ _ (λ i l. let e : i * 8 ≡ 2 * i * 4 = omega arith in ap (λ (s : ℕ). x / 2 ^ s % 2 ^ 4) e)

  -- what is added for each four
  more_two : evenly 8 8 index + 0x0202_0202_0202_0202 ≡ evenly 8 8 (λ j. index j + 2)
  unfolding evenly table table_from
  more_two = omega arith

  fourths : bit_and (evenly 8 8 (λ j. index j + 2) / 2 ^ 2) 0x0707_0707_0707_0707 ≡ evenly 8 8 (λ j. (index j + 2) / 4 % 8)
  unfolding evenly table table_from
  fourths =
      let y : ℕ = evenly 8 8 (λ j. index j + 2) in
      evenly_mask 8 8 3 (omega arith) (y / 2 ^ 2)
      ∙ evenly_same 8 8 _ _ (λ i l.
      let z : ℕ = y / 2 ^ (i * 8) in
      ap (λ (u : ℕ). u % 2 ^ 3) (shr-shr y 2 (i * 8) ∙ ap (λ (s : ℕ). y / 2 ^ s) (add_comm 2 (i * 8)) ∙ sym (shr-shr y (i * 8) 2))
      ∙ sym (mod-mod-pow (z / 2 ^ 2) 3 3)
      ∙ ap (λ (u : ℕ). u % 2 ^ 3)
      (sym (pow-field z 6 2) ∙ ap (λ (u : ℕ). u / 2 ^ 2) (evenly_part 8 8 (λ j. index j + 2) (λ j h. omega (arith, index_lt j)) i l)))

  weights_word : evenly 8 8 index * 4 + evenly 8 8 (λ j. (index j + 2) / 4 % 8) ≡ evenly 8 8 (λ j. weight_of 4 (index j))
  weights_word = evenly_linear 8 8 4 index (λ j. (index j + 2) / 4 % 8) ∙ evenly_same 8 8 _ _ (λ j l. weight_is (index j) (index_lt j))

  pub weights_are : 4 * bit_and x 0x0F0F_0F0F_0F0F_0F0F
      + bit_and ((bit_and x 0x0F0F_0F0F_0F0F_0F0F + 0x0202_0202_0202_0202) / 2 ^ 2) 0x0707_0707_0707_0707 ≡ evenly 8 8 (λ j. weight_of 4 (index j))
  weights_are =
      ap (λ (i : ℕ). 4 * i + bit_and ((i + 0x0202_0202_0202_0202) / 2 ^ 2) 0x0707_0707_0707_0707) indexes
      ∙ ap₂ (λ (y z : ℕ). y + z) (mul_comm 4 (evenly 8 8 index)) (ap (λ (y : ℕ). bit_and (y / 2 ^ 2) 0x0707_0707_0707_0707) more_two ∙ fourths)
      ∙ weights_word

-- a weight of eight, and two that are 32 bits apart
module _ (x i : ℕ) (hi : i < 4) {all : ℕ} (ea : all ≡ evenly 8 8 (λ j. weight_of 4 (part x 4 (2 * j)))) where
  weight_64 : (j : ℕ) → weight_of 4 (part x 4 (2 * j)) ≤ 64
  weight_64 j = weight_le 4 (part x 4 (2 * j)) (omega arith) (omega arith) (index_lt x j)

  weight_at : (j : ℕ) → j < 8 → part all 8 j ≡ weight_of 4 (part x 4 (2 * j))
  unfolding field
  weight_at j h =
      ap (λ (y : ℕ). y / 2 ^ (j * 8) % 2 ^ 8) ea ∙ evenly_part 8 8 (λ j. weight_of 4 (part x 4 (2 * j))) (λ k l. omega (arith, weight_64 k)) j h

  pub record Two (w : ℕ) : Type 0 where
    pub low : w % 2 ^ 32 ≡ 4 * weight_of 4 (part x 4 (2 * i))
    pub high : w / 2 ^ 32 ≡ 4 * weight_of 4 (part x 4 (2 * i + 8))
    pub low_256 : w % 2 ^ 32 ≤ 256
    pub high_256 : w / 2 ^ 32 ≤ 256

  pub two_weights : {w : ℕ} → w ≡ evenly 2 32 (λ h. 4 * part all 8 (i + 4 * h)) → Two w
  unfolding evenly table table_from
  two_weights e =
      let a : part all 8 (i + 0) ≡ weight_of 4 (part x 4 (2 * i)) = ap (part all 8) (omega arith) ∙ weight_at i (omega arith) in
      let next : 2 * (i + 4) ≡ 2 * i + 8 = omega arith in
      let b : part all 8 (i + 4) ≡ weight_of 4 (part x 4 (2 * i + 8)) =
      weight_at (i + 4) (omega arith) ∙ ap (λ (q : ℕ). weight_of 4 (part x 4 q)) next in
      let la : weight_of 4 (part x 4 (2 * i)) ≤ 64 = weight_64 i in
      let lb : weight_of 4 (part x 4 (2 * i + 8)) ≤ 64 = rw next at (weight_64 (i + 4)) in
      record { low = omega arith; high = omega arith; low_256 = omega arith; high_256 = omega arith }

-- how they are taken out
four_times : (f : ℕ → ℕ) → 4 * evenly 2 32 f ≡ evenly 2 32 (λ h. 4 * f h)
unfolding evenly table table_from
four_times f = omega arith

pub weights_taken : (all i : ℕ) → 4 * bit_and (all / 2 ^ (8 * i)) 0x00FF_0000_00FF ≡ evenly 2 32 (λ h. 4 * part all 8 (i + 4 * h))
unfolding evenly table table_from field
weights_taken all i =
    ap (λ (y : ℕ). 4 * y)
    (evenly_mask 2 32 8 (omega arith) (all / 2 ^ (8 * i))
    ∙ evenly_same 2 32 _ (λ h. part all 8 (i + 4 * h)) (λ h l.
    let place : 8 * i + h * 32 ≡ (i + 4 * h) * 8 = omega arith in
    ap (λ (y : ℕ). y % 2 ^ 8) (shr-shr all (8 * i) (h * 32) ∙ ap (λ (s : ℕ). all / 2 ^ s) place)))
    ∙ four_times (λ h. part all 8 (i + 4 * h))

-- a loop that makes pixels q and q + 8 at a time
pub record Columns (f : ℕ → List ℕ) (m : ℕ) (out : List (List ℕ)) : Type 0 where
  pub within : m ≤ 8
  pub made : Part 16 [] f (λ q. q % 8 < m) out

module _ {f : ℕ → List ℕ} {out : List (List ℕ)} where
  pub no_column : length out ≡ 16 → Columns f 0 out
  no_column e = record { within = omega arith; made = part_none e (λ k h. not-suc-le-zero h) }

  pub column : {a b : List ℕ} (m j : ℕ) → m < 8 → j ≡ m + 8 → Columns f m out → a ≡ f m → b ≡ f (m + 8) → Columns f (m + 1) (set (set out m a) j b)
  column m j hm ej h ea eb = record {
    within = omega arith;
    made = part_set {P = λ q. (q % 8 < m + 1) × (q < m + 8)} j _
        (part_set {P = λ q. q % 8 < m} m _ h.made (omega arith) ea (λ k lk q ne. omega (arith, q.0, q.1, ne)))
        (omega arith) (eb ∙ ap f (sym ej)) (λ k lk q ne. (q, omega (arith, ne)));
  }

  pub all_columns : {m : ℕ} → Columns f m out → 8 ≤ m → out ≡ table 16 f
  all_columns h l = part_all h.made (λ k lk. omega (arith, mod-lt k {m = 8} (omega arith)))

-- an index is that of the pixel before it, a place further down
pub next_index : (x q : ℕ) → part (x / 2 ^ 4) 4 q ≡ part x 4 (q + 1)
unfolding field
next_index x q =
    let place : 4 + q * 4 ≡ (q + 1) * 4 = omega arith in ap (λ (y : ℕ). y % 2 ^ 4) (shr-shr x 4 (q * 4) ∙ ap (λ (s : ℕ). x / 2 ^ s) place)

pub index_16 : (x q : ℕ) → part x 4 q < 2 ^ 4
unfolding field
index_16 x q = mod-lt (x / 2 ^ (q * 4)) (pow_pos 4)
