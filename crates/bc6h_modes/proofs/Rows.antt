-- The fields of a row by their runs, which are computed: the lowest first, and of an item that is stored from the top down each bit by itself.
-- Assumes nothing.
use mathlib.Core.Path.{◌≡◌, refl, ◌∙◌, ap, ap₂, sym}
use mathlib.Core.Bool.{Bool, true, false}
use mathlib.Core.List.{List, [], ◌∷◌}
use Prim.Native.Nat.{ℕ, zero, suc, ◌+◌, ◌*◌, ◌/◌, ◌%◌, ◌^◌, ◌<◌}
use native.Mathlib.Nat.{add-mul, lt_of_lt_of_le, mul_assoc}
use native.Mathlib.Numerals.{add-one}
use native.Mathlib.Omega.{arith}
use lib.Dec.{T, leb, leb→le, ltb}
use lib.Pow.{field as part_of, mod-mod-pow, pow-add, pow_mono, shr-shr}
use Rattle.laws.specs.Tables.{both, pick}
use Rattle.laws.proofs.Tests.{T_true}
use Rattle.bcn_format.specs.Block.{field}
use Rattle.bc6h_format.specs.Items.{Item, is_of, long, reversed, worth}
use Rattle.bc6h_format.specs.Modes.{Row, bits_at}
use Rattle.bc6h_format.specs.Opened.{field_of}
use Rattle.bc6h_format.specs.Widening.{endpoint, wrapped}
use Rattle.bc6h_format.proofs.Reading.{field_read, read_from}
use Rattle.bc6h_modes.specs.Runs.{Holds, Run, insert, placed, run, turned}
use Rattle.bc6h_modes.specs.Lanes.{lanes}

placed_insert : (n : ℕ) (r : Run) (rs : List Run) → placed n (insert r rs) ≡ field n r.from r.long * 2 ^ r.to + placed n rs
placed_insert n r [] = refl
placed_insert n r (s ∷ ss) = go (ltb r.to s.to) (placed_insert n r ss)
  where
    go : (b : Bool) → placed n (insert r ss) ≡ field n r.from r.long * 2 ^ r.to + placed n ss
        → placed n (pick b (r ∷ s ∷ ss) (s ∷ insert r ss))
        ≡ field n r.from r.long * 2 ^ r.to + (field n s.from s.long * 2 ^ s.to + placed n ss)
    go true p = refl
    go false p = omega (arith, p)

first_bit : (n s k : ℕ) → field n s (suc k) % 2 ≡ field n s 1
unfolding field
first_bit n s k = rw (← (add-one k)) (mod-mod-pow (n / 2 ^ s) k 1)

other_bits : (n s k : ℕ) → field n s (suc k) / 2 ≡ field n (s + 1) k
unfolding field
other_bits n s k = rw (← (add-one k)) (part_of (n / 2 ^ s) k 1 ∙ ap (λ (x : ℕ). x % 2 ^ k) (shr-shr n s 1))

scaled : (a k b t : ℕ) → (a * 2 ^ k + b) * 2 ^ t ≡ a * 2 ^ (t + k) + b * 2 ^ t
scaled a k b t =
    add-mul (a * 2 ^ k) b (2 ^ t)
    ∙ ap (λ (x : ℕ). x + b * 2 ^ t) (mul_assoc a (2 ^ k) (2 ^ t) ∙ ap (λ (x : ℕ). a * x) (sym (pow-add 2 k t) ∙ ap (λ (j : ℕ). 2 ^ j) (omega arith)))

pub placed_turned : (n k s t : ℕ) (rs : List Run) → placed n (turned k s t rs) ≡ reversed k (field n s k) * 2 ^ t + placed n rs
placed_turned n zero s t rs = omega arith
placed_turned n (suc k) s t rs =
    let p = placed_insert n (run s 1 (t + k)) (turned k (s + 1) t rs) in
    let q = placed_turned n k (s + 1) t rs in
    let e : reversed (suc k) (field n s (suc k)) ≡ field n s 1 * 2 ^ k + reversed k (field n (s + 1) k) =
    ap₂ (λ (x y : ℕ). x * 2 ^ k + reversed k y) (first_bit n s k) (other_bits n s k) in
    let d = ap (λ (x : ℕ). x * 2 ^ t) e ∙ scaled (field n s 1) k (reversed k (field n (s + 1) k)) t in
    p
    ∙ (let y : field n s 1 * 2 ^ (t + k) + placed n (turned k (s + 1) t rs) ≡ reversed (suc k) (field n s (suc k)) * 2 ^ t + placed n rs =
    omega (arith, q, d) in
    y)

-- an item's runs, where it is of the field
abbrev with : Bool → Item → ℕ → List Run → List Run
with true i s rs = pick (ltb i.end i.start) (turned (long i) s i.end rs) (insert (run s (long i) i.start) rs)
with false i s rs = rs

abbrev pub runs_from : ℕ → ℕ → List Item → ℕ → List Run
runs_from c e [] s = []
runs_from c e (i ∷ is) s = with (is_of c e i) i s (runs_from c e is (s + long i))

placed_with : (n : ℕ) (b : Bool) (i : Item) (s : ℕ) (rs : List Run)
    → placed n (with b i s rs) ≡ placed n rs + pick b (worth i (field n s (long i))) 0
unfolding worth
placed_with n true i s rs = go (ltb i.end i.start)
  where
    go : (b : Bool) → placed n (pick b (turned (long i) s i.end rs) (insert (run s (long i) i.start) rs))
        ≡ placed n rs + pick b (reversed (long i) (field n s (long i)) * 2 ^ i.end) (field n s (long i) * 2 ^ i.start)
    go true = let p = placed_turned n (long i) s i.end rs in omega (arith, p)
    go false = let p = placed_insert n (run s (long i) i.start) rs in omega (arith, p)
placed_with n false i s rs = omega arith

read_runs : (c e : ℕ) (is : List Item) (n s : ℕ) → placed n (runs_from c e is s) ≡ read_from c e is n s
read_runs c e [] n s = refl
read_runs c e (i ∷ is) n s =
    placed_with n (is_of c e i) i s (runs_from c e is (s + long i))
    ∙ ap (λ (x : ℕ). x + pick (is_of c e i) (worth i (field n s (long i))) 0) (read_runs c e is n (s + long i))

-- a value that is the field's runs is the field
pub stored : (r : Row) (n c e : ℕ) {x : ℕ} → x ≡ placed n (runs_from c e r.items 0) → x ≡ field_of r n c e
stored r n c e p = p ∙ (read_runs c e r.items n 0 ∙ sym (field_read r n c e))

-- a value that is a field, and has no more bits than k
pub record Field (r : Row) (n c e k x : ℕ) : Type 0 where
  pub is : x ≡ field_of r n c e
  pub small : x < 2 ^ k

pub known : (r : Row) (n c e : ℕ) {k x : ℕ} → Holds n (runs_from c e r.items 0) k x → Field r n c e k x
known r n c e h = record { is = stored r n c e h.is; small = h.small }

-- endpoints: w is its field, and the others their fields or differences from w
both_false : (b : Bool) → both b false ≡ false
both_false true = refl
both_false false = refl

module _ (r : Row) (n : ℕ) where
  -- y is x in sixteen bits
  narrowed : {c e k x y : ℕ} → Field r n c e k x → T (leb k 16) → (x < 2 ^ 16 → y ≡ x) → y ≡ field_of r n c e
  narrowed {k = k} h t g = g (lt_of_lt_of_le h.small (pow_mono {i = k} {j = 16} (leb→le k 16 t))) ∙ h.is

  pub first : (c : ℕ) {k x y : ℕ} → Field r n c 0 k x → T (leb k 16) → (x < 2 ^ 16 → y ≡ x) → y ≡ endpoint r n c 0
  unfolding endpoint
  first c h t g = rw (both_false r.differences) (narrowed h t g)

  pub other : (c e : ℕ) {k x y : ℕ} → r.differences ≡ false → Field r n c e k x → T (leb k 16) → (x < 2 ^ 16 → y ≡ x) → y ≡ endpoint r n c e
  unfolding endpoint
  other c e f h t g =
      narrowed h t g
      ∙ sym (ap (λ (b : Bool). pick (both b (ltb 0 e)) (wrapped r.base (bits_at r c e) (field_of r n c 0) (field_of r n c e)) (field_of r n c e)) f)

  pub differing : (c e : ℕ) {j k b d x : ℕ} → r.differences ≡ true → T (ltb 0 e) → Field r n c 0 j b → Field r n c e k d
      → x ≡ wrapped r.base (bits_at r c e) b d → x ≡ endpoint r n c e
  unfolding endpoint
  differing c e f t hb hd p =
      p
      ∙ (ap₂ (wrapped r.base (bits_at r c e)) hb.is hd.is
      ∙ sym (ap₂ (λ (a b : Bool). pick (both a b) (wrapped r.base (bits_at r c e) (field_of r n c 0) (field_of r n c e)) (field_of r n c e)) f
      (T_true (ltb 0 e) t)))

-- lane by lane
pub sixteen : (k : ℕ) (r : Row) (n : ℕ) {rw gw bw ry gy by rx gx bx rz gz bz : ℕ}
    → rw ≡ endpoint r n 0 0 → gw ≡ endpoint r n 1 0 → bw ≡ endpoint r n 2 0
    → ry ≡ endpoint r n 0 (2 * k) → gy ≡ endpoint r n 1 (2 * k) → by ≡ endpoint r n 2 (2 * k)
    → rx ≡ endpoint r n 0 1 → gx ≡ endpoint r n 1 1 → bx ≡ endpoint r n 2 1
    → rz ≡ endpoint r n 0 (2 * k + 1) → gz ≡ endpoint r n 1 (2 * k + 1) → bz ≡ endpoint r n 2 (2 * k + 1)
    → rw ∷ gw ∷ bw ∷ 0 ∷ ry ∷ gy ∷ by ∷ 0 ∷ rx ∷ gx ∷ bx ∷ 0 ∷ rz ∷ gz ∷ bz ∷ 0 ∷ [] ≡ lanes k r n
unfolding lanes
sixteen k r n p0 p1 p2 p3 p4 p5 p6 p7 p8 p9 p10 p11 = cc
