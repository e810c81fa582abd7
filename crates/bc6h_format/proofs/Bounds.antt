-- Fields, endpoints, widened, drawn and finished values within their widths.
-- Assumes nothing.
use mathlib.Core.Path.{◌≡◌, refl}
use mathlib.Core.Bool.{Bool, true, false}
use mathlib.Core.List.{List, [], ◌∷◌, map}
use Prim.Native.Nat.{ℕ, zero, suc, ◌+◌, ◌-◌, ◌*◌, ◌/◌, ◌%◌, ◌^◌, ◌≤◌, ◌<◌}
use native.Mathlib.Nat.{add-le-add, div-lt_iff_lt-mul, le_of_suc-le-suc, le_refl, lt_of_le_of_lt, lt_of_lt_of_le, mod-lt}
use native.Mathlib.Nat.{mul-le-mul_right, pow-suc, sub-le}
use native.Mathlib.Omega.{arith}
use borrow.Author.Tests.{ltb-true}
use lib.Dec.{T, eqb, leb, ltb, leb→le, ltb→lt}
use lib.Pow.{pow_pos, pow_mono}
use Rattle.laws.specs.Digits.{split}
use Rattle.laws.specs.Tables.{below, both, pick}
use Rattle.laws.proofs.Cases.{pick_either, pick_lt}
use Rattle.laws.proofs.Tests.{at, both_left, both_right}
use Rattle.bcn_format.specs.Block.{number}
use Rattle.bcn_format.specs.Drawing.{drawn, weight_of}
use Rattle.bcn_format.specs.Partitions.{subset2}
use Rattle.bcn_format.proofs.Drawing.{drawn_le, weight_most}
use Rattle.bcn_format.proofs.Subsets.{subset2_lt}
use Rattle.bc6h_format.specs.Items.{Item, gathered, is_of, items_from, items_of, long, reversed, worth}
use Rattle.bc6h_format.specs.Modes.{Row, index_bits, mode_in, named, reserved, row_of, rows}
use Rattle.bc6h_format.specs.Opened.{field_of, index_of, item_widths, partition_of, subset}
use Rattle.bc6h_format.specs.Widening.{endpoint, widened, widened_signed, widened_size, widened_unsigned, wrapped, zero_at}
use Rattle.bc6h_format.specs.Halves.{finished, finished_signed, finished_unsigned, half, negative, shown}
use Rattle.bc6h_format.proofs.Rows.{every}

-- a test that each row passes, and the reserved one, is passed by the row of any mode
pub of_row : (f : Row → Bool) (rs : List Row) → T (every f rs) → (m : ℕ) → T (f (reserved m)) → T (f (named m rs))
of_row f [] t m z = z
of_row f (r ∷ rs) t m z = go (eqb r.mode m) (of_row f rs (both_right (f r) (every f rs) t) m z)
  where
    go : (b : Bool) → T (f (named m rs)) → T (f (pick b r (named m rs)))
    go true y = both_left (f r) (every f rs) t
    go false y = y

-- the most that an item is worth, and a field
abbrev most : Item → ℕ
most i = pick (ltb i.end i.start) ((2 ^ long i - 1) * 2 ^ i.end) ((2 ^ long i - 1) * 2 ^ i.start)

abbrev most_of : ℕ → ℕ → List Item → ℕ
most_of c e [] = 0
most_of c e (i ∷ is) = most_of c e is + pick (is_of c e i) (most i) 0

pub reversed_lt : (k x : ℕ) → reversed k x < 2 ^ k
reversed_lt zero x = omega arith
reversed_lt (suc k) x =
    let p = reversed_lt k (x / 2) in
    let q : x % 2 * 2 ^ k ≤ 1 * 2 ^ k = mul-le-mul_right (2 ^ k) (let y : x % 2 ≤ 1 = omega arith in y) in
    let s : 2 ^ suc k ≡ 2 ^ k * 2 = pow-suc 2 k in
    omega arith

worth_le : (i : Item) (x : ℕ) → x < 2 ^ long i → worth i x ≤ most i
unfolding worth
worth_le i x h = go (ltb i.end i.start)
  where
    go : (b : Bool) → pick b (reversed (long i) x * 2 ^ i.end) (x * 2 ^ i.start)
        ≤ pick b ((2 ^ long i - 1) * 2 ^ i.end) ((2 ^ long i - 1) * 2 ^ i.start)
    go true = mul-le-mul_right (2 ^ i.end) (let r = reversed_lt (long i) x in let y : reversed (long i) x ≤ 2 ^ long i - 1 = omega arith in y)
    go false = mul-le-mul_right (2 ^ i.start) (let y : x ≤ 2 ^ long i - 1 = omega arith in y)

gathered_le : (c e : ℕ) (is : List Item) (n : ℕ) → gathered c e is (split (map long is) n) ≤ most_of c e is
gathered_le c e [] n = omega arith
gathered_le c e (i ∷ is) n = go (is_of c e i) (gathered_le c e is (n / 2 ^ long i))
  where
    go : (b : Bool) → gathered c e is (split (map long is) (n / 2 ^ long i)) ≤ most_of c e is
        → gathered c e is (split (map long is) (n / 2 ^ long i)) + pick b (worth i (n % 2 ^ long i)) 0 ≤ most_of c e is + pick b (most i) 0
    go true p = add-le-add p (worth_le i (n % 2 ^ long i) (mod-lt n (pow_pos (long i))))
    go false p = add-le-add p (le_refl 0)

-- every field fits the base's width, which is 16 bits at the most
abbrev narrow : Row → Bool
narrow r = leb r.base 16

abbrev room_for : Row → ℕ → ℕ → Bool
room_for r c e = ltb (most_of c e r.items) (2 ^ r.base)

abbrev roomy : Row → Bool
roomy r = below 3 (λ c. below 4 (room_for r c))

narrow_rows : T (every narrow rows)
unfolding rows
narrow_rows = tt

roomy_rows : T (every roomy rows)
unfolding rows items_of items_from is_of long
roomy_rows = tt

pub base_le : (m : ℕ) → (row_of m).base ≤ 16
unfolding row_of
base_le m = leb→le (row_of m).base 16 (of_row narrow rows narrow_rows m tt)

room : (m c e : ℕ) → c < 3 → e < 4 → most_of c e (row_of m).items < 2 ^ (row_of m).base
unfolding row_of
room m c e hc he =
    ltb→lt (most_of c e (row_of m).items) (2 ^ (row_of m).base)
    (at 4 (room_for (row_of m) c) (at 3 (λ c. below 4 (room_for (row_of m) c)) (of_row roomy rows roomy_rows m tt) c hc) e he)

pub field_lt : (m n c e : ℕ) → c < 3 → e < 4 → field_of (row_of m) n c e < 2 ^ (row_of m).base
unfolding field_of item_widths
field_lt m n c e hc he = lt_of_le_of_lt (gathered_le c e (row_of m).items n) (room m c e hc he)

pub endpoint_lt : (m n c e : ℕ) → c < 3 → e < 4 → endpoint (row_of m) n c e < 2 ^ (row_of m).base
unfolding endpoint wrapped
endpoint_lt m n c e hc he = go (both (row_of m).differences (ltb 0 e)) _
  where
    go : (b : Bool) (x : ℕ) → pick b (x % 2 ^ (row_of m).base) (field_of (row_of m) n c e) < 2 ^ (row_of m).base
    go true x = mod-lt x (pow_pos (row_of m).base)
    go false x = field_lt m n c e hc he

-- widened to sixteen bits. Signed values are kept as zero_at more
div_lt : (x p a : ℕ) → 0 < p → x < a * p → x / p < a
div_lt x p a h l = (div-lt_iff_lt-mul h).1 l

unsigned_lt : (w v : ℕ) → w ≤ 16 → v < 2 ^ w → widened_unsigned w v < 65536
unfolding widened_unsigned
unsigned_lt w v l h =
    pick_lt (ltb 14 w) v _ 65536 (lt_of_lt_of_le h (pow_mono l))
    (pick_lt (eqb v 0) 0 _ 65536 (omega arith)
    (pick_lt (eqb v (2 ^ w - 1)) 0xFFFF _ 65536 (omega arith)
    (div_lt (v * 65536 + 0x8000) (2 ^ w) 65536 (pow_pos w) (omega arith))))

size_lt : (k a : ℕ) → k ≤ 15 → (w : ℕ) → a < 2 ^ k
    → pick (ltb 15 w) a (pick (eqb a 0) 0 (pick (ltb a (2 ^ k - 1)) ((a * 2 ^ 15 + 0x4000) / 2 ^ k) 0x7FFF)) < 32768
size_lt k a l w h =
    pick_lt (ltb 15 w) a _ 32768 (lt_of_lt_of_le h (pow_mono l))
    (pick_lt (eqb a 0) 0 _ 32768 (omega arith)
    (pick_lt (ltb a (2 ^ k - 1)) _ 0x7FFF 32768 (div_lt (a * 32768 + 0x4000) (2 ^ k) 32768 (pow_pos k) (omega arith)) (omega arith)))

signed_lt : (w v : ℕ) → w ≤ 16 → widened_signed w v < 65536
unfolding widened_signed widened_size
signed_lt w v l = go (ltb v (2 ^ (w - 1))) refl
  where
    go : (b : Bool) → ltb v (2 ^ (w - 1)) ≡ b → pick b (zero_at + widened_size w v) (zero_at - widened_size w (2 ^ w - v)) < 65536
    go true e =
        let h = size_lt (w - 1) v (let y : w - 1 ≤ 15 = omega arith in y) w (ltb-true v (2 ^ (w - 1)) e) in
        omega (arith, h)
    go false e = lt_of_le_of_lt (sub-le 32768 (widened_size w (2 ^ w - v))) (let y : 32768 < 65536 = omega arith in y)

pub widened_lt : (signed : Bool) (w v : ℕ) → w ≤ 16 → v < 2 ^ w → widened signed w v < 65536
unfolding widened
widened_lt signed w v l h = pick_lt signed (widened_signed w v) (widened_unsigned w v) 65536 (signed_lt w v l) (unsigned_lt w v l h)

pub drawn_lt : (e0 e1 w : ℕ) → w ≤ 64 → e0 < 65536 → e1 < 65536 → drawn e0 e1 w < 65536
drawn_lt e0 e1 w l h0 h1 = omega (arith, drawn_le 65535 e0 e1 w (le_of_suc-le-suc h0) (le_of_suc-le-suc h1) l)

pub finished_lt : (signed : Bool) (v : ℕ) → v < 65536 → finished signed v < 65536
unfolding finished finished_signed finished_unsigned negative
finished_lt signed v h =
    pick_lt signed _ _ 65536
    (pick_lt (ltb v zero_at) _ _ 65536
    (pick_lt (eqb ((zero_at - v) * 31 / 32) 0) 0 _ 65536 (omega arith) (let y : 32768 + (32768 - v) * 31 / 32 < 65536 = omega arith in y))
    (let y : (v - 32768) * 31 / 32 < 65536 = omega arith in y))
    (let y : v * 31 / 64 < 65536 = omega arith in y)

-- the partition has five bits, so a pixel lies in one of two subsets
abbrev five_bits : Row → Bool
five_bits r = ltb (most_of 3 1 r.items) 32

five_rows : T (every five_bits rows)
unfolding rows items_of items_from is_of long
five_rows = tt

pub partition_lt : (m n : ℕ) → partition_of (row_of m) n < 32
unfolding row_of partition_of field_of item_widths
partition_lt m n =
    lt_of_le_of_lt (gathered_le 3 1 (row_of m).items n) (ltb→lt (most_of 3 1 (row_of m).items) 32 (of_row five_bits rows five_rows m tt))

pub subset_lt : (m n q : ℕ) → q < 16 → subset (row_of m) (partition_of (row_of m) n) q < 2
unfolding subset
subset_lt m n q hq =
    pick_lt (eqb (row_of m).subsets 2) (subset2 (partition_of (row_of m) n) q) 0 2
    (subset2_lt (partition_of (row_of m) n) q (let y = partition_lt m n in omega arith) hq)
    (omega arith)

-- what is drawn of a pixel's channel, before it is finished
abbrev pub between : Bool → Row → ℕ → ℕ → ℕ → ℕ
between signed r n q c =
    let k = subset r (partition_of r n) q in
    drawn (widened signed r.base (endpoint r n c (2 * k))) (widened signed r.base (endpoint r n c (2 * k + 1)))
    (weight_of (index_bits r) (index_of r n q))

wide_lt : (signed : Bool) (m n c e : ℕ) → c < 3 → e < 4 → widened signed (row_of m).base (endpoint (row_of m) n c e) < 65536
wide_lt signed m n c e hc he = widened_lt signed (row_of m).base (endpoint (row_of m) n c e) (base_le m) (endpoint_lt m n c e hc he)

pub between_lt : (signed : Bool) (m n q c : ℕ) → q < 16 → c < 3 → between signed (row_of m) n q c < 65536
between_lt signed m n q c hq hc =
    let k = subset (row_of m) (partition_of (row_of m) n) q in
    let hk = subset_lt m n q hq in
    drawn_lt _ _ (weight_of (index_bits (row_of m)) (index_of (row_of m) n q)) (weight_most (index_bits (row_of m)) (index_of (row_of m) n q))
    (wide_lt signed m n c (2 * k) hc (omega (arith, hk))) (wide_lt signed m n c (2 * k + 1) hc (omega (arith, hk)))

-- a channel that is 0 in a reserved mode, and else finished
pub of_finished : (P : ℕ → Type 0) (signed : Bool) (bs : List ℕ) (q c : ℕ) → P 0
    → (let n = number bs in P (finished signed (between signed (row_of (mode_in n)) n q c))) → P (half signed bs q c)
unfolding half shown
of_finished P signed bs q c = pick_either P (eqb (row_of (mode_in (number bs))).subsets 0)
