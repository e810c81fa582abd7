-- How large the numbers of the modes are, by the printed table and the format's: computed tests over the modes.
-- Assumes nothing.
use mathlib.Core.Logic.{◌≢◌}
use mathlib.Core.Bool.{Bool, not}
use Prim.Native.Nat.{ℕ, ◌+◌, ◌*◌, ◌≤◌, ◌<◌}
use native.Mathlib.Nat.{le_trans, mul-le-mul_left, mul-le-mul_right, mul-one}
use native.Mathlib.Omega.{arith}
use borrow.Author.Tests.{ne_eqb}
use lib.Dec.{T, eqb, leb, leb→le, ltb, ltb→lt, lt→ltb}
use Rattle.laws.specs.Tables.{below, both, implies}
use Rattle.laws.proofs.Tests.{at, both_left, both_right, implied}
use Rattle.bc7_fields.specs.Fields.{lead_end, p_start, value_start}
use Rattle.bc7_format.specs.Modes.{alpha_bits, channel_bits, colour_bits, endpoint_count, first_bits, index_bits, index_mode_bits, mode_row, p_count}
use Rattle.bc7_format.specs.Modes.{partition_bits, rotation_bits}
use Rattle.pixel_rules.specs.Columns.{column_of, printed_rows}
use Rattle.pixel_rules.specs.Plain.{first_start, set_for}

row_le : (f : ℕ → ℕ) (n : ℕ) → T (below 8 (λ m. leb (f m) n)) → (m : ℕ) → m < 8 → f m ≤ n
row_le f n t m h = leb→le (f m) n (at 8 (λ m. leb (f m) n) t m h)

-- how large they are
pub column_le : (m k : ℕ) → m < 8 → k < 10 → column_of m k ≤ 8
unfolding column_of printed_rows
column_le m k h l =
    leb→le _ 8 (at 10 (λ k. leb (column_of m k) 8) (at 8 (λ m. below 10 (λ k. leb (column_of m k) 8)) tt m h) k l)

pub record Room (m : ℕ) : Type 0 where
  pub lead : lead_end m ≤ 16
  pub ends : endpoint_count m ≤ 6
  pub values : lead_end m + endpoint_count m * (3 * colour_bits m + alpha_bits m) ≤ 108
  pub first : first_start m ≤ 110
  pub least : 1 ≤ first_bits m
  pub most : first_bits m ≤ 4

pub fits : (m : ℕ) → m < 8 → Room m
unfolding lead_end first_start mode_row endpoint_count
fits m h = record {
  lead = row_le lead_end 16 tt m h;
  ends = row_le endpoint_count 6 tt m h;
  values = row_le (λ m. lead_end m + endpoint_count m * (3 * colour_bits m + alpha_bits m)) 108 tt m h;
  first = row_le first_start 110 tt m h;
  least = leb→le 1 _ (at 8 (λ m. leb 1 (first_bits m)) tt m h);
  most = row_le first_bits 4 tt m h;
}

pub p_room : (m e : ℕ) → m < 8 → e < 6 → p_start m e < 128
unfolding lead_end p_start mode_row endpoint_count
p_room m e h l = ltb→lt _ 128 (at 6 (λ e. ltb (p_start m e) 128) (at 8 (λ m. below 6 (λ e. ltb (p_start m e) 128)) tt m h) e l)

value_test : ℕ → ℕ → ℕ → Bool
value_test m c e = implies (ltb e (endpoint_count m)) (leb (value_start m c e + channel_bits m c) 128)

values_fit : T (below 8 (λ m. below 4 (λ c. below 6 (value_test m c))))
unfolding value_test lead_end value_start implies mode_row endpoint_count
values_fit = tt

pub value_room : (m c e : ℕ) → m < 8 → c < 4 → e < endpoint_count m → value_start m c e + channel_bits m c ≤ 128
unfolding value_test
value_room m c e h hc he =
    let six : e < 6 = let l = (fits m h).ends in omega arith in
    leb→le _ 128 (implied (ltb e (endpoint_count m)) _ (at 6 (value_test m c) (at 4 (λ c. below 6 (value_test m c))
    (at 8 (λ m. below 4 (λ c. below 6 (value_test m c))) values_fit m h) c hc) e six) (lt→ltb e (endpoint_count m) he))

-- a value that is stored has four bits at least, and with a p bit eight at the most
depth_test : ℕ → ℕ → Bool
depth_test m c =
    both (leb (channel_bits m c) 8) (implies (not (eqb (channel_bits m c) 0))
    (both (leb 4 (channel_bits m c)) (implies (not (eqb (p_count m) 0)) (leb (channel_bits m c + 1) 8))))

depths : T (below 8 (λ m. below 4 (depth_test m)))
unfolding depth_test implies mode_row
depths = tt

pub record Deep (m c : ℕ) : Type 0 where
  pub most : channel_bits m c ≤ 8
  pub least : channel_bits m c ≢ 0 → 4 ≤ channel_bits m c
  pub with_p_holds : channel_bits m c ≢ 0 → p_count m ≢ 0 → channel_bits m c + 1 ≤ 8

pub deep : (m c : ℕ) → m < 8 → c < 4 → Deep m c
unfolding depth_test
deep m c h hc =
    let t = at 4 (depth_test m) (at 8 (λ m. below 4 (depth_test m)) depths m h) c hc in
    let u = both_right (leb (channel_bits m c) 8) _ t in
    let some : (x : ℕ) → x ≢ 0 → T (not (eqb x 0)) = λ x n. rw (ne_eqb x 0 n) tt in
    let v : channel_bits m c ≢ 0 → T (both (leb 4 (channel_bits m c)) (implies (not (eqb (p_count m) 0)) (leb (channel_bits m c + 1) 8))) =
    λ n. implied (not (eqb (channel_bits m c) 0)) _ u (some (channel_bits m c) n) in
    record {
      most = leb→le _ 8 (both_left (leb (channel_bits m c) 8) _ t);
      least = λ n. leb→le 4 _ (both_left (leb 4 (channel_bits m c)) _ (v n));
      with_p_holds = λ n p. leb→le _ 8 (implied (not (eqb (p_count m) 0)) _ (both_right (leb 4 (channel_bits m c)) _ (v n)) (some (p_count m) p));
    }

-- the set that serves a channel has indexes of 2, 3 or 4 bits
serves_test : ℕ → ℕ → ℕ → Bool
serves_test m i d = both (ltb (set_for m i d) 2) (both (leb 2 (index_bits m (set_for m i d))) (leb (index_bits m (set_for m i d)) 4))

all_serve : T (below 8 (λ m. below 2 (λ i. below 4 (serves_test m i))))
unfolding serves_test set_for mode_row
all_serve = tt

pub record Serves (m a : ℕ) : Type 0 where
  pub set : a < 2
  pub least : 2 ≤ index_bits m a
  pub most : index_bits m a ≤ 4

pub serves : (m i d : ℕ) → m < 8 → i < 2 → d < 4 → Serves m (set_for m i d)
unfolding serves_test
serves m i d h hi hd =
    let a : ℕ = set_for m i d in
    let t = at 4 (serves_test m i)
    (at 2 (λ i. below 4 (serves_test m i)) (at 8 (λ m. below 2 (λ i. below 4 (serves_test m i))) all_serve m h) i hi) d hd in
    let u = both_right (ltb a 2) _ t in
    record {
      set = ltb→lt _ 2 (both_left (ltb a 2) _ t);
      least = leb→le 2 _ (both_left (leb 2 (index_bits m a)) _ u);
      most = leb→le _ 4 (both_right (leb 2 (index_bits m a)) _ u);
    }

-- a product of two small numbers
pub product : {a b : ℕ} (x y : ℕ) → a ≤ x → b ≤ y → a * b ≤ x * y
product {a} {b} x y h l = le_trans (mul-le-mul_right b h) (mul-le-mul_left x l)

-- an index has four bits at the most
pub index_le : (m a : ℕ) → m < 8 → a < 2 → index_bits m a ≤ 4
unfolding mode_row
index_le m a h l = leb→le _ 4 (at 2 (λ a. leb (index_bits m a) 4) (at 8 (λ m. below 2 (λ a. leb (index_bits m a) 4)) tt m h) a l)

pub times : (q w : ℕ) → 1 ≤ w → q ≤ q * w
times q w h = rw mul-one at (mul-le-mul_left q h)

-- the bits of a split
pub record Few (m : ℕ) : Type 0 where
  pub partition : partition_bits m ≤ 6
  pub rotation : rotation_bits m ≤ 2
  pub index_mode : index_mode_bits m ≤ 1

pub few : (m : ℕ) → m < 8 → Few m
unfolding mode_row
few m h = record { partition = row_le partition_bits 6 tt m h; rotation = row_le rotation_bits 2 tt m h; index_mode = row_le index_mode_bits 1 tt m h }
