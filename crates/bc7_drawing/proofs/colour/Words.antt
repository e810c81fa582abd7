-- Words of four lanes: masks, sums and products that work on each lane by itself.
-- Assumes nothing.
use mathlib.Core.Path.{◌≡◌, refl, sym, ap, ap₂, ◌∙◌}
use mathlib.Core.Bool.{Bool, true, false}
use mathlib.Core.List.{List, [], ◌∷◌, map, zip_with}
use Prim.Native.Nat.{ℕ, zero, suc, ◌+◌, ◌-◌, ◌*◌, ◌/◌, ◌%◌, ◌^◌, ◌≤◌, ◌<◌}
use native.Mathlib.Nat.{add_comm, div-one, le_of_suc-le-suc, lt_of_lt_of_le, mod-eq_of_lt, mod-lt, mul_comm, mul-le-mul_left, mul-one, mul-zero}
use native.Mathlib.Nat.{one-mul, zero-div, zero-lt-suc, zero-mod}
use native.Mathlib.Omega.{arith}
use lib.Bits.{bit_and}
use lib.Dec.{eqb}
use lib.ListN.{get_or, replicate}
use lib.Pow.{field as pow-field, high, low, mod-mod-pow, ones_lt, ones_split, pow-add, pow_mono, pow_pos, shr-shr}
use Rattle.laws.specs.Digits.{Fit, join, more, none, evenly}
use Rattle.laws.specs.Tables.{pick, table, table_from}
use Rattle.laws.proofs.Cases.{pick_lt}
use Rattle.laws.proofs.Digits.{join_lt, join_split, split_fits_is, split_join}
use Rattle.laws.proofs.Lanes.{lanes, scale}
use Rattle.laws.proofs.Evenly.{evenly_mask}
use Rattle.bcn_format.specs.Block.{field}
use Rattle.bcn_format.specs.Drawing.{promoted}
use Rattle.bcn_format.proofs.Drawing.{promoted_lt}
use Rattle.bc7_drawing.specs.declared.colour.Ends.{Ends}
use Rattle.bc7_fields.specs.Painting.{end_of, end_of_p, solid}
use Rattle.bc7_drawing.specs.Asked.{Promotable, PromotableP, Width, WidthP}
use Rattle.bc7_drawing.specs.Words.{endpoint, ends_of, first_alone, Holds, HoldsOne, laned, Lanes, lanes_of}

-- a word and its lanes
pub laned_lanes : {x : ℕ} → x < 2 ^ 64 → laned (lanes_of x) ≡ x
unfolding laned lanes_of
laned_lanes h = join_split (replicate 4 16) _ h

pub lanes_laned : {vs : List ℕ} → Fit (replicate 4 16) vs → lanes_of (laned vs) ≡ vs
unfolding laned lanes_of
lanes_laned f = split_join f

pub laned_lt : {vs : List ℕ} → Fit (replicate 4 16) vs → laned vs < 2 ^ 64
unfolding laned
laned_lt f = join_lt f

-- values of one width, each made another
pub fit_map : (n w u : ℕ) {vs : List ℕ} (f : ℕ → ℕ) → ((v : ℕ) → v < 2 ^ w → f v < 2 ^ u) → Fit (replicate n w) vs → Fit (replicate n u) (map f vs)
fit_map zero w u f h none = none
fit_map (suc n) w u f h (more l r) = more (h _ l) (fit_map n w u f h r)

pub fit_zip : (n w z u : ℕ) {vs qs : List ℕ} (f : ℕ → ℕ → ℕ) → ((v q : ℕ) → v < 2 ^ w → q < 2 ^ z → f v q < 2 ^ u)
    → Fit (replicate n w) vs → Fit (replicate n z) qs → Fit (replicate n u) (zip_with f vs qs)
unfolding zip_with
fit_zip zero w z u f h none none = none
fit_zip (suc n) w z u f h (more l r) (more l' r') = more (h _ _ l l') (fit_zip n w z u f h r r')

pub wider : (n w u : ℕ) {vs : List ℕ} → w ≤ u → Fit (replicate n w) vs → Fit (replicate n u) vs
wider zero w u h none = none
wider (suc n) w u h (more l r) = more (lt_of_lt_of_le l (pow_mono h)) (wider n w u h r)

-- the sum of two words is that of their lanes
lane_sums : (n w : ℕ) {vs : List ℕ} (f g h : ℕ → ℕ) → ((v : ℕ) → v < 2 ^ w → f v + g v ≡ h v) → Fit (replicate n w) vs
    → lanes 16 (map f vs) + lanes 16 (map g vs) ≡ lanes 16 (map h vs)
lane_sums zero w f g h e none = refl
lane_sums (suc n) w f g h e (more {v = v} l r) = omega (arith, e v l, lane_sums n w f g h e r)

-- lanes of bytes leave room in their word
bytes_le : {vs : List ℕ} → Fit (replicate 4 8) vs → laned vs ≤ 0x00FF_00FF_00FF_00FF
unfolding laned
bytes_le (more h0 (more h1 (more h2 (more h3 none)))) = omega arith

pub lanes_le : (n : ℕ) {x : ℕ} → n ≤ 8 → x < 2 ^ 64 → Lanes n x → x ≤ 0x00FF_00FF_00FF_00FF
lanes_le n h hx small = rw (laned_lanes hx) at (bytes_le (wider 4 n 8 h small))

-- part of each lane: a shift and a mask
module _ (x at bits : ℕ) (room : at + bits ≤ 16) where
  -- what the shifted word has at a lane, whose value is y, are bits of that lane alone
  lane : (y s : ℕ) → x / 2 ^ s ≡ y → x / 2 ^ at / 2 ^ s % 2 ^ bits ≡ y % 2 ^ 16 / 2 ^ at % 2 ^ bits
  lane y s e =
      let above : 16 ≡ 16 - at + at = omega arith in
      let over : 16 - at ≡ 16 - (at + bits) + bits = omega arith in
      ap (λ (z : ℕ). z % 2 ^ bits) (shr-shr x at s ∙ ap (λ (t : ℕ). x / 2 ^ t) (add_comm at s) ∙ sym (shr-shr x s at) ∙ ap (λ (z : ℕ). z / 2 ^ at) e)
      ∙ sym (mod-mod-pow (y / 2 ^ at) (16 - (at + bits)) bits)
      ∙ ap (λ (t : ℕ). y / 2 ^ at % 2 ^ t % 2 ^ bits) (sym over)
      ∙ ap (λ (z : ℕ). z % 2 ^ bits) (sym (pow-field y (16 - at) at))
      ∙ ap (λ (t : ℕ). y % 2 ^ t / 2 ^ at % 2 ^ bits) (sym above)

  pub and_parts : bit_and (x / 2 ^ at) (0x0001_0001_0001_0001 * (2 ^ bits - 1)) ≡ laned (map (λ v. field v at bits) (lanes_of x))
  unfolding laned lanes_of field evenly table table_from
  and_parts =
      let ones : 0x0001_0001_0001_0001 * (2 ^ bits - 1) ≡ evenly 4 16 (λ i. 2 ^ bits - 1) = omega arith in
      ap (bit_and (x / 2 ^ at)) ones
      ∙ evenly_mask 4 16 bits (omega arith) (x / 2 ^ at)
      ∙
      (λ j. join (replicate 4 16) (
      lane x 0 (div-one x) j ∷
      lane (x / 2 ^ 16) 16 refl j ∷
      lane (x / 2 ^ 16 / 2 ^ 16) 32 (sym (shr-shr x 16 16)) j ∷
      lane (x / 2 ^ 16 / 2 ^ 16 / 2 ^ 16) 48 (sym (ap (λ (z : ℕ). z / 2 ^ 16) (shr-shr x 16 16) ∙ shr-shr x 32 16)) j ∷
      []))

-- and the lanes of what is left
pub lanes_16 : (x : ℕ) → Lanes 16 x
unfolding lanes_of
lanes_16 x = split_fits_is (replicate 4 16) x

module _ (x at bits : ℕ) (most : bits ≤ 16) {r : ℕ} (e : r ≡ laned (map (λ v. field v at bits) (lanes_of x))) where
  parts_fit_is : Fit (replicate 4 bits) (map (λ v. field v at bits) (lanes_of x))
  unfolding field
  parts_fit_is = fit_map 4 16 bits _ (λ v h. mod-lt (v / 2 ^ at) (pow_pos bits)) (lanes_16 x)

  parts_lanes : lanes_of r ≡ map (λ v. field v at bits) (lanes_of x)
  parts_lanes = ap lanes_of e ∙ lanes_laned (wider 4 bits 16 most parts_fit_is)

  pub parts_small : Lanes bits r
  parts_small = rw parts_lanes parts_fit_is

-- promotion, width by width: what is filled in are the top bits of the value
at_width : (P : ℕ → Type 0) → P 4 → P 5 → P 6 → P 7 → P 8 → (n : ℕ) → 4 ≤ n → n ≤ 8 → P n
at_width P p4 p5 p6 p7 p8 zero l h = absurd (let z : ⊥ = omega arith in z)
at_width P p4 p5 p6 p7 p8 (suc zero) l h = absurd (let z : ⊥ = omega arith in z)
at_width P p4 p5 p6 p7 p8 (suc (suc zero)) l h = absurd (let z : ⊥ = omega arith in z)
at_width P p4 p5 p6 p7 p8 (suc (suc (suc zero))) l h = absurd (let z : ⊥ = omega arith in z)
at_width P p4 p5 p6 p7 p8 (suc (suc (suc (suc zero)))) l h = p4
at_width P p4 p5 p6 p7 p8 (suc (suc (suc (suc (suc zero))))) l h = p5
at_width P p4 p5 p6 p7 p8 (suc (suc (suc (suc (suc (suc zero)))))) l h = p6
at_width P p4 p5 p6 p7 p8 (suc (suc (suc (suc (suc (suc (suc zero))))))) l h = p7
at_width P p4 p5 p6 p7 p8 (suc (suc (suc (suc (suc (suc (suc (suc zero)))))))) l h = p8
at_width P p4 p5 p6 p7 p8 (suc (suc (suc (suc (suc (suc (suc (suc (suc n))))))))) l h = absurd (let z : ⊥ = omega arith in z)

abbrev Filled : ℕ → Type 0
Filled n = (v : ℕ) → v < 2 ^ n → 2 ^ (8 - n) * v + v / 2 ^ (2 * n - 8) % 2 ^ (8 - n) ≡ promoted n v

filled : (n : ℕ) → 4 ≤ n → n ≤ 8 → Filled n
unfolding promoted
filled = at_width Filled (λ v h. omega arith) (λ v h. omega arith) (λ v h. omega arith) (λ v h. omega arith) (λ v h. omega arith)

module _ (n x : ℕ) (hx : x < 2 ^ 64) (p : Promotable n x) where
  promoted_fits : Fit (replicate 4 8) (map (promoted n) (lanes_of x))
  promoted_fits = fit_map 4 n 8 (promoted n) (λ v h. promoted_lt n v p.width.most h) p.lanes

  sum : x * 2 ^ (8 - n) + laned (map (λ v. field v (2 * n - 8) (8 - n)) (lanes_of x)) ≡ laned (map (promoted n) (lanes_of x))
  unfolding laned lanes_of field
  sum =
      let c : ℕ = 2 ^ (8 - n) in
      let filled_is : (v : ℕ) → v < 2 ^ n → c * v + v / 2 ^ (2 * n - 8) % 2 ^ (8 - n) ≡ promoted n v = filled n p.width.least p.width.most in
      ap (λ (y : ℕ). y + lanes 16 (map (λ v. v / 2 ^ (2 * n - 8) % 2 ^ (8 - n)) (lanes_of x)))
      (ap (λ (y : ℕ). y * c) (sym (laned_lanes hx)) ∙ mul_comm (laned (lanes_of x)) c ∙ sym (scale 16 c (lanes_of x)))
      ∙ lane_sums 4 n (λ v. c * v) (λ v. v / 2 ^ (2 * n - 8) % 2 ^ (8 - n)) (promoted n) filled_is p.lanes

  sum_fits : laned (map (promoted n) (lanes_of x)) < 2 ^ 64
  sum_fits = laned_lt (wider 4 8 16 (omega arith) promoted_fits)

  -- so nothing is shifted out
  module _ {r : ℕ} (filling : r ≡ laned (map (λ v. field v (2 * n - 8) (8 - n)) (lanes_of x))) where
    pub promoted_word : (x * 2 ^ (8 - n)) % 2 ^ 64 + r ≡ laned (map (promoted n) (lanes_of x))
    promoted_word = ap₂ (λ (y z : ℕ). y + z) (mod-eq_of_lt (omega (arith, sum, sum_fits))) filling ∙ sum

    pub promoted_word_fits : (x * 2 ^ (8 - n)) % 2 ^ 64 + r < 2 ^ 64
    promoted_word_fits = rw promoted_word sum_fits

-- a p bit below each lane
module _ (n : ℕ) {vs qs : List ℕ} (values : Fit (replicate 4 n) vs) (ps : Fit (replicate 4 1) qs) where
  with_p_fits : Fit (replicate 4 (n + 1)) (zip_with (λ v q. v * 2 + q) vs qs)
  with_p_fits = fit_zip 4 n 1 (n + 1) _ (λ v q hv hq. rw (pow-add 2 n 1) (omega arith)) values ps

four_sums : (a b c d e f g h : ℕ)
    → laned (a ∷ b ∷ c ∷ d ∷ []) * 2 + laned (e ∷ f ∷ g ∷ h ∷ []) ≡ laned ((a * 2 + e) ∷ (b * 2 + f) ∷ (c * 2 + g) ∷ (d * 2 + h) ∷ [])
unfolding laned
four_sums a b c d e f g h = omega arith

module _ (n x p : ℕ) (hx : x < 2 ^ 64) (hp : p < 2 ^ 64) (a : PromotableP n x p) where
  abbrev joined : List ℕ
  joined = zip_with (λ v q. v * 2 + q) (lanes_of x) (lanes_of p)

  pub with_p_holds : x * 2 + p ≡ laned joined
  unfolding lanes_of zip_with
  with_p_holds = ap₂ (λ (y z : ℕ). y * 2 + z) (sym (laned_lanes hx)) (sym (laned_lanes hp)) ∙ four_sums _ _ _ _ _ _ _ _

  with_p_16 : Fit (replicate 4 16) joined
  with_p_16 = wider 4 (n + 1) 16 (omega arith) (with_p_fits n a.lanes a.ps)

  with_p_lanes : lanes_of (x * 2 + p) ≡ joined
  with_p_lanes = ap lanes_of with_p_holds ∙ lanes_laned with_p_16

  pub with_p_small : Lanes (n + 1) (x * 2 + p)
  with_p_small = rw with_p_lanes (with_p_fits n a.lanes a.ps)

  pub promoted_p : laned (map (promoted (n + 1)) (lanes_of (x * 2 + p)))
      ≡ laned (zip_with (λ v q. promoted (n + 1) (v * 2 + q)) (lanes_of x) (lanes_of p))
  unfolding lanes_of zip_with
  promoted_p = ap (λ (l : List ℕ). laned (map (promoted (n + 1)) l)) with_p_lanes

-- an endpoint of each lane, with and without p bits
module _ (n k x : ℕ) (hk : k < 2) where
  pub ends_within : n ≤ 8 → n * k + n ≤ 16
  ends_within h = omega (arith, mul-le-mul_left n (le_of_suc-le-suc hk))

  module _ (most : n ≤ 8) {r z : ℕ} (e : r ≡ laned (map (λ v. field v (n * k) n) (lanes_of x))) (f : z ≡ laned (map (promoted n) (lanes_of r))) where
    pub end_of_is : z ≡ laned (map (end_of n k) (lanes_of x))
    unfolding lanes_of
    end_of_is = f ∙ ap (λ (l : List ℕ). laned (map (promoted n) l)) (parts_lanes x (n * k) n (omega arith) e)

  module _ (p : ℕ) (most : n ≤ 7) {r q z : ℕ} (e : r ≡ laned (map (λ v. field v (n * k) n) (lanes_of x)))
      (d : q ≡ laned (map (λ v. field v k 1) (lanes_of p)))
      (f : z ≡ laned (zip_with (λ v q. promoted (n + 1) (v * 2 + q)) (lanes_of r) (lanes_of q))) where
    pub end_of_p_is : z ≡ laned (zip_with (end_of_p n k) (lanes_of x) (lanes_of p))
    unfolding lanes_of zip_with
    end_of_p_is =
        f ∙ ap₂ (λ (l m : List ℕ). laned (zip_with (λ v q. promoted (n + 1) (v * 2 + q)) l m)) (parts_lanes x (n * k) n (omega arith) e)
        (parts_lanes p k 1 (omega arith) d)

-- a word made of four values
pub lanes_four : {r a b c d : ℕ} → r ≡ laned (a ∷ b ∷ c ∷ d ∷ []) → a < 2 ^ 16 → b < 2 ^ 16 → c < 2 ^ 16 → d < 2 ^ 16
    → lanes_of r ≡ a ∷ b ∷ c ∷ d ∷ []
lanes_four e ha hb hc hd = ap lanes_of e ∙ lanes_laned (more ha (more hb (more hc (more hd none))))

-- all ones are promoted to 255
ones_255 : (n : ℕ) → 4 ≤ n → n ≤ 8 → promoted n (2 ^ n - 1) ≡ 255
unfolding promoted
ones_255 = at_width (λ n. promoted n (2 ^ n - 1) ≡ 255) refl refl refl refl refl

-- of two times n ones, either half
half_ones : (n k : ℕ) → k < 2 → field (2 ^ (n + n) - 1) (n * k) n ≡ 2 ^ n - 1
unfolding field
half_ones n zero h =
    ap₂ (λ (x y : ℕ). x / 2 ^ y % 2 ^ n) (ones_split n n) (mul-zero n) ∙ ap (λ (x : ℕ). x % 2 ^ n) (div-one _) ∙ low (2 ^ n - 1) n (ones_lt n)
half_ones n (suc zero) h =
    ap₂ (λ (x y : ℕ). x / 2 ^ y % 2 ^ n) (ones_split n n) (mul-one n) ∙ ap (λ (x : ℕ). x % 2 ^ n) (high (2 ^ n - 1) n (ones_lt n))
    ∙ mod-eq_of_lt (ones_lt n)
half_ones n (suc (suc k)) h = absurd (let z : ⊥ = omega arith in z)

pub full : (n : ℕ) → Width n → {v : ℕ} → v ≡ 2 ^ (n + n) - 1 → (k : ℕ) → k < 2 → end_of n k v ≡ 255
full n w e k h = ap (end_of n k) e ∙ ap (promoted n) (half_ones n k h) ∙ ones_255 n w.least w.most

pub full_p : (n : ℕ) → WidthP n → {v : ℕ} → v ≡ 2 ^ (n + n) - 1 → (k : ℕ) → k < 2 → end_of_p n k v 3 ≡ 255
full_p n w e k h =
    ap (λ (v : ℕ). end_of_p n k v 3) e
    ∙ ap₂ (λ (x y : ℕ). promoted (n + 1) (x * 2 + y)) (half_ones n k h) (ap (λ (s : ℕ). field 3 s 1) (sym (one-mul k)) ∙ half_ones 1 k h)
    ∙ ap (promoted (n + 1)) (sym (ones_split n 1)) ∙ ones_255 (n + 1) (omega arith) (omega arith)

field_none : (s w : ℕ) → field 0 s w ≡ 0
unfolding field
field_none s w = ap (λ (x : ℕ). x % 2 ^ w) (zero-div (2 ^ s)) ∙ zero-mod (2 ^ w)

promoted_none : (n : ℕ) → 4 ≤ n → n ≤ 8 → promoted n 0 ≡ 0
unfolding promoted
promoted_none = at_width (λ n. promoted n 0 ≡ 0) refl refl refl refl refl

-- an endpoint's channel is a byte
pub end_lt : (n k v : ℕ) → Width n → end_of n k v < 2 ^ 8
unfolding field
end_lt n k v w = promoted_lt n _ w.most (mod-lt (v / 2 ^ (n * k)) (pow_pos n))

pub end_p_lt : (n k v p : ℕ) → WidthP n → end_of_p n k v p < 2 ^ 8
unfolding field
end_p_lt n k v p w =
    promoted_lt (n + 1) _ (omega arith)
    (rw (pow-add 2 n 1) (omega (arith, mod-lt (v / 2 ^ (n * k)) (pow_pos n), mod-lt (p / 2 ^ k) (pow_pos 1))))

-- the words of bytes: their lanes, and the endpoints that are found in them
module _ (f : ℕ → ℕ → ℕ → ℕ) (each : (l k c : ℕ) → f l k c < 2 ^ 8) where
  four : (k c : ℕ) → Fit (replicate 4 8) (f 0 k c ∷ f 0 k (c + 2) ∷ f 1 k c ∷ f 1 k (c + 2) ∷ [])
  four k c = more (each 0 k c) (more (each 0 k (c + 2)) (more (each 1 k c) (more (each 1 k (c + 2)) none)))

  four_lanes : (k c : ℕ)
      → lanes_of (laned (f 0 k c ∷ f 0 k (c + 2) ∷ f 1 k c ∷ f 1 k (c + 2) ∷ [])) ≡ f 0 k c ∷ f 0 k (c + 2) ∷ f 1 k c ∷ f 1 k (c + 2) ∷ []
  four_lanes k c = lanes_laned (wider 4 8 16 (omega arith) (four k c))

  pub holds : {e : Ends} → e ≡ ends_of f → Holds f e
  unfolding ends_of
  holds e =
      record {
        same = e;
        each = each;
        small = rw e
            (record {
              rb0 = rw (four_lanes 0 0) (four 0 0);
              ga0 = rw (four_lanes 0 1) (four 0 1);
              rb1 = rw (four_lanes 1 0) (four 1 0);
              ga1 = rw
                  (four_lanes 1 1) (four 1 1);
            });
      }

  pub endpoint_of : (l k : ℕ) → l < 2 → k < 2 → endpoint (ends_of f) l k ≡ f l k 0 ∷ f l k 1 ∷ f l k 2 ∷ f l k 3 ∷ []
  unfolding endpoint ends_of
  endpoint_of zero zero hl hk = ap₂ {C = List ℕ} (λ r g. get_or r 0 0 ∷ get_or g 0 0 ∷ get_or r 1 0 ∷ get_or g 1 0 ∷ []) (four_lanes 0 0) (four_lanes 0 1)
  endpoint_of zero (suc zero) hl hk =
      ap₂ {C = List ℕ} (λ r g. get_or r 0 0 ∷ get_or g 0 0 ∷ get_or r 1 0 ∷ get_or g 1 0 ∷ []) (four_lanes 1 0) (four_lanes 1 1)
  endpoint_of (suc zero) zero hl hk =
      ap₂ {C = List ℕ} (λ r g. get_or r 2 0 ∷ get_or g 2 0 ∷ get_or r 3 0 ∷ get_or g 3 0 ∷ []) (four_lanes 0 0) (four_lanes 0 1)
  endpoint_of (suc zero) (suc zero) hl hk =
      ap₂ {C = List ℕ} (λ r g. get_or r 2 0 ∷ get_or g 2 0 ∷ get_or r 3 0 ∷ get_or g 3 0 ∷ []) (four_lanes 1 0) (four_lanes 1 1)
  endpoint_of zero (suc (suc k)) hl hk = absurd (let z : ⊥ = omega arith in z)
  endpoint_of (suc zero) (suc (suc k)) hl hk = absurd (let z : ⊥ = omega arith in z)
  endpoint_of (suc (suc l)) k hl hk = absurd (let z : ⊥ = omega arith in z)

-- of two widths, either
pub end_either_lt : (b : Bool) (n w k v : ℕ) → Width n → Width w → end_of (pick b w n) k v < 2 ^ 8
end_either_lt true n w k v hn hw = end_lt w k v hw
end_either_lt false n w k v hn hw = end_lt n k v hn

-- where alpha is 255
pub solid_lt : {f : ℕ → ℕ → ℕ} → ((k c : ℕ) → f k c < 2 ^ 8) → (k c : ℕ) → solid f k c < 2 ^ 8
solid_lt {f} h k c = pick_lt (eqb c 3) 255 (f k c) (2 ^ 8) (omega arith) (h k c)

-- where nothing is stored there is 0
end_none : (n k : ℕ) → Width n → end_of n k 0 ≡ 0
end_none n k w = ap (promoted n) (field_none (n * k) n) ∙ promoted_none n w.least w.most

pub end_p_none : (n k : ℕ) → WidthP n → end_of_p n k 0 0 ≡ 0
end_p_none n k w =
    ap₂ (λ (v p : ℕ). promoted (n + 1) (v * 2 + p)) (field_none (n * k) n) (field_none k 1) ∙ promoted_none (n + 1) (omega arith) (omega arith)

pub nothing : (c : ℕ) → ◌≡◌ {A = ℕ} (get_or (0 ∷ 0 ∷ 0 ∷ 0 ∷ []) c 0) 0
nothing zero = refl
nothing (suc zero) = refl
nothing (suc (suc zero)) = refl
nothing (suc (suc (suc zero))) = refl
nothing (suc (suc (suc (suc c)))) = refl

-- one colour
module _ (f : ℕ → ℕ → ℕ) (each : (k c : ℕ) → f k c < 2 ^ 8) where
  each_first : (l k c : ℕ) → first_alone f l k c < 2 ^ 8
  each_first l k c = pick_lt (eqb l 0) (f k c) 0 (2 ^ 8) (each k c) (omega arith)

  two_lanes : (k c : ℕ) → Fit (8 ∷ 8 ∷ 0 ∷ 0 ∷ []) (lanes_of (laned (f k c ∷ f k (c + 2) ∷ 0 ∷ 0 ∷ [])))
  two_lanes k c =
      rw (four_lanes (first_alone f) each_first k c)
      (more (each k c) (more (each k (c + 2)) (more {w = 0} (zero-lt-suc 0) (more {w = 0} (zero-lt-suc 0) none))))

  pub holds_one : {e : Ends} → e ≡ ends_of (first_alone f) → HoldsOne f e
  unfolding ends_of
  holds_one e =
      record { same = e; each = each; one = rw e (record { rb0 = two_lanes 0 0; ga0 = two_lanes 0 1; rb1 = two_lanes 1 0; ga1 = two_lanes 1 1 }) }

  pub endpoint_one : {e : Ends} → e ≡ ends_of (first_alone f) → (k : ℕ) → k < 2 → endpoint e 0 k ≡ f k 0 ∷ f k 1 ∷ f k 2 ∷ f k 3 ∷ []
  endpoint_one e k hk = ap (λ (e : Ends). endpoint e 0 k) e ∙ endpoint_of (first_alone f) each_first 0 k (omega arith) hk

pub ends_first : (h : ℕ → ℕ → ℕ → ℕ) → ((k c : ℕ) → h 1 k c ≡ 0) → ends_of h ≡ ends_of (first_alone (h 0))
unfolding ends_of
ends_first h z = λ i. record {
  rb0 = laned (h 0 0 0 ∷ h 0 0 2 ∷ z 0 0 i ∷ z 0 2 i ∷ []);
  ga0 = laned (h 0 0 1 ∷ h 0 0 3 ∷ z 0 1 i ∷ z 0 3 i ∷ []);
  rb1 = laned (h 0 1 0 ∷ h 0 1 2 ∷ z 1 0 i ∷ z 1 2 i ∷ []);
  ga1 = laned (h 0 1 1 ∷ h 0 1 3 ∷ z 1 1 i ∷ z 1 3 i ∷ []);
}

-- its words: red and blue, and green and alpha that are promoted apart
module _ (n k : ℕ) (hn : Width n) where
  pub end_two : {vs : List ℕ} {z a b : ℕ} → vs ≡ a ∷ b ∷ 0 ∷ 0 ∷ [] → z ≡ laned (map (end_of n k) vs)
      → z ≡ laned (end_of n k a ∷ end_of n k b ∷ 0 ∷ 0 ∷ [])
  end_two {a = a} {b = b} er ez =
      let zero_is = end_none n k hn in
      ez ∙ ap (λ (l : List ℕ). laned (map (end_of n k) l)) er ∙ (λ i. laned (end_of n k a ∷ end_of n k b ∷ zero_is i ∷ zero_is i ∷ []))

  module _ (w : ℕ) (hw : Width w) {us vs : List ℕ} {z y g a : ℕ} (er : us ≡ g ∷ 0 ∷ 0 ∷ 0 ∷ []) (eq : vs ≡ 0 ∷ a ∷ 0 ∷ 0 ∷ [])
      (ez : z ≡ laned (map (end_of n k) us)) (ey : y ≡ laned (map (end_of w k) vs)) where
    pub end_apart : z + y ≡ laned (end_of n k g ∷ end_of w k a ∷ 0 ∷ 0 ∷ [])
    unfolding laned
    end_apart =
        let zero_n = end_none n k hn in
        let zero_w = end_none w k hw in
        ap₂ (λ (u v : ℕ). u + v)
        (ez ∙ ap (λ (l : List ℕ). laned (map (end_of n k) l)) er ∙ (λ i. laned (end_of n k g ∷ zero_n i ∷ zero_n i ∷ zero_n i ∷ [])))
        (ey ∙ ap (λ (l : List ℕ). laned (map (end_of w k) l)) eq ∙ (λ i. laned (zero_w i ∷ end_of w k a ∷ zero_w i ∷ zero_w i ∷ [])))
        ∙ omega arith

    pub end_apart_fits : z + y < 2 ^ 64
    end_apart_fits =
        rw end_apart
        (laned_lt (wider 4 8 16 (omega arith)
        (more (end_lt n k g hn) (more (end_lt w k a hw) (more {w = 8} (omega arith) (more {w = 8} (omega arith) none))))))
