-- A pixel: the mean of two bytes by a weight of 256, as the machine does it, is the format's; and nothing on the way overflows.
-- Assumes nothing.
use mathlib.Core.Path.{◌≡◌, sym, ap, ap₂, ◌∙◌}
use mathlib.Core.Bool.{Bool, true, false}
use mathlib.Core.List.{List, [], ◌∷◌}
use Prim.Native.Nat.{ℕ, zero, suc, ◌+◌, ◌-◌, ◌*◌, ◌/◌, ◌%◌, ◌^◌, ◌≤◌, ◌<◌}
use native.Mathlib.Nat.{mod-eq_of_lt, mod-lt}
use native.Mathlib.Omega.{arith}
use lib.Dec.{T, eqb, leb, leb→le, lit<}
use lib.ListN.{get_or}
use lib.Pow.{pow-add, pow_pos}
use Rattle.bc7_format.specs.declared.Place.TheVariants.{Index}
use Rattle.bc7_format.specs.declared.Split.{Split}
use Rattle.laws.specs.Digits.{total}
use Rattle.laws.specs.Tables.{below, pick}
use Rattle.laws.proofs.Tests.{at}
use Rattle.bcn_format.specs.Block.{field}
use Rattle.bcn_format.specs.Drawing.{drawn, promoted, weight_of}
use Rattle.bc7_format.specs.Lines.{eight, is_drawn}
use Rattle.bcn_format.proofs.Drawing.{weight_of256, weights256, mean, promoted_lt, weight_le}
use Rattle.bc7_format.specs.Modes.{channel_bits, index_bits, mode_row, p_count}
use Rattle.bc7_format.specs.Places.{at_place, first_from}
use Rattle.bc7_format.specs.Splits.{anchors}
use Rattle.bc7_format.proofs.Starts.{start}
use Rattle.bcn_format.proofs.Theorems.{drawn_by_256, weight_is_four_times}
use Rattle.bcn_format.proofs.Fields.{field_lt}
use Rattle.bcn_format.specs.Indexes.{expanded, index_widths}
use Rattle.bcn_format.proofs.Expanding.{size_1}
use Rattle.bc7_fields.specs.Fields.{end_byte, p_start, value_start}
use Rattle.bc7_fields.specs.Painting.{four}
use Rattle.bc7_fields.proofs.Pictures.{indexes_at}
use Rattle.published.specs.Asserts.{Interpolate2Or3, InterpolateColors, InterpolateColorsAlpha, Mixed}
use Rattle.published.specs.BcnUtil.{get_index}
use Rattle.published.specs.Machine.{sub}
use Rattle.published.specs.Bc7.{WEIGHTS_2, WEIGHTS_3, interpolate_2_or_3, interpolate_colors, interpolate_colors_alpha, mixed, rgba}
use Rattle.published.proofs.Expanding.{get_index_is, indexes_are}

-- a byte of an endpoint is a byte: with p a channel has seven bits at the most
narrow : Bool → ℕ → Bool
narrow true b = leb b 8
narrow false b = leb b 7

narrow_at : ℕ → ℕ → Bool
narrow_at m c = narrow (eqb (p_count m) 0) (channel_bits m c)

narrow_all : T (below 8 (λ m. below 4 (narrow_at m)))
unfolding narrow_at narrow mode_row
narrow_all = tt

byte_lt : (z : Bool) (b v p : ℕ) → T (narrow z b) → v < 2 ^ b → p < 2 → pick z (promoted b v) (promoted (b + 1) (v * 2 + p)) < 256
unfolding narrow
byte_lt true b v p h hv hp = promoted_lt b v (leb→le b 8 h) hv
byte_lt false b v p h hv hp = promoted_lt (b + 1) (v * 2 + p) (omega (arith, leb→le b 7 h)) (rw (pow-add 2 b 1) (omega arith))

module _ (m n : ℕ) (hm : m < 8) where
  pub end_byte_lt : (e c : ℕ) → c < 4 → end_byte m n e c < 256
  unfolding end_byte eight narrow_at
  end_byte_lt e c hc = go (is_drawn m c)
    where
      go : (d : Bool) → pick d (eight m c (field n (value_start m c e) (channel_bits m c)) (field n (p_start m e) 1)) 255 < 256
      go true =
          let test : T (narrow_at m c) = at 4 (narrow_at m) (at 8 (λ m. below 4 (narrow_at m)) narrow_all m hm) c hc in
          byte_lt (eqb (p_count m) 0) (channel_bits m c) _ _ test (field_lt n (value_start m c e) (channel_bits m c)) (field_lt n (p_start m e) 1)
      go false = lit< tt

-- within sixteen bits nothing is lost
no_loss : (x y : ℕ) → x + y ≤ 65280 → ((x % 2 ^ 16 + y % 2 ^ 16) % 2 ^ 16 + 128) % 2 ^ 16 / 2 ^ 8 % 2 ^ 8 ≡ (x + y + 128) / 256
no_loss x y h =
    let a : x % 2 ^ 16 ≡ x = mod-eq_of_lt (omega arith) in
    let b : y % 2 ^ 16 ≡ y = mod-eq_of_lt (omega arith) in
    let c : (x + y) % 2 ^ 16 ≡ x + y = mod-eq_of_lt (omega arith) in
    let d : (x + y + 128) % 2 ^ 16 ≡ x + y + 128 = mod-eq_of_lt (omega arith) in
    rw (a, b, c, d) (mod-eq_of_lt (omega arith))

-- the mean of two bytes by the weight of an index of b bits
abbrev Mean : ℕ → ℕ → ℕ → ℕ → Type 0
Mean e0 e1 w x = (mixed (sub 16 256 w) e0 w e1 ≡ x) × Mixed e0 e1 w

module _ (b i e0 e1 : ℕ) (least : 2 ≤ b) (most : b ≤ 4) (hi : i < 2 ^ b) (h0 : e0 < 256) (h1 : e1 < 256) where
  abbrev w : ℕ
  w = weight_of256 b i

  w_le : w ≤ 256
  w_le = omega (arith, weight_is_four_times b i, weight_le b i least most hi)

  sum_le : (256 - w) * e0 + w * e1 ≤ 65280
  sum_le = mean (256 - w) w e0 e1 (omega (arith, w_le)) h0 h1

  pub mean_is : Mean e0 e1 w (drawn e0 e1 (weight_of b i))
  unfolding mixed
  mean_is =
      let small : w ≤ 256 = w_le in
      let whole : (256 - w) * e0 + w * e1 ≤ 65280 = sum_le in
      let e : sub 16 256 w ≡ 256 - w = omega arith in (
        rw e (no_loss ((256 - w) * e0) (w * e1) whole) ∙ drawn_by_256 b i least most hi e0 e1,
        (small, omega arith, omega arith, omega arith, omega arith),
      )

-- the weight by the number of bits
two_or_three : (b i e0 e1 : ℕ) → 2 ≤ b → b ≤ 3 → i < 2 ^ b → e0 < 256 → e1 < 256
    → (interpolate_2_or_3 e0 e1 i b ≡ drawn e0 e1 (weight_of b i)) × Interpolate2Or3 e0 e1 i b
unfolding interpolate_2_or_3 WEIGHTS_2 WEIGHTS_3 weight_of256 weights256
two_or_three zero i e0 e1 l m hi h0 h1 = absurd (let z : ⊥ = omega arith in z)
two_or_three (suc zero) i e0 e1 l m hi h0 h1 = absurd (let z : ⊥ = omega arith in z)
two_or_three (suc (suc zero)) i e0 e1 l m hi h0 h1 =
    let (is, asked) = mean_is 2 i e0 e1 (omega arith) (omega arith) hi h0 h1 in
    (is, (tt, hi, asked))
two_or_three (suc (suc (suc zero))) i e0 e1 l m hi h0 h1 =
    let (is, asked) = mean_is 3 i e0 e1 (omega arith) (omega arith) hi h0 h1 in
    (is, (tt, hi, asked))
two_or_three (suc (suc (suc (suc b)))) i e0 e1 l m hi h0 h1 = absurd (let z : ⊥ = omega arith in z)

-- what holds of the four channels holds of the elements of a colour
four_all : (P : ℕ → ℕ → Type 0) (f g : ℕ → ℕ) → ((c : ℕ) → c < 4 → P (f c) (g c)) → (c : ℕ) → c < 4 → P (get_or (four f) c 0) (get_or (four g) c 0)
four_all P f g h zero l = h 0 l
four_all P f g h (suc zero) l = h 1 l
four_all P f g h (suc (suc zero)) l = h 2 l
four_all P f g h (suc (suc (suc zero))) l = h 3 l
four_all P f g h (suc (suc (suc (suc c)))) l = absurd (let z : ⊥ = omega arith in z)

-- colours by one weight and alpha by another
pub colours_alpha : (f g x y : ℕ → ℕ) (v w : ℕ) → ((c : ℕ) → c < 4 → Mean (f c) (g c) v (x c)) → ((c : ℕ) → c < 4 → Mean (f c) (g c) w (y c))
    → (interpolate_colors_alpha (four f) (four g) v w ≡ rgba (x 0) (x 1) (x 2) (y 3)) × InterpolateColorsAlpha (four f) (four g) v w
unfolding interpolate_colors_alpha
colours_alpha f g x y v w one other = (
  λ k. (one 0 (omega arith)).0 k ∷ (one 1 (omega arith)).0 k ∷ (one 2 (omega arith)).0 k ∷ (other 3 (omega arith)).0 k ∷ [],
  (λ c h. four_all (λ x y. Mixed x y v) f g (λ c hc. (one c hc).1) c (omega arith), (other 3 (omega arith)).1),
)

-- the four lines of a pixel in mode_subset_2 and mode_subset_3, and what they ask
abbrev pub painted : List ℕ → List ℕ → ℕ → ℕ → List ℕ
painted color0 color1 i b =
    rgba (interpolate_2_or_3 (get_or color0 0 0) (get_or color1 0 0) i b) (interpolate_2_or_3 (get_or color0 1 0) (get_or color1 1 0) i b)
    (interpolate_2_or_3 (get_or color0 2 0) (get_or color1 2 0) i b) (interpolate_2_or_3 (get_or color0 3 0) (get_or color1 3 0) i b)

abbrev pub Painted : List ℕ → List ℕ → ℕ → ℕ → Type 0
Painted color0 color1 i b = (c : ℕ) → c < 4 → Interpolate2Or3 (get_or color0 c 0) (get_or color1 c 0) i b

-- a pixel of subset l by index i of b bits
abbrev pub shade : ℕ → ℕ → ℕ → ℕ → ℕ → List ℕ
shade m n l b i = four (λ c. drawn (end_byte m n (2 * l + 0) c) (end_byte m n (2 * l + 1) c) (weight_of b i))

module _ (m n l b i : ℕ) (hm : m < 8) (least : 2 ≤ b) (hi : i < 2 ^ b) where
  abbrev pub e0 : ℕ → ℕ
  e0 = end_byte m n (2 * l + 0)

  abbrev pub e1 : ℕ → ℕ
  e1 = end_byte m n (2 * l + 1)

  channel : b ≤ 4 → (c : ℕ) → c < 4 → Mean (e0 c) (e1 c) (weight_of256 b i) (drawn (e0 c) (e1 c) (weight_of b i))
  channel most c hc = mean_is b i (e0 c) (e1 c) least most hi (end_byte_lt m n hm (2 * l + 0) c hc) (end_byte_lt m n hm (2 * l + 1) c hc)

  pub colours : b ≤ 4
      → (interpolate_colors (four e0) (four e1) (weight_of256 b i) ≡ shade m n l b i) × InterpolateColors (four e0) (four e1) (weight_of256 b i)
  unfolding interpolate_colors
  colours most =
      let one = channel most in (
        λ k. (one 0 (omega arith)).0 k ∷ (one 1 (omega arith)).0 k ∷ (one 2 (omega arith)).0 k ∷ (one 3 (omega arith)).0 k ∷ [],
        four_all (λ x y. Mixed x y (weight_of256 b i)) e0 e1 (λ c hc. (one c hc).1),
      )

  pub colours_4 : b ≤ 3 → (painted (four e0) (four e1) i b ≡ shade m n l b i) × Painted (four e0) (four e1) i b
  colours_4 most =
      let byte : (e c : ℕ) → c < 4 → end_byte m n e c < 256 = end_byte_lt m n hm in
      let one : (c : ℕ) → c < 4 → _ = λ c hc. two_or_three b i (e0 c) (e1 c) least most hi (byte (2 * l + 0) c hc) (byte (2 * l + 1) c hc) in (
        λ k. (one 0 (omega arith)).0 k ∷ (one 1 (omega arith)).0 k ∷ (one 2 (omega arith)).0 k ∷ (one 3 (omega arith)).0 k ∷ [],
        four_all (λ x y. Interpolate2Or3 x y i b) e0 e1 (λ c hc. (one c hc).1),
      )

-- the index of a pixel: set a of b bits, stored in t bits from bit s0 on
pub indexes_are_is : (m : ℕ) (s : Split) (a n b t s0 : ℕ) (an : List ℕ) → a < 2 → b ≤ 4 → index_bits m a ≡ b → anchors s ≡ an
    → total (index_widths b an) ≡ t → start m s (first_from + (16 * a + 0)) ≡ s0 → (q : ℕ) → q < 16
    → (get_index (indexes_are b an (field n s0 t)) q ≡ at_place m s n (Index a q)) × (get_index (indexes_are b an (field n s0 t)) q < 2 ^ b)
unfolding field
indexes_are_is m s a n b t s0 an ha most eb ea et es q hq =
    let is = get_index_is b an (field n s0 t) q most hq in (
      is ∙ indexes_at m s a n b t an ha eb ea et (ap (λ (z : ℕ). expanded b an (field n z t)) (sym es)) q hq,
      rw is (mod-lt _ (pow_pos b)),
    )

-- what a set of indexes shows, which has its anchor at pixel 0, where there is one pair of endpoints
pub shown_by : (m : ℕ) (s : Split) (a n b s0 : ℕ) → m < 8 → a < 2 → 2 ≤ b → b ≤ 4 → index_bits m a ≡ b → anchors s ≡ 0 ∷ []
    → start m s (first_from + (16 * a + 0)) ≡ s0 → (q : ℕ) → q < 16
    → let i = get_index (indexes_are b (0 ∷ []) (field n s0 (16 * b - 1))) q in
    let w = weight_of (index_bits m a) (at_place m s n (Index a q)) in
    (i < 2 ^ b) × ((c : ℕ) → c < 4 → Mean (end_byte m n 0 c) (end_byte m n 1 c) (weight_of256 b i) (drawn (end_byte m n 0 c) (end_byte m n 1 c) w))
shown_by m s a n b s0 hm ha least most eb ea es q hq =
    let (is, small) = indexes_are_is m s a n b (16 * b - 1) s0 (0 ∷ []) ha most eb ea (size_1 b (omega arith)) es q hq in
    let wider : (c : ℕ) → _ = λ c. ap₂ (λ (w i : ℕ). drawn (end_byte m n 0 c) (end_byte m n 1 c) (weight_of w i)) (sym eb) is in
    (small, λ c hc. let (mean, asked) = channel m n 0 b _ hm least small most c hc in (mean ∙ wider c, asked))
