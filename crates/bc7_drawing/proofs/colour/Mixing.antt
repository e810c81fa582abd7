-- The weighted sum of two words is that of each lane, and the upper bytes of lanes make two colours.
-- Assumes nothing.
use mathlib.Core.Path.{◌≡◌, refl, sym, ap, ap₂, ◌∙◌}
use mathlib.Core.List.{List, [], ◌∷◌, map, zip_with}
use Prim.Native.Nat.{ℕ, zero, suc, ◌+◌, ◌-◌, ◌*◌, ◌/◌, ◌%◌, ◌^◌, ◌≤◌, ◌<◌}
use native.Mathlib.Nat.{add-mul, mod-eq_of_lt, mul-le-mul_right}
use native.Mathlib.Omega.{arith}
use lib.ListN.{get_or, replicate, take}
use lib.Pow.{shr_lt, shr_mod, split as split_at}
use Rattle.std.specs.Int.{to_le_bytes}
use Rattle.std.proofs.Common.{w64}
use Rattle.laws.specs.Digits.{Fit, join, more, none, split, total}
use Rattle.laws.proofs.Digits.{join_lt, split_at_place, split_join}
use Rattle.laws.proofs.Fitting.{fit_get}
use Rattle.laws.proofs.Lanes.{scale}
use Rattle.bcn_format.specs.Block.{field}
use Rattle.bcn_format.proofs.Drawing.{mean}
use Rattle.bc7_drawing.specs.Asked.{Mixable2}
use Rattle.bc7_drawing.specs.Words.{blend, blends, laned, Lanes, lanes_of, word_bytes, woven}
use Rattle.bc7_drawing.proofs.colour.Words.{fit_map, fit_zip, laned_lanes, laned_lt, lanes_16, lanes_le}

-- that nothing is too large on the way, where m is the largest weight
pub record Steps (m w e0 e1 : ℕ) : Type 0 where
  pub halves : m * e0 + 0x0080_0080_0080_0080 < 2 ^ 64
  pub less : w * e0 ≤ m * e0
  pub times : w * e1 < 2 ^ 64
  pub whole : (m * e0 + 0x0080_0080_0080_0080 - w * e0) + w * e1 < 2 ^ 64

module _ (w : ℕ) (h : w ≤ 256) where
  pub blend_lt : (x y : ℕ) → x < 2 ^ 8 → y < 2 ^ 8 → blend w x y < 2 ^ 16
  blend_lt x y hx hy = omega (arith, mean (256 - w) w x y (omega arith) hx hy)

  four_blends : (a b c d a' b' c' d' : ℕ)
      → (256 * laned (a ∷ b ∷ c ∷ d ∷ []) + 0x0080_0080_0080_0080 - w * laned (a ∷ b ∷ c ∷ d ∷ [])) + w * laned (a' ∷ b' ∷ c' ∷ d' ∷ [])
      ≡ laned (blend w a a' ∷ blend w b b' ∷ blend w c c' ∷ blend w d d' ∷ [])
  unfolding laned
  four_blends a b c d a' b' c' d' =
      let all : w + (256 - w) ≡ 256 = omega arith in
      let p = scale 16 (256 - w) (a ∷ b ∷ c ∷ d ∷ []) in
      let q = scale 16 w (a' ∷ b' ∷ c' ∷ d' ∷ []) in
      let r = sym (add-mul w (256 - w) (laned (a ∷ b ∷ c ∷ d ∷ []))) ∙ ap (λ (x : ℕ). x * laned (a ∷ b ∷ c ∷ d ∷ [])) all in
      omega (arith, p, q, r)

  module _ (e0 e1 : ℕ) (h0 : e0 < 2 ^ 64) (h1 : e1 < 2 ^ 64) (small0 : Lanes 8 e0) (small1 : Lanes 8 e1) where
    pub mixed_word : (256 * e0 + 0x0080_0080_0080_0080 - w * e0) + w * e1 ≡ laned (zip_with (blend w) (lanes_of e0) (lanes_of e1))
    unfolding lanes_of zip_with
    mixed_word =
        ap₂ (λ (x y : ℕ). (256 * x + 0x0080_0080_0080_0080 - w * x) + w * y) (sym (laned_lanes h0)) (sym (laned_lanes h1))
        ∙ four_blends _ _ _ _ _ _ _ _

    pub steps : Steps 256 w e0 e1
    steps =
        let le0 : e0 ≤ 0x00FF_00FF_00FF_00FF = lanes_le 8 (omega arith) h0 small0 in
        let le1 : e1 ≤ 0x00FF_00FF_00FF_00FF = lanes_le 8 (omega arith) h1 small1 in
        let times1 : w * e1 ≤ 256 * e1 = mul-le-mul_right e1 h in
        record {
          halves = omega arith;
          less = mul-le-mul_right e0 h;
          times = omega arith;
          whole = rw mixed_word
              (laned_lt (fit_zip 4 8 8 16 (blend w) blend_lt small0 small1));
        }

-- two lanes by two weights
module _ (w v : ℕ) (hw : w ≤ 256) (hv : v ≤ 256) where
  times : (a b : ℕ) → (v * 2 ^ 32 + w) * (b * 2 ^ 16 + a) ≡ laned ((w * a) ∷ (w * b) ∷ (v * a) ∷ (v * b) ∷ [])
  unfolding laned
  times a b = omega arith

  part_of : (u x : ℕ) → u ≤ 256 → u * x + (256 - u) * x ≡ 256 * x
  part_of u x h = let all : u + (256 - u) ≡ 256 = omega arith in sym (add-mul u (256 - u) x) ∙ ap (λ (y : ℕ). y * x) all

  two_blends : (a b c d : ℕ)
      → (0x0100_0000_0100 * (b * 2 ^ 16 + a) + 0x0080_0080_0080_0080 - (v * 2 ^ 32 + w) * (b * 2 ^ 16 + a)) + (v * 2 ^ 32 + w) * (d * 2 ^ 16 + c)
      ≡ laned (blend w a c ∷ blend w b d ∷ blend v a c ∷ blend v b d ∷ [])
  unfolding laned
  two_blends a b c d = omega (arith, times a b, times c d, part_of w a hw, part_of w b hw, part_of v a hv, part_of v b hv)

alone : {vs : List ℕ} → Fit (8 ∷ 8 ∷ 0 ∷ 0 ∷ []) vs → laned vs ≡ get_or vs 1 0 * 2 ^ 16 + get_or vs 0 0
unfolding laned
alone (more h0 (more h1 (more h2 (more h3 none)))) = omega arith

alone_le : {vs : List ℕ} → Fit (8 ∷ 8 ∷ 0 ∷ 0 ∷ []) vs → laned vs ≤ 0x00FF_00FF
unfolding laned
alone_le (more h0 (more h1 (more h2 (more h3 none)))) = omega arith

module _ (w e0 e1 : ℕ) (h0 : e0 < 2 ^ 64) (h1 : e1 < 2 ^ 64) (m : Mixable2 w e0 e1) where
  pub blends_fit : Fit (replicate 4 16) (blends (w % 2 ^ 32) (w / 2 ^ 32) (lanes_of e0) (lanes_of e1))
  blends_fit =
      let lt : (u : ℕ) → u ≤ 256 → (i : ℕ) → get_or (lanes_of e0) i 0 < 2 ^ 8 → get_or (lanes_of e1) i 0 < 2 ^ 8 → blend u (get_or (lanes_of e0) i 0)
      (get_or (lanes_of e1) i 0) < 2 ^ 16 =
      λ u hu i ha hb. blend_lt u hu _ _ ha hb in
      let one0 = m.first in
      let one1 = m.second in
      more (lt _ m.weights.low 0 (fit_get one0 0) (fit_get one1 0))
      (more (lt _ m.weights.low 1 (fit_get one0 1) (fit_get one1 1))
      (more (lt _ m.weights.high 0 (fit_get one0 0) (fit_get one1 0)) (more (lt _ m.weights.high 1 (fit_get one0 1) (fit_get one1 1)) none)))

  abbrev low : ℕ → ℕ
  low e = get_or (lanes_of e) 1 0 * 2 ^ 16 + get_or (lanes_of e) 0 0

  pub mixed_2_word : (0x0100_0000_0100 * e0 + 0x0080_0080_0080_0080 - w * e0) + w * e1
      ≡ laned (blends (w % 2 ^ 32) (w / 2 ^ 32) (lanes_of e0) (lanes_of e1))
  mixed_2_word =
      let two : w ≡ w / 2 ^ 32 * 2 ^ 32 + w % 2 ^ 32 = sym (split_at w 32) in
      ap₂ (λ (x y : ℕ). (0x0100_0000_0100 * x + 0x0080_0080_0080_0080 - w * x) + w * y) (sym (laned_lanes h0) ∙ alone m.first)
      (sym (laned_lanes h1) ∙ alone m.second)
      ∙ ap (λ (u : ℕ). (0x0100_0000_0100 * low e0 + 0x0080_0080_0080_0080 - u * low e0) + u * low e1) two
      ∙ two_blends (w % 2 ^ 32) (w / 2 ^ 32) m.weights.low m.weights.high _ _ _ _

  pub steps_2 : Steps 0x0100_0000_0100 w e0 e1
  steps_2 =
      let most : w ≤ 0x0100_0000_0100 = omega (arith, split_at w 32) in
      let le0 : e0 ≤ 0x00FF_00FF = rw (laned_lanes h0) at (alone_le m.first) in
      let le1 : e1 ≤ 0x00FF_00FF = rw (laned_lanes h1) at (alone_le m.second) in
      let times1 : w * e1 ≤ 0x0100_0000_0100 * e1 = mul-le-mul_right e1 most in
      record { halves = omega arith; less = mul-le-mul_right e0 most; times = omega arith; whole = rw mixed_2_word (laned_lt blends_fit) }

-- bytes in turn
tops : (n : ℕ) {vs : List ℕ} → Fit (replicate n 16) vs → map (λ v. field v 8 8) vs ≡ map (λ v. v / 256) vs
unfolding field
tops zero none = refl
tops (suc n) (more h f) = ap₂ {C = List ℕ} (λ x l. x ∷ l) (shr_mod 8 8 h) (tops n f)

weave : {a b c d e f g h : ℕ} → Fit (replicate 4 8) (a ∷ b ∷ c ∷ d ∷ []) → Fit (replicate 4 8) (e ∷ f ∷ g ∷ h ∷ [])
    → laned (a ∷ b ∷ c ∷ d ∷ []) + (laned (e ∷ f ∷ g ∷ h ∷ []) * 2 ^ 8) % 2 ^ 64 ≡ join (replicate 8 8) (a ∷ e ∷ b ∷ f ∷ c ∷ g ∷ d ∷ h ∷ [])
unfolding laned
weave {a} {b} {c} {d} {e} {f} {g} {h} (more ha (more hb (more hc (more hd none)))) (more he (more hf (more hg (more hh none)))) =
    ap (λ (x : ℕ). laned (a ∷ b ∷ c ∷ d ∷ []) + x) (mod-eq_of_lt (omega arith)) ∙ omega arith

woven_bytes : {xs ys : List ℕ} → Fit (replicate 4 16) xs → Fit (replicate 4 16) ys → Fit (replicate 8 8) (woven xs ys)
woven_bytes (more ha (more hb (more hc (more hd none)))) (more he (more hf (more hg (more hh none)))) =
    let top : (v : ℕ) → v < 2 ^ 16 → v / 256 < 2 ^ 8 = λ v h. shr_lt 8 8 h in
    more (top _ ha) (more (top _ he) (more (top _ hb) (more (top _ hf)
    (more (top _ hc) (more (top _ hg) (more (top _ hd) (more (top _ hh) none)))))))

module _ (rb ga : ℕ) {r g : ℕ} (er : r ≡ laned (map (λ v. field v 8 8) (lanes_of rb))) (eg : g ≡ laned (map (λ v. field v 8 8) (lanes_of ga))) where
  top_bytes : (x : ℕ) → Fit (replicate 4 8) (map (λ v. v / 256) (lanes_of x))
  top_bytes x = fit_map 4 16 8 _ (λ v h. shr_lt 8 8 h) (lanes_16 x)

  woven_word : r + (g * 2 ^ 8) % 2 ^ 64 ≡ join (replicate 8 8) (woven (lanes_of rb) (lanes_of ga))
  unfolding lanes_of
  woven_word =
      ap₂ (λ (x y : ℕ). x + (y * 2 ^ 8) % 2 ^ 64) (er ∙ ap laned (tops 4 (lanes_16 rb))) (eg ∙ ap laned (tops 4 (lanes_16 ga)))
      ∙ weave (top_bytes rb) (top_bytes ga)

  pub two_woven : word_bytes (r + (g * 2 ^ 8) % 2 ^ 64) ≡ woven (lanes_of rb) (lanes_of ga)
  unfolding word_bytes
  two_woven = ap (split (replicate 8 8)) woven_word ∙ split_join (woven_bytes (lanes_16 rb) (lanes_16 ga))

  pub woven_fits : r + (g * 2 ^ 8) % 2 ^ 64 < 2 ^ 64
  woven_fits = rw woven_word (join_lt (woven_bytes (lanes_16 rb) (lanes_16 ga)))

-- the byte at place k of a word
pub byte_at : (x k : ℕ) → k < 8 → field x (total (take k (replicate 8 8))) (get_or (replicate 8 8) k 0) ≡ get_or (word_bytes x) k 0
unfolding word_bytes field
byte_at x k h = sym (split_at_place (replicate 8 8) x k h)

-- the bytes of a word by the library's method
pub le_bytes : (x : ℕ) → to_le_bytes w64 x ≡ word_bytes x
unfolding word_bytes field
le_bytes x =
    let at : (k : ℕ) → k < 8 → field x (total (take k (replicate 8 8))) (get_or (replicate 8 8) k 0) ≡ get_or (word_bytes x) k 0 = byte_at x in
    λ i. x % 256 ∷ at 1 (omega arith) i ∷ at 2 (omega arith) i ∷ at 3 (omega arith) i ∷ at 4 (omega arith) i ∷ at 5 (omega arith) i
    ∷ at 6 (omega arith) i ∷ at 7 (omega arith) i ∷ []
