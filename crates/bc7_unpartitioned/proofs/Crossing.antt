-- Words of two colours: a part of each kept, and colour and alpha put together again.
-- Assumes nothing.
use mathlib.Core.Path.{◌≡◌, refl, sym, ap, ap₂, ◌∙◌}
use mathlib.Core.Bool.{Bool, true, false}
use mathlib.Core.List.{List, [], ◌∷◌, ◌++◌}
use Prim.Native.Nat.{ℕ, zero, suc, ◌+◌, ◌-◌, ◌*◌, ◌/◌, ◌%◌, ◌^◌, ◌≤◌, ◌<◌}
use native.Mathlib.Nat.{mod-eq_of_lt, mod-lt, mod-mod}
use native.Mathlib.Omega.{arith}
use lib.Bits.{and_mask, and_zero_r, bit_and}
use lib.ListN.{drop, get_or, replicate, take}
use lib.Pow.{pow-add, pow_pos, shr_lt}
use Rattle.laws.specs.Digits.{Fit, join, more, none, split}
use Rattle.laws.specs.Tables.{table}
use Rattle.laws.proofs.Digits.{join_lt, join_split, split_join}
use Rattle.laws.proofs.Fitting.{fit_get}
use Rattle.laws.proofs.Joining.{table_same}
use Rattle.laws.proofs.Part.{get_d_table}
use Rattle.laws.proofs.Putting.{split_and}
use Rattle.laws.proofs.Rows.{split_mod}
use Rattle.bcn_format.specs.Drawing.{weight_of}
use Rattle.bcn_format.specs.Indexes.{part}
use Rattle.bcn_format.proofs.Drawing.{drawn_lt, weight_le}
use Rattle.bc7_fields.specs.Painting.{between}
use Rattle.bcn_format.specs.Drawing.{Weighed}
use Rattle.indexes.specs.declared.Indexes.{Indexes}
use Rattle.indexes.specs.Reading.{Index}
use Rattle.bc7_drawing.specs.Asked.{Coloured}
use Rattle.bc7_drawing.specs.declared.colour.Ends.{Ends}
use Rattle.bc7_drawing.specs.Words.{Alone, endpoint, word_bytes}
use Rattle.bc7_drawing.specs.Colours.{shade}
use Rattle.bc7_drawing.proofs.palette.Keyed.{shade_is}
use Rattle.bc7_unpartitioned.specs.Crossing.{crossed, kept_channels, kept_word}

-- a mask of whole bytes
byte_stays : (v : ℕ) → bit_and (v % 2 ^ 8) 255 ≡ v % 2 ^ 8
byte_stays v = and_mask (v % 2 ^ 8) 8 ∙ mod-mod v (2 ^ 8)

pub keep_colour : (x : ℕ) → word_bytes (bit_and x 0x00FF_FFFF_00FF_FFFF)
    ≡ kept_channels true (take 4 (word_bytes x)) ++ kept_channels true (drop 4 (word_bytes x))
unfolding word_bytes kept_channels
keep_colour x =
    split_and (replicate 8 8) x 0x00FF_FFFF_00FF_FFFF
    ∙ simp (byte_stays, and_zero_r)

pub keep_alpha : (x : ℕ) → word_bytes (bit_and x 0xFF00_0000_FF00_0000)
    ≡ kept_channels false (take 4 (word_bytes x)) ++ kept_channels false (drop 4 (word_bytes x))
unfolding word_bytes kept_channels
keep_alpha x =
    split_and (replicate 8 8) x 0xFF00_0000_FF00_0000
    ∙ simp (byte_stays, and_zero_r)

-- the halves of a word
pub low_half : (x : ℕ) → x % 2 ^ 32 ≡ join (replicate 4 8) (take 4 (word_bytes x))
unfolding word_bytes
low_half x = sym (join_split (replicate 4 8) (x % 2 ^ 32) (mod-lt x (pow_pos 32))) ∙ ap (join (replicate 4 8)) (split_mod (replicate 4 8) x)

pub high_half : {x : ℕ} → x < 2 ^ 64 → x / 2 ^ 32 ≡ join (replicate 4 8) (drop 4 (word_bytes x))
unfolding word_bytes
high_half {x} h =
    let down : x / 2 ^ 32 ≡ x / 2 ^ 8 / 2 ^ 8 / 2 ^ 8 / 2 ^ 8 = omega arith in
    sym (join_split (replicate 4 8) (x / 2 ^ 32) (shr_lt 32 32 h)) ∙ ap (λ (y : ℕ). join (replicate 4 8) (split (replicate 4 8) y)) down

-- two weights of b bits, 32 bits apart
pub first : (b k : ℕ) → Weighed b (2 * k + 1) → Weighed b (2 * k)
first b k second = record { least = second.least; most = second.most; within = omega (arith, second.within) }

module _ (b k : ℕ) (second : Weighed b (2 * k + 1)) {u v : ℕ} (eu : u ≡ 4 * weight_of b (2 * k)) (ev : v ≡ 4 * weight_of b (2 * k + 1)) where
  before : Weighed b (2 * k)
  before = first b k second

  pub record Pair : Type 0 where
    pub fits : u + (v * 2 ^ 32) % 2 ^ 64 < 2 ^ 64
    pub low : (u + (v * 2 ^ 32) % 2 ^ 64) % 2 ^ 32 ≡ 4 * weight_of b (2 * k)
    pub high : (u + (v * 2 ^ 32) % 2 ^ 64) / 2 ^ 32 ≡ 4 * weight_of b (2 * k + 1)
    pub low_256 : (u + (v * 2 ^ 32) % 2 ^ 64) % 2 ^ 32 ≤ 256
    pub high_256 : (u + (v * 2 ^ 32) % 2 ^ 64) / 2 ^ 32 ≤ 256

  pub pair : Pair
  pair =
      let lu : weight_of b (2 * k) ≤ 64 = weight_le b (2 * k) before.least before.most before.within in
      let lv : weight_of b (2 * k + 1) ≤ 64 = weight_le b (2 * k + 1) second.least second.most second.within in
      let whole : (v * 2 ^ 32) % 2 ^ 64 ≡ v * 2 ^ 32 = mod-eq_of_lt (omega arith) in
      record { fits = omega arith; low = omega arith; high = omega arith; low_256 = omega arith; high_256 = omega arith }

  pub two_between : (e : Ends) {bytes : List ℕ}
      → bytes ≡ shade e 0 ((u + (v * 2 ^ 32) % 2 ^ 64) % 2 ^ 32) ++ shade e 0 ((u + (v * 2 ^ 32) % 2 ^ 64) / 2 ^ 32)
      → bytes ≡ between b (endpoint e 0 0) (endpoint e 0 1) (2 * k) ++ between b (endpoint e 0 0) (endpoint e 0 1) (2 * k + 1)
  two_between e h =
      h ∙ ap₂ {C = List ℕ} (λ x y. x ++ y) (shade_is b (2 * k) before pair.low e 0)
      (shade_is b (2 * k + 1) second pair.high e 0)

-- words of colours of which a part is kept
take_kept : (colour : Bool) (l m : List ℕ) → take 4 (kept_channels colour l ++ m) ≡ kept_channels colour l
unfolding kept_channels
take_kept true l m = refl
take_kept false l m = refl

drop_kept : (colour : Bool) (l m : List ℕ) → drop 4 (kept_channels colour l ++ m) ≡ m
unfolding kept_channels
drop_kept true l m = refl
drop_kept false l m = refl

module _ (colour : Bool) (b j k : ℕ) (e0 e1 : List ℕ) {bytes all : List ℕ} (two : all ≡ between b e0 e1 j ++ between b e0 e1 k)
    (part : bytes ≡ kept_channels colour (take 4 all) ++ kept_channels colour (drop 4 all)) where
  pub both_kept : bytes ≡ kept_channels colour (between b e0 e1 j) ++ kept_channels colour (between b e0 e1 k)
  unfolding between
  both_kept = part ∙ ap (λ (l : List ℕ). kept_channels colour (take 4 l) ++ kept_channels colour (drop 4 l)) two

  pub low_kept : {w : ℕ} → w ≡ join (replicate 4 8) (take 4 bytes) → w ≡ kept_word colour (between b e0 e1 j)
  unfolding kept_word
  low_kept e =
      e ∙ ap (λ (l : List ℕ). join (replicate 4 8) (take 4 l)) both_kept
      ∙ ap (join (replicate 4 8)) (take_kept colour (between b e0 e1 j) (kept_channels colour (between b e0 e1 k)))

  pub high_kept : {w : ℕ} → w ≡ join (replicate 4 8) (drop 4 bytes) → w ≡ kept_word colour (between b e0 e1 k)
  unfolding kept_word
  high_kept e =
      e ∙ ap (λ (l : List ℕ). join (replicate 4 8) (drop 4 l)) both_kept
      ∙ ap (join (replicate 4 8)) (drop_kept colour (between b e0 e1 j) (kept_channels colour (between b e0 e1 k)))

-- colours between two endpoints are bytes
pub between_fits : (b k : ℕ) (e : Ends) → Alone e → 2 ≤ b → b ≤ 4 → k < 2 ^ b → Fit (replicate 4 8) (between b (endpoint e 0 0) (endpoint e 0 1) k)
unfolding between endpoint
between_fits b k e one least most h =
    let w : weight_of b k ≤ 64 = weight_le b k least most h in
    more (drawn_lt _ _ _ (fit_get one.rb0 0) (fit_get one.rb1 0) w)
    (more (drawn_lt _ _ _ (fit_get one.ga0 0) (fit_get one.ga1 0) w)
    (more (drawn_lt _ _ _ (fit_get one.rb0 1) (fit_get one.rb1 1) w)
    (more (drawn_lt _ _ _ (fit_get one.ga0 1) (fit_get one.ga1 1) w) none)))

-- colour and alpha: one word, and two colours in one
module _ {l a : List ℕ} (fl : Fit (replicate 4 8) l) (fa : Fit (replicate 4 8) a) where
  sum_is : kept_word true l + kept_word false a ≡ join (replicate 4 8) (crossed l a)
  unfolding kept_word kept_channels crossed
  sum_is = omega arith

  crossed_fits : Fit (replicate 4 8) (crossed l a)
  unfolding crossed
  crossed_fits = more (fit_get fl 0) (more (fit_get fl 1) (more (fit_get fl 2) (more (fit_get fa 3) none)))

  pub sum_lt : kept_word true l + kept_word false a < 2 ^ 32
  sum_lt = rw sum_is (join_lt crossed_fits)

  pub sum_bytes : take 4 (word_bytes (kept_word true l + kept_word false a)) ≡ crossed l a
  unfolding word_bytes
  sum_bytes = ap (split (replicate 4 8)) sum_is ∙ split_join crossed_fits

abbrev Colours : List ℕ
Colours = 8 ∷ 8 ∷ 8 ∷ 0 ∷ 8 ∷ 8 ∷ 8 ∷ 0 ∷ []

abbrev Alpha : List ℕ
Alpha = 0 ∷ 0 ∷ 0 ∷ 8 ∷ []

sums : {bs cs : List ℕ} → Fit Colours bs → Fit Alpha cs
    → join (replicate 8 8) bs + join (replicate 4 8) cs * 0x0001_0000_0001 ≡ join (replicate 8 8) (crossed (take 4 bs) cs ++ crossed (drop 4 bs) cs)
unfolding crossed
sums (more h0 (more h1 (more h2 (more h3 (more h4 (more h5 (more h6 (more h7 none)))))))) (more k0 (more k1 (more k2 (more k3 none)))) = omega arith

sums_fit : {bs cs : List ℕ} → Fit Colours bs → Fit Alpha cs → Fit (replicate 8 8) (crossed (take 4 bs) cs ++ crossed (drop 4 bs) cs)
unfolding crossed
sums_fit (more h0 (more h1 (more h2 (more h3 (more h4 (more h5 (more h6 (more h7 none)))))))) (more k0 (more k1 (more k2 (more k3 none)))) =
    more h0 (more h1 (more h2 (more k3 (more h4 (more h5 (more h6 (more k3 none)))))))

module _ {x a : ℕ} (hx : x < 2 ^ 64) (ha : a < 2 ^ 32) (colours : Fit Colours (word_bytes x)) (alpha : Fit Alpha (take 4 (word_bytes a))) where
  whole : x + a * 0x0001_0000_0001
      ≡ join (replicate 8 8) (crossed (take 4 (word_bytes x)) (take 4 (word_bytes a)) ++ crossed (drop 4 (word_bytes x)) (take 4 (word_bytes a)))
  unfolding word_bytes
  whole =
      ap₂ (λ (u v : ℕ). u + v * 0x0001_0000_0001) (sym (join_split (replicate 8 8) x hx)) (sym (mod-eq_of_lt ha) ∙ low_half a)
      ∙ sums colours alpha

  pub alphas_fit : x + a * 0x0001_0000_0001 < 2 ^ 64
  alphas_fit = rw whole (join_lt (sums_fit colours alpha))

  pub alphas_bytes : word_bytes (x + a * 0x0001_0000_0001)
      ≡ crossed (take 4 (word_bytes x)) (take 4 (word_bytes a)) ++ crossed (drop 4 (word_bytes x)) (take 4 (word_bytes a))
  unfolding word_bytes
  alphas_bytes = ap (split (replicate 8 8)) whole ∙ split_join (sums_fit colours alpha)

-- what is kept of bytes
two_kept : {bs cs : List ℕ} → Fit (replicate 4 8) bs → Fit (replicate 4 8) cs → Fit Colours (kept_channels true bs ++ kept_channels true cs)
unfolding kept_channels
two_kept f g =
    more (fit_get f 0) (more (fit_get f 1) (more (fit_get f 2) (more {w = 0} (pow_pos 0)
    (more (fit_get g 0) (more (fit_get g 1) (more (fit_get g 2) (more {w = 0} (pow_pos 0) none)))))))

kept_alpha : {bs : List ℕ} → Fit (replicate 4 8) bs → Fit Alpha (kept_channels false bs)
unfolding kept_channels
kept_alpha f = more {w = 0} (pow_pos 0) (more {w = 0} (pow_pos 0) (more {w = 0} (pow_pos 0) (more (fit_get f 3) none)))

kept_bytes : {bs : List ℕ} → Fit (replicate 4 8) bs → Fit (replicate 4 8) (kept_channels false bs)
unfolding kept_channels
kept_bytes f = more {w = 8} (pow_pos 8) (more {w = 8} (pow_pos 8) (more {w = 8} (pow_pos 8) (more (fit_get f 3) none)))

-- all pairs: colour i % 4 of two words that have two each, with alpha i / 4 of four words
abbrev pub colour_at : ℕ → ℕ → ℕ → List ℕ
colour_at low high k = get_or (take 4 (word_bytes low) ∷ drop 4 (word_bytes low) ∷ take 4 (word_bytes high) ∷ drop 4 (word_bytes high) ∷ []) k []

unfoldable pub pair_at : List ℕ → ℕ → ℕ → ℕ → List ℕ
pair_at alphas low high i = crossed (colour_at low high (i % 4)) (take 4 (word_bytes (get_or alphas (i / 4) 0)))

module _ (alphas : List ℕ) (low high j : ℕ) where
  pair_at_is : (k : ℕ) → k < 4 → pair_at alphas low high (4 * j + k) ≡ crossed (colour_at low high k) (take 4 (word_bytes (get_or alphas j 0)))
  unfolding pair_at
  pair_at_is k h =
      let down : (4 * j + k) / 4 ≡ j = omega arith in
      let rest : (4 * j + k) % 4 ≡ k = omega arith in
      rw (down, rest)

  pub low_pairs : {bytes p q : List ℕ}
      → bytes ≡ crossed (take 4 (word_bytes low)) (take 4 (word_bytes (get_or alphas j 0))) ++ crossed (drop 4 (word_bytes low))
      (take 4 (word_bytes (get_or alphas j 0)))
      → p ≡ take 4 bytes → q ≡ drop 4 bytes → (p ≡ pair_at alphas low high (4 * j)) × (q ≡ pair_at alphas low high (4 * j + 1))
  unfolding crossed
  low_pairs e ep eq = (
    ep ∙ ap (take 4) e ∙ sym (pair_at_is 0 (omega arith)) ∙ ap (pair_at alphas low high) (omega arith),
    eq ∙ ap (drop 4) e ∙ sym
        (pair_at_is 1 (omega arith)),
  )

  pub high_pairs : {bytes p q : List ℕ}
      → bytes ≡ crossed (take 4 (word_bytes high)) (take 4 (word_bytes (get_or alphas j 0))) ++ crossed (drop 4 (word_bytes high))
      (take 4 (word_bytes (get_or alphas j 0)))
      → p ≡ take 4 bytes → q ≡ drop 4 bytes → (p ≡ pair_at alphas low high (4 * j + 2)) × (q ≡ pair_at alphas low high (4 * j + 3))
  unfolding crossed
  high_pairs e ep eq = (ep ∙ ap (take 4) e ∙ sym (pair_at_is 2 (omega arith)), eq ∙ ap (drop 4) e ∙ sym (pair_at_is 3 (omega arith)))

module _ (e : Ends) (one : Alone e) where
  abbrev colour : ℕ → List ℕ
  colour k = between 2 (endpoint e 0 0) (endpoint e 0 1) k

  colour_fits : (k : ℕ) → k < 4 → Fit (replicate 4 8) (colour k)
  colour_fits k h = between_fits 2 k e one (omega arith) (omega arith) h

  alpha_is : {alphas : List ℕ} → alphas ≡ table 4 (λ k. kept_word false (colour k)) → (j : ℕ) → j < 4
      → take 4 (word_bytes (get_or alphas j 0)) ≡ kept_channels false (colour j)
  unfolding word_bytes kept_word
  alpha_is ea j h =
      ap (λ (l : List ℕ). take 4 (word_bytes (get_or l j 0))) ea
      ∙ ap (λ (w : ℕ). take 4 (word_bytes w)) (get_d_table 4 (λ k. kept_word false (colour k)) 0 j h)
      ∙ split_join (kept_bytes (colour_fits j h))

  pub alpha_fits : {alphas : List ℕ} → alphas ≡ table 4 (λ k. kept_word false (colour k)) → (j : ℕ) → j < 4
      → Fit Alpha (take 4 (word_bytes (get_or alphas j 0)))
  alpha_fits ea j h = rw (alpha_is ea j h) (kept_alpha (colour_fits j h))

  pub colours_fit : {bytes : List ℕ} (j k : ℕ) → j < 4 → k < 4 → bytes ≡ kept_channels true (colour j) ++ kept_channels true (colour k)
      → Fit Colours bytes
  colours_fit j k hj hk eb = rw eb (two_kept (colour_fits j hj) (colour_fits k hk))

  module _ {alphas : List ℕ} (low high : ℕ) (ea : alphas ≡ table 4 (λ k. kept_word false (colour k)))
      (el : word_bytes low ≡ kept_channels true (colour 0) ++ kept_channels true (colour 1))
      (eh : word_bytes high ≡ kept_channels true (colour 2) ++ kept_channels true (colour 3)) where
    colour_is : (k : ℕ) → k < 4 → colour_at low high k ≡ kept_channels true (colour k)
    unfolding kept_channels
    colour_is zero h = ap (take 4) el
    colour_is (suc zero) h = ap (drop 4) el
    colour_is (suc (suc zero)) h = ap (take 4) eh
    colour_is (suc (suc (suc zero))) h = ap (drop 4) eh
    colour_is (suc (suc (suc (suc k)))) h = absurd (let z : ⊥ = omega arith in z)

    pub pairs : table 16 (pair_at alphas low high) ≡ table 16 (λ i. crossed (colour (i % 4)) (colour (i / 4)))
    unfolding pair_at crossed kept_channels
    pairs = table_same [] 16 _ _ (λ i h. ap₂ crossed (colour_is (i % 4) (mod-lt i (omega arith))) (alpha_is ea (i / 4) (omega arith)))

-- an index of a known width
module _ {x : Indexes} {b i r : ℕ} (wide : x.bits ≡ b) (index : Index x i r) where
  pub index_below : r < 2 ^ b
  index_below = rw wide at index.small

  pub index_is : r ≡ part x.uncompressed b i
  index_is = index.same ∙ ap (λ (w : ℕ). part x.uncompressed w i) wide

-- the indexes of some bits come in pairs
pub in_pairs : {b n : ℕ} → Coloured b 1 n → n ≡ 2 * (n / 2)
in_pairs {b} {n} h =
    let one : b ≡ 1 + (b - 1) = omega (arith, h.least) in
    let e : 2 ^ b ≡ 2 * 2 ^ (b - 1) = ap (λ (k : ℕ). 2 ^ k) one ∙ pow-add 2 1 (b - 1) in
    omega (arith, e, h.colours)
