-- What the maps say, in the format's words: one computed test for each table of strings.
-- Assumes nothing.
use mathlib.Core.Path.{◌≡◌, refl, sym, ap, ◌∙◌, subst}
use mathlib.Core.Bool.{Bool, true, false}
use mathlib.Core.List.{List, [], ◌∷◌}
use Prim.Native.Nat.{ℕ, zero, suc, ◌+◌, ◌*◌, ◌/◌, ◌%◌, ◌^◌, ◌<◌}
use Prim.Native.String.{String}
use native.Mathlib.Nat.{add_comm, div-one, le_of_suc-le-suc, lt_trans, mul-suc, mul-zero, not-suc-le-zero}
use native.Mathlib.Omega.{arith}
use lib.Dec.{T, eqb, eqb→eq, ltb, ltb→lt}
use lib.ListN.{get_or, length, replicate}
use lib.Pow.{shr-shr}
use Rattle.laws.specs.Digits.{Fit, more, none, split}
use Rattle.laws.specs.Tables.{below, both, pick}
use Rattle.laws.proofs.Digits.{split_join}
use Rattle.laws.proofs.Tests.{at, both_left, both_right}
use Rattle.bcn_format.specs.Indexes.{OneFixup, TwoFixups}
use Rattle.bcn_format.specs.Block.{field}
use Rattle.bcn_format.specs.Partitions.{anchor2, anchor3, anchors2, anchors3, digits, how_many, marks, strings2, strings3, subset2, subset3}
use Rattle.partitions.specs.Maps.{map2, map3, subsets}

-- a test that values fit their widths
fits : List ℕ → List ℕ → Bool
fits [] [] = true
fits [] (v ∷ vs) = false
fits (w ∷ ws) [] = false
fits (w ∷ ws) (v ∷ vs) = both (ltb v (2 ^ w)) (fits ws vs)

fits_fit : (ws vs : List ℕ) → T (fits ws vs) → Fit ws vs
unfolding fits
fits_fit [] [] t = none
fits_fit [] (v ∷ vs) t = absurd t
fits_fit (w ∷ ws) [] t = absurd t
fits_fit (w ∷ ws) (v ∷ vs) t = more (ltb→lt v (2 ^ w) (both_left (ltb v (2 ^ w)) _ t)) (fits_fit ws vs (both_right (ltb v (2 ^ w)) _ t))

-- each number above the one before, the last below 16
rising : ℕ → List ℕ → Bool
rising p [] = ltb p 16
rising p (a ∷ l) = both (ltb p a) (rising a l)

-- a string of sixteen digits below 2 ^ b, of which n are marked, none of them the first; and none is 3
sound : ℕ → ℕ → String → Bool
sound b n s =
    both (fits (replicate 16 b) (digits s)) (both (eqb (how_many 3 (digits s)) 0) (both (eqb (length (marks 0 s)) n) (rising 0 (marks 0 s))))

sound2 : T (below 64 (λ a. sound 1 1 (get_or strings2 a "")))
unfolding sound fits rising digits marks strings2
sound2 = tt

sound3 : T (below 64 (λ a. sound 2 2 (get_or strings3 a "")))
unfolding sound fits rising digits marks strings3
sound3 = tt

module _ (b n : ℕ) (s : String) (t : T (sound b n s)) where
  fit : Fit (replicate 16 b) (digits s)
  unfolding sound
  fit = fits_fit (replicate 16 b) (digits s) (both_left (fits (replicate 16 b) (digits s)) _ t)

  rest : T (both (eqb (how_many 3 (digits s)) 0) (both (eqb (length (marks 0 s)) n) (rising 0 (marks 0 s))))
  unfolding sound
  rest = both_right (fits (replicate 16 b) (digits s)) _ t

  no_3 : how_many 3 (digits s) ≡ 0
  no_3 = eqb→eq _ 0 (both_left (eqb (how_many 3 (digits s)) 0) _ rest)

  many : length (marks 0 s) ≡ n
  many = eqb→eq _ n (both_left (eqb (length (marks 0 s)) n) _ (both_right (eqb (how_many 3 (digits s)) 0) _ rest))

  rise : T (rising 0 (marks 0 s))
  rise = both_right (eqb (length (marks 0 s)) n) _ (both_right (eqb (how_many 3 (digits s)) 0) _ rest)

module _ (a : ℕ) (h : a < 64) where
  is2 : T (sound 1 1 (get_or strings2 a ""))
  is2 = at 64 (λ a. sound 1 1 (get_or strings2 a "")) sound2 a h

  is3 : T (sound 2 2 (get_or strings3 a ""))
  is3 = at 64 (λ a. sound 2 2 (get_or strings3 a "")) sound3 a h

  pub fit2 : Fit (replicate 16 1) (digits (get_or strings2 a ""))
  fit2 = fit 1 1 (get_or strings2 a "") is2

  pub fit3 : Fit (replicate 16 2) (digits (get_or strings3 a ""))
  fit3 = fit 2 2 (get_or strings3 a "") is3

  -- a map's word holds the digits of its string, which are the subsets of the pixels
  pub digits2 : subsets 1 (map2 a).subset_indexes ≡ digits (get_or strings2 a "")
  unfolding subsets map2
  digits2 = split_join fit2

  pub digits3 : subsets 2 (map3 a).subset_indexes ≡ digits (get_or strings3 a "")
  unfolding subsets map3
  digits3 = split_join fit3

  -- no pixel has the number 3, as the counts of three subsets ask
  pub none_3 : how_many 3 (subsets 2 (map3 a).subset_indexes) ≡ 0
  none_3 = ap (how_many 3) digits3 ∙ no_3 2 2 (get_or strings3 a "") is3

-- the share of a pixel in a word
pub share_of : (b n w q : ℕ) → q < n → w / 2 ^ (b * q) % 2 ^ b ≡ get_or (split (replicate n b) w) q 0
share_of b zero w q h = absurd (not-suc-le-zero h)
share_of b (suc n) w zero h = ap (λ (x : ℕ). w / 2 ^ x % 2 ^ b) (mul-zero b) ∙ ap (λ (x : ℕ). x % 2 ^ b) (div-one w)
share_of b (suc n) w (suc q) h =
    ap (λ (x : ℕ). x % 2 ^ b) (ap (λ (x : ℕ). w / 2 ^ x) (let z : b * suc q ≡ b + b * q = mul-suc b q ∙ add_comm (b * q) b in z) ∙ sym
    (shr-shr w b (b * q)))
    ∙ share_of b n (w / 2 ^ b) q (le_of_suc-le-suc h)

share : (b w q : ℕ) → q < 16 → field w (b * q) b ≡ get_or (subsets b w) q 0
unfolding subsets field
share b w q h = share_of b 16 w q h

-- the subset of a pixel
pub subset_in2 : (a q : ℕ) → a < 64 → q < 16 → field (map2 a).subset_indexes q 1 ≡ subset2 a q
unfolding subset2
subset_in2 a q ha hq =
    ap (λ (x : ℕ). field (map2 a).subset_indexes x 1) (let z : q ≡ 1 * q = omega arith in z) ∙ share 1 (map2 a).subset_indexes q hq
    ∙ ap (λ (l : List ℕ). get_or l q 0) (digits2 a ha)

pub subset_in3 : (a q : ℕ) → a < 64 → q < 16 → field (map3 a).subset_indexes (2 * q) 2 ≡ subset3 a q
unfolding subset3
subset_in3 a q ha hq = share 2 (map3 a).subset_indexes q hq ∙ ap (λ (l : List ℕ). get_or l q 0) (digits3 a ha)

-- the anchors are pixel 0 and the map's, in the order of the pixels
one : (l : List ℕ) → length l ≡ 1 → l ≡ get_or l 0 0 ∷ []
one [] e = absurd (let z : ⊥ = omega arith in z)
one (x ∷ []) e = refl
one (x ∷ (y ∷ l)) e = absurd (let z : ⊥ = omega arith in z)

two : (l : List ℕ) → length l ≡ 2 → l ≡ get_or l 0 0 ∷ get_or l 1 0 ∷ []
two [] e = absurd (let z : ⊥ = omega arith in z)
two (x ∷ []) e = absurd (let z : ⊥ = omega arith in z)
two (x ∷ (y ∷ [])) e = refl
two (x ∷ (y ∷ (z ∷ l))) e = absurd (let z : ⊥ = omega arith in z)

pub marks2 : (a : ℕ) → a < 64 → marks 0 (get_or strings2 a "") ≡ (map2 a).fixup_index_2 ∷ []
unfolding map2
marks2 a h = one (marks 0 (get_or strings2 a "")) (many 1 1 (get_or strings2 a "") (is2 a h))

pub marks3 : (a : ℕ) → a < 64 → marks 0 (get_or strings3 a "") ≡ (map3 a).fixup_index_2 ∷ (map3 a).fixup_index_3 ∷ []
unfolding map3
marks3 a h = two (marks 0 (get_or strings3 a "")) (many 2 2 (get_or strings3 a "") (is3 a h))

pub record AnchorsIn2 (a : ℕ) : Type 0 where
  pub are : anchors2 a ≡ 0 ∷ (map2 a).fixup_index_2 ∷ []
  pub fixup : OneFixup (map2 a).fixup_index_2

pub record AnchorsIn3 (a : ℕ) : Type 0 where
  pub are : anchors3 a ≡ 0 ∷ (map3 a).fixup_index_2 ∷ (map3 a).fixup_index_3 ∷ []
  pub fixups : TwoFixups (map3 a).fixup_index_2 (map3 a).fixup_index_3

pub anchors_in2 : (a : ℕ) → a < 64 → AnchorsIn2 a
unfolding anchors2 map2 rising
anchors_in2 a h =
    let s : String = get_or strings2 a "" in
    let f : ℕ = get_or (marks 0 s) 0 0 in
    let e : marks 0 s ≡ f ∷ [] = marks2 a h in
    let t : T (both (ltb 0 f) (ltb f 16)) = subst (λ (l : List ℕ). T (rising 0 l)) e (rise 1 1 s (is2 a h)) in
    record {
      are = ap {B = List ℕ} (λ l. 0 ∷ l) e;
      fixup = record { above = ltb→lt 0 f (both_left (ltb 0 f) (ltb f 16) t); pixel = ltb→lt f 16 (both_right (ltb 0 f) (ltb f 16) t) };
    }

pub anchors_in3 : (a : ℕ) → a < 64 → AnchorsIn3 a
unfolding anchors3 map3 rising
anchors_in3 a h =
    let s : String = get_or strings3 a "" in
    let f : ℕ = get_or (marks 0 s) 0 0 in
    let g : ℕ = get_or (marks 0 s) 1 0 in
    let e : marks 0 s ≡ f ∷ g ∷ [] = marks3 a h in
    let t : T (both (ltb 0 f) (both (ltb f g) (ltb g 16))) = subst (λ (l : List ℕ). T (rising 0 l)) e (rise 2 2 s (is3 a h)) in
    let u : T (both (ltb f g) (ltb g 16)) = both_right (ltb 0 f) (both (ltb f g) (ltb g 16)) t in
    record {
      are = ap {B = List ℕ} (λ l. 0 ∷ l) e;
      fixups = record {
        above = ltb→lt 0 f (both_left (ltb 0 f) (both (ltb f g) (ltb g 16)) t);
        rising = ltb→lt f g (both_left (ltb f g) (ltb g 16) u);
        pixel = ltb→lt g 16 (both_right (ltb f g) (ltb g 16) u);
      };
    }

pub second_below : (a : ℕ) → a < 64 → (map3 a).fixup_index_2 < 16
second_below a h = let f = (anchors_in3 a h).fixups in lt_trans f.rising f.pixel

-- which of them is the anchor of a subset
anchors_hold2 : T (below 64 (λ a. below 2 (λ l. eqb (anchor2 a l) (pick (eqb l 0) 0 (map2 a).fixup_index_2))))
unfolding anchors2 subset2 map2 digits marks strings2
anchors_hold2 = tt

pub anchor_in2_is : (a l : ℕ) → a < 64 → l < 2 → anchor2 a l ≡ pick (eqb l 0) 0 (map2 a).fixup_index_2
anchor_in2_is a l ha hl =
    eqb→eq _ _ (at 2 (λ l. eqb (anchor2 a l) (pick (eqb l 0) 0 (map2 a).fixup_index_2))
    (at 64 (λ a. below 2 (λ l. eqb (anchor2 a l) (pick (eqb l 0) 0 (map2 a).fixup_index_2))) anchors_hold2 a ha) l hl)

-- of three: the second where it lies in the subset, else the third
abbrev chosen : ℕ → ℕ → ℕ
chosen a l = pick (eqb l 0) 0 (pick (eqb (subset3 a (map3 a).fixup_index_2) l) (map3 a).fixup_index_2 (map3 a).fixup_index_3)

anchors_hold3 : T (below 64 (λ a. below 3 (λ l. eqb (anchor3 a l) (chosen a l))))
unfolding anchors3 subset3 map3 digits marks strings3
anchors_hold3 = tt

pub anchor_in3 : (a l : ℕ) → a < 64 → l < 3
    → anchor3 a l ≡ pick (eqb l 0) 0 (pick (eqb (subset3 a (map3 a).fixup_index_2) l) (map3 a).fixup_index_2 (map3 a).fixup_index_3)
anchor_in3 a l ha hl =
    eqb→eq _ _ (at 3 (λ l. eqb (anchor3 a l) (chosen a l)) (at 64 (λ a. below 3 (λ l. eqb (anchor3 a l) (chosen a l))) anchors_hold3 a ha) l hl)
