-- How many bits of a word are set, and how many pixels of a subset that says: one law over the width of a pixel's share and
-- over the mask.
-- Assumes nothing.
use mathlib.Core.Path.{◌≡◌, refl, sym, ap, ◌∙◌}
use mathlib.Core.List.{List, [], ◌∷◌}
use Prim.Native.Nat.{ℕ, zero, suc, ◌+◌, ◌-◌, ◌*◌, ◌/◌, ◌%◌, ◌^◌, ◌<◌}
use native.Mathlib.Nat.{mod-lt, mod-eq_of_lt}
use native.Mathlib.Omega.{arith}
use lib.Bits.{bit_and, and_block, and_lt, and_mask, and_zero_r}
use lib.Count.{ones, ones_cat}
use lib.Dec.{lit<}
use lib.ListN.{replicate}
use lib.Pow.{pow_pos}
use lib.Pow as pow
use Rattle.laws.specs.Digits.{join, split}
use Rattle.bcn_format.specs.Partitions.{how_many}
use Rattle.partitions.specs.Maps.{subsets}

-- the set bits of all the numbers, each under the mask k
unfoldable pub bits_under : ℕ → List ℕ → ℕ
bits_under k [] = 0
bits_under k (d ∷ ds) = bits_under k ds + ones (bit_and d k)

-- of a word of n shares of b bits, under a mask that has k in each share
ones_under : (b k : ℕ) → k < 2 ^ b → (n w : ℕ) → ones (bit_and w (join (replicate n b) (replicate n k))) ≡ bits_under k (split (replicate n b) w)
unfolding bits_under ones
ones_under b k hk zero w = ap ones (and_zero_r w)
ones_under b k hk (suc n) w =
    let rest : ℕ = join (replicate n b) (replicate n k) in
    let low : w % 2 ^ b < 2 ^ b = mod-lt w (pow_pos b) in
    ap (λ (x : ℕ). ones (bit_and x (rest * 2 ^ b + k))) (sym (pow.split w b))
    ∙ ap ones (and_block b (w / 2 ^ b) rest (w % 2 ^ b) k low hk)
    ∙ ones_cat b (bit_and (w / 2 ^ b) rest) (bit_and (w % 2 ^ b) k) (and_lt b (w % 2 ^ b) k low hk)
    ∙ ap (λ (x : ℕ). x + ones (bit_and (w % 2 ^ b) k)) (ones_under b k hk n (w / 2 ^ b))

-- numbers below 2, and below 4, by how often each stands among them
record Counts2 (n : ℕ) (ds : List ℕ) : Type 0 where
  pub all : how_many 0 ds + how_many 1 ds ≡ n
  pub set : bits_under 1 ds ≡ how_many 1 ds

record Counts4 (n : ℕ) (ds : List ℕ) : Type 0 where
  pub all : how_many 0 ds + how_many 1 ds + how_many 2 ds + how_many 3 ds ≡ n
  pub low : bits_under 1 ds ≡ how_many 1 ds + how_many 3 ds
  pub high : bits_under 2 ds ≡ how_many 2 ds + how_many 3 ds
  pub both : bits_under 3 ds ≡ how_many 1 ds + how_many 2 ds + 2 * how_many 3 ds

counts2 : (n w : ℕ) → Counts2 n (split (replicate n 1) w)
unfolding bits_under ones
counts2 zero w = record { all = refl; set = refl }
counts2 (suc n) w = go (w % 2) (split (replicate n 1) (w / 2)) (mod-lt w (pow_pos 1)) (counts2 n (w / 2))
  where
    go : (d : ℕ) (ds : List ℕ) → d < 2 → Counts2 n ds → Counts2 (suc n) (d ∷ ds)
    go zero ds h r = record { all = omega arith; set = omega arith }
    go (suc zero) ds h r = record { all = omega arith; set = omega arith }
    go (suc (suc d)) ds h r = absurd (let z : ⊥ = omega arith in z)

counts4 : (n w : ℕ) → Counts4 n (split (replicate n 2) w)
unfolding bits_under ones
counts4 zero w = record { all = refl; low = refl; high = refl; both = refl }
counts4 (suc n) w = go (w % 4) (split (replicate n 2) (w / 4)) (mod-lt w (pow_pos 2)) (counts4 n (w / 4))
  where
    go : (d : ℕ) (ds : List ℕ) → d < 4 → Counts4 n ds → Counts4 (suc n) (d ∷ ds)
    go zero ds h r = record { all = omega arith; low = omega arith; high = omega arith; both = omega arith }
    go (suc zero) ds h r = record { all = omega arith; low = omega arith; high = omega arith; both = omega arith }
    go (suc (suc zero)) ds h r = record { all = omega arith; low = omega arith; high = omega arith; both = omega arith }
    go (suc (suc (suc zero))) ds h r = record { all = omega arith; low = omega arith; high = omega arith; both = omega arith }
    go (suc (suc (suc (suc d)))) ds h r = absurd (let z : ⊥ = omega arith in z)

-- the set bits of a whole word are those under a mask of ones
whole : (k w : ℕ) → w < 2 ^ k → ones w ≡ ones (bit_and w (2 ^ k - 1))
whole k w h = ap ones (sym (and_mask w k ∙ mod-eq_of_lt h))

-- of sixteen pixels
sixteen2 : (w : ℕ) → Counts2 16 (subsets 1 w)
unfolding subsets
sixteen2 = counts2 16

sixteen4 : (w : ℕ) → Counts4 16 (subsets 2 w)
unfolding subsets
sixteen4 = counts4 16

under : (b k : ℕ) → k < 2 ^ b → (w : ℕ) → ones (bit_and w (join (replicate 16 b) (replicate 16 k))) ≡ bits_under k (subsets b w)
unfolding subsets
under b k h = ones_under b k h 16

-- a word of sixteen bits, a bit a pixel
pub record Word2 (w : ℕ) : Type 0 where
  pub all : how_many 0 (subsets 1 w) + how_many 1 (subsets 1 w) ≡ 16
  pub set : ones w ≡ how_many 1 (subsets 1 w)

pub word2 : (w : ℕ) → w < 2 ^ 16 → Word2 w
word2 w h = record { all = (sixteen2 w).all; set = whole 16 w h ∙ under 1 1 (lit< tt) w ∙ (sixteen2 w).set }

-- a word of 32 bits, two a pixel, of which none has 3
pub record Word3 (w : ℕ) : Type 0 where
  pub all : how_many 0 (subsets 2 w) + how_many 1 (subsets 2 w) + how_many 2 (subsets 2 w) ≡ 16
  pub set : ones w ≡ how_many 1 (subsets 2 w) + how_many 2 (subsets 2 w)
  pub low : ones (bit_and w 0x5555_5555) ≡ how_many 1 (subsets 2 w)
  pub high : ones (bit_and w 0xAAAA_AAAA) ≡ how_many 2 (subsets 2 w)

pub word3 : (w : ℕ) → w < 2 ^ 32 → how_many 3 (subsets 2 w) ≡ 0 → Word3 w
word3 w h e =
    let c : Counts4 16 (subsets 2 w) = sixteen4 w in
    let low : bits_under 1 (subsets 2 w) ≡ how_many 1 (subsets 2 w) = omega arith in
    let high : bits_under 2 (subsets 2 w) ≡ how_many 2 (subsets 2 w) = omega arith in
    let set : bits_under 3 (subsets 2 w) ≡ how_many 1 (subsets 2 w) + how_many 2 (subsets 2 w) = omega arith in
    record {
      all = omega arith;
      set = whole 32 w h ∙ under 2 3 (lit< tt) w ∙ set;
      low = under 2 1 (lit< tt) w ∙ low;
      high = under 2 2 (lit< tt) w ∙ high;
    }
