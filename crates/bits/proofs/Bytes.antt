-- Sixteen bytes are two words of eight.
-- Assumes nothing.
use mathlib.Core.Path.{◌≡◌, refl, sym, ap, ap₂, ◌∙◌}
use mathlib.Core.List.{List, [], ◌∷◌, ◌++◌}
use Prim.Native.Nat.{ℕ, zero, suc, ◌+◌, ◌*◌, ◌/◌, ◌%◌, ◌^◌, ◌<◌}
use native.Mathlib.Omega.{arith}
use lib.ListN.{get_or, drop, replicate}
use lib.Pow.{high, low, shr-shr}
use Rattle.laws.specs.Digits.{join, split}
use Rattle.bcn_format.specs.Block.{bytes_of, number}
use Rattle.laws.proofs.Putting.{split_append}
use Rattle.laws.proofs.Rows.{split_mod}

abbrev pub word8 : List ℕ → ℕ
word8 bs = join (replicate 8 8) bs

-- one byte more, also past the end of the list
join_none : (ws : List ℕ) → join ws [] ≡ 0
join_none [] = refl
join_none (w ∷ ws) = refl

next_byte : (k i : ℕ) (l : List ℕ) → join (replicate (suc k) 8) (drop i l) ≡ join (replicate k 8) (drop (suc i) l) * 2 ^ 8 + get_or l i 0
next_byte k zero [] = rw (join_none (replicate k 8))
next_byte k (suc i) [] = rw (join_none (replicate k 8))
next_byte k zero (x ∷ xs) = refl
next_byte k (suc i) (x ∷ xs) = next_byte k i xs

-- the eight bytes of a list from place i on
abbrev pub eight_at : List ℕ → ℕ → List ℕ
eight_at l i =
    get_or l i 0 ∷ get_or l (suc i) 0 ∷ get_or l (suc (suc i)) 0 ∷ get_or l (suc (suc (suc i))) 0 ∷ get_or l (suc (suc (suc (suc i)))) 0
    ∷ get_or l (suc (suc (suc (suc (suc i))))) 0 ∷ get_or l (suc (suc (suc (suc (suc (suc i)))))) 0 ∷ get_or l
    (suc (suc (suc (suc (suc (suc (suc i))))))) 0 ∷ []

next_eight : (k i : ℕ) (l : List ℕ) → join (replicate (suc (suc (suc (suc (suc (suc (suc (suc k)))))))) 8) (drop i l)
    ≡ join (replicate k 8) (drop (suc (suc (suc (suc (suc (suc (suc (suc i)))))))) l) * 2 ^ 64 + word8 (eight_at l i)
next_eight k i l =
    omega (
      arith,
      next_byte (suc (suc (suc (suc (suc (suc (suc k))))))) i l,
      next_byte (suc (suc (suc (suc (suc (suc k)))))) (suc i) l,
      next_byte (suc (suc (suc (suc (suc k))))) (suc (suc i)) l,
      next_byte (suc (suc (suc (suc k)))) (suc (suc (suc i))) l,
      next_byte (suc (suc (suc k))) (suc (suc (suc (suc i)))) l,
      next_byte (suc (suc k)) (suc (suc (suc (suc (suc i))))) l,
      next_byte (suc k) (suc (suc (suc (suc (suc (suc i)))))) l,
      next_byte k (suc (suc (suc (suc (suc (suc (suc i))))))) l,
    )

pub number_words : (l : List ℕ) → word8 (eight_at l 8) * 2 ^ 64 + word8 (eight_at l 0) ≡ number l
unfolding number
number_words l = omega (arith, next_eight 8 0 l, next_eight 0 8 l)

-- and a number's bytes those of its two words, which the machine takes apart
abbrev taken_apart : ℕ → List ℕ
taken_apart n =
    n % 256 ∷ n / 256 % 256 ∷ n / 65536 % 256 ∷ n / 16777216 % 256 ∷ n / 4294967296 % 256 ∷ n / 1099511627776 % 256 ∷ n / 281474976710656 % 256
    ∷ n / 72057594037927936 % 256 ∷ []

word_bytes : (n : ℕ) → taken_apart n ≡ split (replicate 8 8) n
word_bytes n = rw (shr-shr n 8 8, shr-shr n 16 8, shr-shr n 24 8, shr-shr n 32 8, shr-shr n 40 8, shr-shr n 48 8) refl

pub bytes_apart : (h l : ℕ) → l < 2 ^ 64 → taken_apart l ++ taken_apart h ≡ bytes_of (h * 2 ^ 64 + l)
unfolding bytes_of
bytes_apart h l small =
    let us : List ℕ = replicate 8 8 in
    ap₂ {C = List ℕ} (λ x y. x ++ y)
    (word_bytes l ∙ ap (split us) (sym (low h 64 small)) ∙ split_mod us (h * 2 ^ 64 + l))
    (word_bytes h ∙ ap (split us) (sym (high h 64 small)))
    ∙ sym (split_append us us (h * 2 ^ 64 + l))
