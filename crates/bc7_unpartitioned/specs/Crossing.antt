-- Colours of which a part is kept, and colour and alpha of two put together.
-- Assumes nothing.
use Rattle.std.specs.Prelude.{Bool, List, [], ◌∷◌, ◌++◌, ◌≡◌, ℕ, ◌+◌, ◌*◌, ◌^◌, ◌<◌, drop, get_or, replicate, take}
use Rattle.laws.specs.Digits.{Fit, join}
use Rattle.laws.specs.Tables.{pick}
use Rattle.bc7_fields.specs.Painting.{between}
use Rattle.bc7_drawing.specs.declared.colour.Ends.{Ends}
use Rattle.bc7_drawing.specs.Words.{Alone, endpoint, word_bytes}
use Rattle.bcn_format.specs.Drawing.{Weighed}
use Rattle.indexes.specs.declared.Indexes.{Indexes}

-- red, green and blue of a colour, or its alpha, and 0 in place of the others
unfoldable pub kept_channels : Bool → List ℕ → List ℕ
kept_channels colour l = pick colour (get_or l 0 0 ∷ get_or l 1 0 ∷ get_or l 2 0 ∷ 0 ∷ []) (0 ∷ 0 ∷ 0 ∷ get_or l 3 0 ∷ [])

unfoldable pub kept_word : Bool → List ℕ → ℕ
kept_word colour l = join (replicate 4 8) (kept_channels colour l)

-- red, green and blue of one colour with the alpha of another
unfoldable pub crossed : List ℕ → List ℕ → List ℕ
crossed l a = get_or l 0 0 ∷ get_or l 1 0 ∷ get_or l 2 0 ∷ get_or a 3 0 ∷ []

-- of two colours in a word, each with the alpha of another word
abbrev pub crossed_both : ℕ → ℕ → List ℕ
crossed_both colours alpha =
    let a = take 4 (word_bytes alpha) in
    crossed (take 4 (word_bytes colours)) a ++ crossed (drop 4 (word_bytes colours)) a

-- the colour of endpoints that stand alone, at the index k of b bits
abbrev pub colour_between : ℕ → Ends → ℕ → List ℕ
colour_between b e k = between b (endpoint e 0 0) (endpoint e 0 1) k

-- any word of one kind with any of the other is within 32 bits
abbrev pub Apart : List ℕ → List ℕ → Type 0
Apart p q = (i j : ℕ) → i < 4 → j < 8 → get_or p i 0 + get_or q j 0 < 2 ^ 32

-- what the functions ask, each clause by its name: the indexes 2 * k and 2 * k + 1 of endpoints that stand alone
pub record TwoIndexes (e : Ends) (bits k : ℕ) : Type 0 where
  pub indexes : Weighed bits (2 * k + 1)
  pub ends : Alone e

-- words of both kinds, and indexes into them of two and of three bits
pub record Paintable (p q : List ℕ) (x y : Indexes) : Type 0 where
  pub apart : Apart p q
  pub two : x.bits ≡ 2
  pub three : y.bits ≡ 3

-- two colours without alpha, and an alpha alone
pub record Crossable (c a : ℕ) : Type 0 where
  pub colours : Fit (8 ∷ 8 ∷ 8 ∷ 0 ∷ 8 ∷ 8 ∷ 8 ∷ 0 ∷ []) (word_bytes c)
  pub alpha : Fit (0 ∷ 0 ∷ 0 ∷ 8 ∷ []) (take 4 (word_bytes a))
