-- A PARTITION STRING, LETTER BY LETTER: which letter is a pixel's digit, and which pixels are anchors. A dash (45) is no pixel; it says that
-- the pixel behind it is an anchor.
-- Assumes nothing.
use Rattle.std.specs.Prelude.{Bool, true, not, List, [], ◌∷◌, ℕ, suc, ◌-◌, ◌≤◌, ◌<◌, eqb, get_or, length, take}
use Prim.Native.Char.{code}
use Prim.Native.String.{String, [] as empty, ◌∷◌ as ◌then◌}
use Rattle.bc7_format.specs.declared.Split.{Split}
use Rattle.bc7_format.specs.declared.Split.TheVariants.{Whole, Two, Three, Vector}
use Rattle.laws.specs.Tables.{both, pick}
use Rattle.bcn_format.specs.Partitions.{how_many, strings2, strings3}

unfoldable pub letters : String → List ℕ
letters empty = []
letters (c then s) = code c ∷ letters s

-- one subset needs no string: sixteen pixels of subset 0, and no dash
abbrev pub undivided : String
undivided = "0000000000000000"

-- the string of so many subsets and a partition, and that of a split
unfoldable pub string_for : ℕ → ℕ → String
string_for subsets a = pick (eqb subsets 1) undivided (pick (eqb subsets 2) (get_or strings2 a "") (get_or strings3 a ""))

abbrev pub string_of : Split → String
string_of Whole = undivided
string_of (Two a) = get_or strings2 a ""
string_of (Three a) = get_or strings3 a ""
string_of (Vector r i) = undivided

-- where the digit of pixel q stands: at the first digit, if no pixel is left to pass, else behind it; a dash is passed, and is no pixel
unfoldable pub place_in : List ℕ → ℕ → ℕ
place_in [] q = 0
place_in (c ∷ cs) q = pick (both (eqb q 0) (not (eqb c 45))) 0 (suc (place_in cs (pick (eqb c 45) q (q - 1))))

-- its subset is that digit (48 is the digit 0)
unfoldable pub subset_spelt : List ℕ → ℕ → ℕ
subset_spelt cs q = get_or cs (place_in cs q) 0 - 48

-- pixel 0 is an anchor, and so is each pixel whose digit has a dash before it
unfoldable pub is_anchor_in : List ℕ → ℕ → Bool
is_anchor_in cs q = pick (eqb q 0) true (eqb (get_or cs (place_in cs q - 1) 0) 45)

-- how many anchors come before pixel q: pixel 0, and one for each dash up to the digit of the pixel before
unfoldable pub anchors_before : List ℕ → ℕ → ℕ
anchors_before cs q = pick (eqb q 0) 0 (suc (how_many 45 (take (place_in cs (q - 1)) cs)))

-- letters among which sixteen pixels are found
pub record Sixteen (cs : List ℕ) : Type 0 where
  pub found : (q : ℕ) → q < 16 → place_in cs q < length cs
  pub past : (q : ℕ) → q < 16 → q ≤ place_in cs q
  pub digit : (q : ℕ) → q < 16 → 48 ≤ get_or cs (place_in cs q) 0
  pub fewer : (q : ℕ) → q ≤ 16 → anchors_before cs q ≤ q
