-- Colours in words: four lanes of sixteen bits.
-- Assumes nothing.
use Rattle.std.specs.Prelude.{◌≡◌, ℕ, ◌+◌, ◌-◌, ◌*◌, ◌/◌, ◌^◌, ◌<◌, eqb, get_or, replicate}
use mathlib.Core.List.{List, [], ◌∷◌, zip_with}
use Rattle.laws.specs.Digits.{Fit, join, split}
use Rattle.laws.specs.Tables.{pick}
use Rattle.bc7_fields.specs.Painting.{end_of, end_of_p}
use Rattle.bc7_drawing.specs.declared.colour.Ends.{Ends}
use Rattle.bc7_drawing.specs.declared.colour.Stored.{Stored}

-- the word of four lanes, the first lowest, and the lanes of a word
unfoldable pub laned : List ℕ → ℕ
laned vs = join (replicate 4 16) vs

unfoldable pub lanes_of : ℕ → List ℕ
lanes_of x = split (replicate 4 16) x

-- each lane is within w bits
abbrev pub Lanes : ℕ → ℕ → Type 0
Lanes w x = Fit (replicate 4 w) (lanes_of x)

-- the words of two colours: f l k c is channel c of endpoint k of colour l
unfoldable pub ends_of : (ℕ → ℕ → ℕ → ℕ) → Ends
ends_of f = record {
  rb0 = laned (f 0 0 0 ∷ f 0 0 2 ∷ f 1 0 0 ∷ f 1 0 2 ∷ []);
  ga0 = laned (f 0 0 1 ∷ f 0 0 3 ∷ f 1 0 1 ∷ f 1 0 3 ∷ []);
  rb1 = laned (f 0 1 0 ∷ f 0 1 2 ∷ f 1 1 0 ∷ f 1 1 2 ∷ []);
  ga1 = laned (f 0 1 1 ∷ f 0 1 3 ∷ f 1 1 1 ∷ f 1 1 3 ∷ []);
}

-- and endpoint k of colour l from them
unfoldable pub endpoint : Ends → ℕ → ℕ → List ℕ
endpoint e l k =
    let rb = lanes_of (pick (eqb k 0) e.rb0 e.rb1) in
    let ga = lanes_of (pick (eqb k 0) e.ga0 e.ga1) in
    get_or rb (2 * l) 0 ∷ get_or ga (2 * l) 0 ∷ get_or rb (2 * l + 1) 0 ∷ get_or ga (2 * l + 1) 0 ∷ []

-- all their channels are bytes
pub record EndsOfBytes (e : Ends) : Type 0 where
  pub rb0 : Lanes 8 e.rb0
  pub ga0 : Lanes 8 e.ga0
  pub rb1 : Lanes 8 e.rb1
  pub ga1 : Lanes 8 e.ga1

-- the lanes of one colour, in a word where the other's are empty
abbrev pub LanesOfOne : ℕ → Type 0
LanesOfOne x = Fit (8 ∷ 8 ∷ 0 ∷ 0 ∷ []) (lanes_of x)

-- the first of the two colours stands alone: no lane of the other is used
pub record Alone (e : Ends) : Type 0 where
  pub rb0 : LanesOfOne e.rb0
  pub ga0 : LanesOfOne e.ga0
  pub rb1 : LanesOfOne e.rb1
  pub ga1 : LanesOfOne e.ga1

-- a channel of what is stored of a colour, and that all of it fits lanes
abbrev pub stored_channel : Stored → ℕ → ℕ
stored_channel x c = get_or (x.r ∷ x.g ∷ x.b ∷ x.a ∷ []) c 0

pub record Fitting (x : Stored) : Type 0 where
  pub red : x.r < 2 ^ 16
  pub green : x.g < 2 ^ 16
  pub blue : x.b < 2 ^ 16
  pub alpha : x.a < 2 ^ 16
  pub ps : x.p < 2 ^ 16

-- channel c of endpoint k of what is stored: without p bits and with them
abbrev pub plain : ℕ → Stored → ℕ → ℕ → ℕ
plain n x k c = end_of n k (stored_channel x c)

abbrev pub with_p : ℕ → Stored → ℕ → ℕ → ℕ
with_p n x k c = end_of_p n k (stored_channel x c) x.p

-- where alpha has a width of its own, w
abbrev pub with_alpha : ℕ → ℕ → Stored → ℕ → ℕ → ℕ
with_alpha n w x k c = end_of (pick (eqb c 3) w n) k (stored_channel x c)

-- the ends of two colours: what they are, and that they are bytes
pub record Holds (f : ℕ → ℕ → ℕ → ℕ) (e : Ends) : Type 0 where
  pub same : e ≡ ends_of f
  pub each : (l k c : ℕ) → f l k c < 2 ^ 8
  pub small : EndsOfBytes e

-- those of one colour
abbrev pub first_alone : (ℕ → ℕ → ℕ) → ℕ → ℕ → ℕ → ℕ
first_alone f l k c = pick (eqb l 0) (f k c) 0

pub record HoldsOne (f : ℕ → ℕ → ℕ) (e : Ends) : Type 0 where
  pub same : e ≡ ends_of (first_alone f)
  pub each : (k c : ℕ) → f k c < 2 ^ 8
  pub one : Alone e

-- the same by the lanes of the words that they are made of
unfoldable pub ends_p : ℕ → List ℕ → List ℕ → List ℕ → List ℕ → Ends
ends_p n rb ga p q =
    record {
      rb0 = laned (zip_with (end_of_p n 0) rb p);
      ga0 = laned (zip_with (end_of_p n 0) ga q);
      rb1 = laned (zip_with (end_of_p n 1) rb p);
      ga1 = laned
          (zip_with (end_of_p n 1) ga q);
    }

-- a channel of both endpoints at the weight w of 256, not yet divided: its upper byte is the channel
abbrev pub blend : ℕ → ℕ → ℕ → ℕ
blend w x y = (256 - w) * x + w * y + 128

-- the lanes of two channels, at two weights
abbrev pub blends : ℕ → ℕ → List ℕ → List ℕ → List ℕ
blends w v xs ys =
    blend w (get_or xs 0 0) (get_or ys 0 0) ∷ blend w (get_or xs 1 0) (get_or ys 1 0) ∷ blend v (get_or xs 0 0) (get_or ys 0 0) ∷ blend v (get_or xs 1 0)
    (get_or ys 1 0) ∷ []

-- the bytes of a word, the first lowest
unfoldable pub word_bytes : ℕ → List ℕ
word_bytes x = split (replicate 8 8) x

-- two colours: the upper bytes of lanes, taken in turn from a word of red and blue and one of green and alpha
abbrev pub woven : List ℕ → List ℕ → List ℕ
woven [] ga = []
woven (x ∷ rb) [] = []
woven (x ∷ rb) (y ∷ ga) = x / 256 ∷ y / 256 ∷ woven rb ga
