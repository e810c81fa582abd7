-- What the search goes by: four channels of a pixel, and how far they are at an index.
-- Assumes nothing.
use Rattle.std.specs.Prelude.{◌≡◌, ◌≢◌, List, ℕ, ⊤, Option, Some, None, Result, Ok, Err, ◌+◌, ◌*◌, ◌^◌, ◌≤◌, ◌<◌, eqb, get_or}
use Rattle.nearest.specs.declared.Channel.{Channel}
use Rattle.nearest.specs.declared.Shown.{Shown}
use Rattle.nearest.specs.declared.Nearest.{Nearest}
use Rattle.refusals.specs.Answers.{number}
use Rattle.refusals.specs.declared.Refusal.{Refusal}
use Rattle.line_rules.specs.declared.Replacement.{Replacement}
use Rattle.laws.specs.Tables.{pick}
use Rattle.bcn_format.specs.Drawing.{drawn, promoted, weight_of}
use Rattle.bc7_format.specs.Lines.{rotated}
use Rattle.nearest_rules.specs.Parts.{p_in, value_in, channel_width}
use Rattle.nearest_rules.specs.Nearest.{distance, least_at, nearest_index, squared}

pub record ChannelOfBytes (x : Channel) : Type 0 where
  pub first : x.first < 256
  pub second : x.second < 256
  pub wanted : x.wanted < 256

-- of one that the line may draw
abbrev pub DrawnOfBytes : Option Channel → Type 0
DrawnOfBytes None = ⊤
DrawnOfBytes (Some x) = ChannelOfBytes x

-- What the functions ask, each clause by its name: a value that is promoted, two endpoints and a weight, an endpoint's value and p bit
pub record ToPromote (v bits : ℕ) : Type 0 where
  pub least : 4 ≤ bits
  pub most : bits ≤ 8
  pub value : v < 2 ^ bits

pub record Between (e0 e1 w : ℕ) : Type 0 where
  pub first : e0 < 256
  pub second : e1 < 256
  pub weight : w ≤ 64

pub record AtEndpoint (v q width p_width : ℕ) : Type 0 where
  pub least : 4 ≤ width + p_width
  pub most : width + p_width ≤ 8
  pub value : v < 2 ^ width
  pub p : q < 2 ^ p_width

-- What they answer: a number that is x, and that this is below a bound
pub record IsBelow (most x r : ℕ) : Type 0 where
  pub is : r ≡ x
  pub low : r < most

-- four channels, and indexes of so many bits
pub record Searchable (x : Shown) (bits : ℕ) : Type 0 where
  pub red : DrawnOfBytes x.red
  pub green : DrawnOfBytes x.green
  pub blue : DrawnOfBytes x.blue
  pub alpha : DrawnOfBytes x.alpha
  pub least : 2 ≤ bits
  pub most : bits ≤ 4

pub record Measurable (x : Shown) (bits i : ℕ) : Type 0 where
  pub channels : Searchable x bits
  pub index : i < 2 ^ bits

-- how far a channel is at a weight: one that isn't drawn doesn't count
unfoldable pub channel_far : Option Channel → ℕ → ℕ
channel_far None w = 0
channel_far (Some x) w = squared (drawn x.first x.second w) x.wanted

unfoldable pub distance_at : Shown → ℕ → ℕ → ℕ
distance_at x bits i =
    let w = weight_of bits i in
    channel_far x.red w + channel_far x.green w + channel_far x.blue w + channel_far x.alpha w

-- the lowest of the nearest indexes, and its distance
pub record Searched (x : Shown) (bits : ℕ) (n : Nearest) : Type 0 where
  pub index : n.index ≡ least_at (2 ^ bits) (distance_at x bits)
  pub distance : n.distance ≡ distance_at x bits n.index

-- endpoint k as eight bits
unfoldable pub end_in : Replacement → Replacement → ℕ → ℕ → ℕ
end_in ln ws k d = promoted (channel_width ws d + p_in ws 0) (value_in ln k d * 2 ^ p_in ws 0 + p_in ln k)

-- a channel can be made: each value is within its width, and with the p bit it has four to eight
pub record Readable (ln ws : Replacement) (d : ℕ) : Type 0 where
  pub channel : d < 4
  pub least : channel_width ws d ≢ 0 → 4 ≤ channel_width ws d + p_in ws 0
  pub most : channel_width ws d ≢ 0 → channel_width ws d + p_in ws 0 ≤ 8
  pub value : (k : ℕ) → k < 2 → value_in ln k d < 2 ^ channel_width ws d
  pub p : (k : ℕ) → k < 2 → p_in ln k < 2 ^ p_in ws 0

unfoldable pub channel_tried : Replacement → Replacement → ℕ → ℕ → Option Channel
channel_tried ln ws d wanted =
    pick (eqb (channel_width ws d) 0) None (Some (record { first = end_in ln ws 0 d; second = end_in ln ws 1 d; wanted = wanted }))

pub record IsChannel (ln ws : Replacement) (d wanted : ℕ) (x : Option Channel) : Type 0 where
  pub is : x ≡ channel_tried ln ws d wanted
  pub byte : DrawnOfBytes x

-- the shown channel c under rotation r, and a search over the four
abbrev pub shown_in : Replacement → Replacement → ℕ → List ℕ → ℕ → Option Channel
shown_in ln ws r wanted c = channel_tried ln ws (rotated r c) (get_or wanted c 0)

abbrev pub channels_in : Replacement → Replacement → ℕ → List ℕ → Shown
channels_in ln ws r wanted = record {
  red = shown_in ln ws r wanted 0;
  green = shown_in ln ws r wanted 1;
  blue = shown_in ln ws r wanted 2;
  alpha = shown_in ln ws r wanted 3;
}

abbrev pub SearchedIn : Replacement → Replacement → ℕ → List ℕ → ℕ → Nearest → Type 0
SearchedIn ln ws r wanted = Searched (channels_in ln ws r wanted)

-- all four can be made, and the indexes be tried
pub record Tryable (ln ws : Replacement) (r bits : ℕ) : Type 0 where
  pub channels : (d : ℕ) → d < 4 → Readable ln ws d
  pub rotation : r < 4
  pub least : 2 ≤ bits
  pub most : bits ≤ 4

-- what a trial comes to: a refusal, or the nearest index and how far it is; where it is refused, both are 0
pub record Tried : Type 0 where
  pub refusal : ℕ
  pub index : ℕ
  pub distance : ℕ

abbrev pub tried_as : ℕ → ℕ → ℕ → Tried
tried_as r i d = record { refusal = r; index = i; distance = d }

abbrev pub tried_of : Result Nearest Refusal → Tried
tried_of (Ok x) = tried_as 0 x.index x.distance
tried_of (Err r) = tried_as (number r) 0 0

-- the answer of the nearest index, and its distance where it is none of a refusal
pub record Tries (bs : List ℕ) (l q : ℕ) (wanted : List ℕ) (x : Tried) : Type 0 where
  pub refusal : x.refusal ≡ (nearest_index bs l q wanted).refusal
  pub index : x.index ≡ (nearest_index bs l q wanted).value
  pub distance : x.refusal ≡ 0 → x.distance ≡ distance bs l q wanted x.index
