-- Which index of a line is nearest to a wanted colour at a pixel, and which hits it.
-- Assumes nothing.
use Rattle.std.specs.Prelude.{◌≡◌, Bool, true, false, not, List, [], ◌∷◌, ◌++◌, ℕ, zero, suc, ◌+◌, ◌-◌, ◌*◌, ◌^◌, ◌<◌, eqb, ltb, get_or, set}
use Rattle.refusals.specs.Answers.{Answer}
use Rattle.line_rules.specs.declared.Replacement.{Replacement}
use Rattle.bc7_format.specs.declared.Split.{Split}
use Rattle.laws.specs.Refusals.{Rule, first, refuse, unless}
use Rattle.laws.specs.Tables.{both, pick}
use Rattle.bc7_format.specs.Modes.{mode_of}
use Rattle.bc7_format.specs.Splits.{is_vector, split_of, subset}
use Rattle.bc7_format.specs.Places.{opened}
use Rattle.bc7_format.specs.Lines.{Line, draws, line_bits, line_of, means_shown}
use Rattle.line_rules.specs.Read.{line_read, read_refusal, read_rules}

-- a line with the index i at every pixel
unfoldable pub with_index : ℕ → Line → Line
with_index i ln = record { value = ln.value; p = ln.p; index = λ q. i }

-- what line l of a block, with the endpoints and p bits that it stores, draws with index i in the shown channel c of pixel q
unfoldable pub drawn_with : List ℕ → ℕ → ℕ → ℕ → ℕ → ℕ
drawn_with bs l q i c = means_shown (mode_of bs) (split_of bs) l (with_index i (line_of (mode_of bs) (split_of bs) l (opened bs))) q c

-- the difference of two numbers, squared: of a - b and b - a one is 0
unfoldable pub squared : ℕ → ℕ → ℕ
squared a b = (a - b) * (a - b) + (b - a) * (b - a)

-- how far channel c is from the wanted one, with index i: only a channel that the line draws there counts
unfoldable pub channel_distance : List ℕ → ℕ → ℕ → List ℕ → ℕ → ℕ → ℕ
channel_distance bs l q wanted i c =
    pick (draws (mode_of bs) (split_of bs) l q c) (squared (drawn_with bs l q i c) (get_or wanted c 0)) 0

-- the wanted channels are red, green, blue, alpha as a pixel is shown
unfoldable pub distance : List ℕ → ℕ → ℕ → List ℕ → ℕ → ℕ
distance bs l q wanted i =
    channel_distance bs l q wanted i 0 + channel_distance bs l q wanted i 1 + channel_distance bs l q wanted i 2 + channel_distance bs l q wanted i 3

-- how many indexes the line has: all of its full width, at an anchor too
unfoldable pub index_count : List ℕ → ℕ → ℕ
index_count bs l = 2 ^ line_bits (mode_of bs) (split_of bs) l

-- the lowest number below n at which d is least
unfoldable pub least_at : ℕ → (ℕ → ℕ) → ℕ
least_at zero d = 0
least_at (suc n) d =
    let best = least_at n d in
    pick (ltb (d n) (d best)) n best

-- the lowest number below n at which d is 0, and n where there is none
unfoldable pub zero_at : ℕ → (ℕ → ℕ) → ℕ
zero_at zero d = 0
zero_at (suc n) d = pick (eqb (d 0) 0) 0 (suc (zero_at n (λ i. d (suc i))))

-- is pixel q the line's: of its subset; a vector and its scalar have all sixteen
unfoldable pub in_line : Split → ℕ → ℕ → Bool
in_line s l q = both (ltb q 16) (pick (is_vector s) true (eqb (subset s q) l))

-- the refusals of the nearest index, and of the one that hits (0: accepted): those of reading the line, 1 and 2, then 13, then 14
unfoldable pub nearest_refusal : List ℕ → ℕ → ℕ → ℕ
nearest_refusal bs l q =
    first (read_refusal bs l ∷ refuse 13 (not (in_line (split_of bs) l q)) ∷ [])

unfoldable pub exact_refusal : List ℕ → ℕ → ℕ → List ℕ → ℕ
exact_refusal bs l q wanted =
    first (nearest_refusal bs l q ∷ refuse 14 (not (ltb (zero_at (index_count bs l) (distance bs l q wanted)) (index_count bs l))) ∷ [])

-- what the calls answer: a refusal has 0 for its index
abbrev pub found_as : ℕ → ℕ → Answer ℕ
found_as r i = record { refusal = r; value = pick (eqb r 0) i 0 }

unfoldable pub nearest_index : List ℕ → ℕ → ℕ → List ℕ → Answer ℕ
nearest_index bs l q wanted = found_as (nearest_refusal bs l q) (least_at (index_count bs l) (distance bs l q wanted))

unfoldable pub exact_index : List ℕ → ℕ → ℕ → List ℕ → Answer ℕ
exact_index bs l q wanted = found_as (exact_refusal bs l q wanted) (zero_at (index_count bs l) (distance bs l q wanted))

-- THE RULES IN WORDS
pub record InLine (s : Split) (l q : ℕ) : Type 0 where
  pub pixel : q < 16
  pub own : is_vector s ≡ false → subset s q ≡ l

pub record Hit (bs : List ℕ) (l q : ℕ) (wanted : List ℕ) : Type 0 where
  pub index : ℕ
  pub below : index < index_count bs l
  pub hits : distance bs l q wanted index ≡ 0

abbrev pub nearest_rules : List ℕ → ℕ → ℕ → List Rule
nearest_rules bs l q = read_rules bs l ++ (unless 13 (InLine (split_of bs) l q) ∷ [])

abbrev pub exact_rules : List ℕ → ℕ → ℕ → List ℕ → List Rule
exact_rules bs l q wanted = nearest_rules bs l q ++ (unless 14 (Hit bs l q wanted) ∷ [])

-- THE CORRECTION THAT FOLLOWS: the line as it stands in the block, with index i at pixel q
unfoldable pub correction : List ℕ → ℕ → ℕ → ℕ → Replacement
correction bs l q i =
    let ln = (line_read bs l).value.line in
    record { endpoints = ln.endpoints; p = ln.p; indexes = set ln.indexes q i }
