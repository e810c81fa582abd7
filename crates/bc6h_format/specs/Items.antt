-- What a mode stores, item by item, in the notation of Microsoft's table: rw[9:0] are the bits 9 to 0 of rw, gy[4] is the bit 4 of gy. Of an
-- item the bit that is named last is stored first: in most it is the lowest, and in rw[10:15] the highest.
-- Assumes nothing.
use Rattle.std.specs.Prelude.{ℕ, zero, suc, ◌+◌, ◌-◌, ◌*◌, ◌/◌, ◌%◌, ◌^◌, Bool, List, [], ◌∷◌, ◌++◌, eqb, ltb}
use Prim.Native.Char.{code}
use Prim.Native.String.{String, [] as empty, ◌∷◌ as ◌then◌}
use Rattle.laws.specs.Tables.{both, pick}

-- name[end:start]. A field is of a channel (red 0, green 1, blue 2) and an endpoint (w 0, x 1, y 2, z 3); channel 3 is the mode m (endpoint 0)
-- and the partition d (endpoint 1)
pub record Item : Type 0 where
  pub channel : ℕ
  pub endpoint : ℕ
  pub end : ℕ
  pub start : ℕ

abbrev pub item : ℕ → ℕ → ℕ → ℕ → Item
item c e h l = record { channel = c; endpoint = e; end = h; start = l }

-- The items of a text, letter by letter (x is its code). c and e are the channel and the endpoint that were named last; l is the number that
-- is being read, and h is one more than the number before the colon, or 0 where there is none.
-- r, g, b; m and d
abbrev channel_by : ℕ → ℕ → ℕ
channel_by x c = pick (eqb x 114) 0 (pick (eqb x 103) 1 (pick (eqb x 98) 2 (pick (eqb x 109) 3 (pick (eqb x 100) 3 c))))

-- w, x, y, z, from 119 on; m and d
abbrev endpoint_by : ℕ → ℕ → ℕ
endpoint_by x e = pick (ltb 118 x) (x - 119) (pick (eqb x 109) 0 (pick (eqb x 100) 1 e))

-- the colon is 58, [ is 91, the digits are 48 to 57
abbrev high_by : ℕ → ℕ → ℕ → ℕ
high_by x h l = pick (eqb x 58) (suc l) (pick (eqb x 91) 0 h)

abbrev low_by : ℕ → ℕ → ℕ
low_by x l = pick (eqb x 58) 0 (pick (eqb x 91) 0 (pick (both (ltb 47 x) (ltb x 58)) (l * 10 + (x - 48)) l))

-- ] ends an item, and is 93. One number is both
abbrev items_by : ℕ → ℕ → ℕ → ℕ → ℕ → List Item → List Item
items_by x c e h l is = pick (eqb x 93) (is ++ (item c e (pick (eqb h 0) l (h - 1)) l ∷ [])) is

unfoldable pub items_from : List Item → ℕ → ℕ → ℕ → ℕ → String → List Item
items_from is c e h l empty = is
items_from is c e h l (x then s) =
    items_from (items_by (code x) c e h l is) (channel_by (code x) c) (endpoint_by (code x) e) (high_by (code x) h l) (low_by (code x) l) s

unfoldable pub items_of : String → List Item
items_of s = items_from [] 0 0 0 0 s

-- how many bits an item has
unfoldable pub long : Item → ℕ
long i = pick (ltb i.end i.start) (suc (i.start - i.end)) (suc (i.end - i.start))

-- the k low bits of x in the opposite order
abbrev pub reversed : ℕ → ℕ → ℕ
reversed zero x = 0
reversed (suc k) x = x % 2 * 2 ^ k + reversed k (x / 2)

-- what the stored bits x of an item are worth in its field
unfoldable pub worth : Item → ℕ → ℕ
worth i x = pick (ltb i.end i.start) (reversed (long i) x * 2 ^ i.end) (x * 2 ^ i.start)

-- is the item part of this field
unfoldable pub is_of : ℕ → ℕ → Item → Bool
is_of c e i = both (eqb i.channel c) (eqb i.endpoint e)

-- the field's value: its items, each with what is stored there, put together
abbrev pub gathered : ℕ → ℕ → List Item → List ℕ → ℕ
gathered c e [] ds = 0
gathered c e (i ∷ is) [] = 0
gathered c e (i ∷ is) (d ∷ ds) = gathered c e is ds + pick (is_of c e i) (worth i d) 0
