-- What the functions of a listing promise, under one name each: a text at a place of the output, every other byte as it was, and the
-- place behind the text.
-- Assumes nothing.
use Rattle.std.specs.Prelude.{ℕ, ◌≡◌, List}
use Rattle.listing_rules.specs.Machine.{Machine}
use Rattle.head_rules.specs.Heads.{read_head}
use Rattle.laws.specs.Padding.{Written}
use Rattle.listing_rules.specs.Listing.{listing}
use Rattle.listing_rules.specs.Machine.{next_of, text_of, wanted_of}

-- a text is said: from what stood in the output and the place, what stands there then, and the place behind it
abbrev pub Says : List ℕ → List ℕ → ℕ → List ℕ → ℕ → Type 0
Says text before at after next = Written before at text after next

-- what the machine wants, says and is next, and a whole listing
abbrev pub Wants : Machine → ℕ → Type 0
Wants m n = n ≡ wanted_of m

abbrev pub SaysNext : Machine → List ℕ → List ℕ → ℕ → List ℕ → ℕ → Type 0
SaysNext m came = Says (text_of m came)

abbrev pub GoesOn : Machine → List ℕ → Machine → Type 0
GoesOn m came n = n ≡ next_of m came

abbrev pub SaysListing : List ℕ → List ℕ → ℕ → List ℕ → ℕ → Type 0
SaysListing sheet = Says (listing (read_head sheet) sheet)
