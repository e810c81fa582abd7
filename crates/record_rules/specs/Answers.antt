-- Which answer taking apart and packing give, in document 01's words.
-- Assumes nothing.
use Rattle.std.specs.Prelude.{◌≡◌, List, [], ◌∷◌, ◌≢◌, ℕ, ◌-◌, ◌^◌, ◌<◌, ◌≤◌, T, get_or}
use Rattle.bc7_format.specs.declared.Place.{Place}
use Rattle.bc7_format.specs.declared.Place.TheVariants.{Index}
use Rattle.record_rules.specs.declared.Record.{Record}
use Rattle.laws.specs.Refusals.{Rule, unless}
use Rattle.bc7_format.specs.Modes.{index_bits, kind_of_mode}
use Rattle.bcn_format.specs.Partitions.{among}
use Rattle.bc7_format.specs.Places.{inside, width}
use Rattle.bc7_format.specs.Splits.{anchors, kind_of}
use Rattle.record_rules.specs.Records.{says}

-- the rule of taking apart: the block isn't reserved
abbrev pub apart_rules : List ℕ → List Rule
apart_rules bs = unless 1 (get_or bs 0 0 ≢ 0) ∷ []

-- no value needs more than its width, an anchor's index being taken at its full width
abbrev pub Within : Record → Type 0
Within r = (x : Place) → T (inside x) → says r x < 2 ^ width r.mode [] x

-- no anchor's index has its top bit set
abbrev pub TopsZero : Record → Type 0
TopsZero r = (a q : ℕ) → T (inside (Index a q)) → T (among q (anchors r.split)) → says r (Index a q) < 2 ^ (index_bits r.mode a - 1)

-- the rules of packing: a record gets the number of the first that it breaks
abbrev pub pack_rules : Record → List Rule
pack_rules r =
    unless 5 (r.mode ≤ 7) ∷
    unless 5 (kind_of r.split ≡ kind_of_mode r.mode) ∷
    unless 3 (Within r) ∷
    unless 6 (TopsZero r) ∷
    []
