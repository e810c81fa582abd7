-- The names of the fields, one word each (docs/FIELDS.md has them as a table).
-- Assumes nothing.
use Rattle.std.specs.Prelude.{ℕ, List, [], ◌∷◌, ◌++◌, get_or}
use Rattle.bc7_format.specs.declared.Place.{Place}
use Rattle.bc7_format.specs.declared.Place.TheVariants.{Lead, Value, PBit, Index}
use Rattle.laws.specs.Text.{ascii, decimal}

-- the marker counts the mode
abbrev pub lead_name : ℕ → List ℕ
lead_name k = get_or (ascii "mode" ∷ ascii "partition" ∷ ascii "rotation" ∷ ascii "index-mode" ∷ []) k []

abbrev pub channel_name : ℕ → List ℕ
channel_name c = get_or (ascii "red-" ∷ ascii "green-" ∷ ascii "blue-" ∷ ascii "alpha-" ∷ []) c []

-- the set that is stored first is `index`, whatever the index mode says
abbrev pub set_name : ℕ → List ℕ
set_name a = get_or (ascii "index-" ∷ ascii "second-" ∷ []) a []

-- a value has its endpoint's number, an index its pixel's
unfoldable pub name_of : Place → List ℕ
name_of (Lead k) = lead_name k
name_of (Value c e) = channel_name c ++ decimal e
name_of (PBit k) = ascii "p-" ++ decimal k
name_of (Index a q) = set_name a ++ decimal q
