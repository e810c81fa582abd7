-- The listing as a machine: what it wants next, what it says of what came, its next state; and a run of it over an input.
-- Assumes nothing.
use Rattle.std.specs.Prelude.{ℕ, zero, suc, ◌+◌, ◌-◌, ◌*◌, ◌%◌, ◌<◌, ◌≤◌, min, ◌≡◌, Bool, true, false, List, [], ◌∷◌, ◌++◌, eqb, length, take, drop}
use Rattle.listing_rules.specs.declared.Machine as machines
use Rattle.listing_rules.specs.declared.Phase.{Phase}
use Rattle.listing_rules.specs.declared.Phase.TheVariants.{Head, Blocks, End, Listed, Refused}
use Rattle.head_rules.specs.Geometry.{across, blocks_of, most_blocks}
use Rattle.head_rules.specs.Heads.{Sized}
use Rattle.head_rules.specs.Answers.{Head as SheetHead}
use Rattle.head_rules.specs.Answers.{HeadReader, reader_known}
use Rattle.laws.specs.Tables.{pick}
use Rattle.head_rules.specs.Reader.{Going, at_form, byte_taken, has_ended, refused_with}
use Rattle.laws.specs.Text.{refused_text}
use Rattle.listing_rules.specs.Text.{sheet_text}
use Rattle.listing_rules.specs.Listing.{listed, unless_exact}

-- the machine as the definitions have it: its reader may have refused a head
pub record Machine : Type 0 where
  pub phase : Phase
  pub reader : HeadReader
  pub from : ℕ

abbrev pub machine_known : machines.Machine → Machine
machine_known m = record { phase = m.phase; reader = reader_known m.reader; from = m.from }

-- the reader after what came of the head's next byte; the head is cut off where none came
abbrev pub taken_of : HeadReader → List ℕ → HeadReader
taken_of r [] = refused_with 7
taken_of r (b ∷ bs) = byte_taken r b

-- the states: at the head, before a block, at the end
abbrev pub at_head : HeadReader → Machine
at_head r = record { phase = Head; reader = r; from = 0 }

abbrev pub at_start : Machine
at_start = at_head at_form

-- so many blocks are still to come
abbrev pub blocks_phase : ℕ → Phase
blocks_phase zero = End
blocks_phase (suc k) = Blocks

unfoldable pub in_blocks : HeadReader → ℕ → Machine
in_blocks r from = record { phase = blocks_phase (blocks_of r.head - from); reader = r; from = from }

unfoldable pub ended : Bool → Machine
ended exact = record { phase = pick exact Listed Refused; reader = at_form; from = 0 }

-- behind a head: what is said of it, and the state
unfoldable pub head_text : SheetHead → List ℕ
head_text h = pick (eqb h.refusal 0) (sheet_text h.width h.height) (refused_text h.refusal)

unfoldable pub begun : HeadReader → Machine
begun r = pick (eqb r.head.refusal 0) (in_blocks r 0) (ended false)

-- the stored blocks are taken in runs of so many at the most, which is as many as the buffer holds; a run also ends where as many have come
-- as fill whole rows, which in form 1 is the end of a row
abbrev pub most_in_run : ℕ
most_in_run = 1024

unfoldable pub run_of : SheetHead → ℕ → ℕ
run_of h from = min most_in_run (across h.width - from % across h.width)

-- how many bytes are wanted
abbrev pub wanted_in : Phase → Machine → ℕ
wanted_in Head m = 1
wanted_in Blocks m = 16 * run_of m.reader.head m.from
wanted_in End m = 1
wanted_in Listed m = 0
wanted_in Refused m = 0

abbrev pub wanted_of : Machine → ℕ
wanted_of m = wanted_in m.phase m

-- what is said of what came
abbrev pub text_at_head : HeadReader → List ℕ
text_at_head r = pick (has_ended r) (head_text r.head) []

abbrev pub text_in_blocks : SheetHead → ℕ → List ℕ → List ℕ
text_in_blocks h from came = listed h from came ++ unless_exact (eqb (length came) (16 * run_of h from))

abbrev pub text_in : Phase → Machine → List ℕ → List ℕ
text_in Head m came = text_at_head (taken_of m.reader came)
text_in Blocks m came = text_in_blocks m.reader.head m.from came
text_in End m came = unless_exact (eqb (length came) 0)
text_in Listed m came = []
text_in Refused m came = []

abbrev pub text_of : Machine → List ℕ → List ℕ
text_of m came = text_in m.phase m came

-- the next state
abbrev pub next_at_head : HeadReader → Machine
next_at_head r = pick (has_ended r) (begun r) (at_head r)

abbrev pub next_in_blocks : HeadReader → ℕ → ℕ → Machine
next_in_blocks r from got = pick (eqb got (16 * run_of r.head from)) (in_blocks r (from + run_of r.head from)) (ended false)

abbrev pub next_in : Phase → Machine → List ℕ → Machine
next_in Head m came = next_at_head (taken_of m.reader came)
next_in Blocks m came = next_in_blocks m.reader m.from (length came)
next_in End m came = ended (eqb (length came) 0)
next_in Listed m came = ended true
next_in Refused m came = ended false

abbrev pub next_of : Machine → List ℕ → Machine
next_of m came = next_in m.phase m came

-- a run over an input: the machine is fed with what it wants for as long as it wants something; what it says, put together
pub data Run : Machine → List ℕ → List ℕ → Type 0 where
  over : {m : Machine} {s : List ℕ} → wanted_of m ≡ 0 → Run m s []
  round : {m : Machine} {s t : List ℕ} → (wanted_of m ≡ 0 → ⊥) → Run (next_of m (take (wanted_of m) s)) (drop (wanted_of m) s) t
      → Run m s (text_of m (take (wanted_of m) s) ++ t)

-- what holds in every state that a run comes to: the block to come is one of the sheet's
pub record InBlocks (h : SheetHead) (from : ℕ) : Type 0 where
  pub sized : Sized h.width h.height
  pub more : from < blocks_of h

abbrev pub ReadyIn : Phase → Machine → Type 0
ReadyIn Head m = Going m.reader
ReadyIn Blocks m = InBlocks m.reader.head m.from
ReadyIn End m = Unit {0}
ReadyIn Listed m = Unit {0}
ReadyIn Refused m = Unit {0}

abbrev pub Ready : Machine → Type 0
Ready m = ReadyIn m.phase m

-- how many rounds it still takes at the most
abbrev pub rounds_in : Phase → Machine → ℕ
rounds_in Head m = 12 - (m.reader.head.start + m.reader.groups) + (most_blocks + 2)
rounds_in Blocks m = blocks_of m.reader.head - m.from + 1
rounds_in End m = 1
rounds_in Listed m = 0
rounds_in Refused m = 0

abbrev pub rounds_of : Machine → ℕ
rounds_of m = rounds_in m.phase m

-- how many bytes it may still say besides 40 for each block
abbrev pub spare_in : Phase → ℕ
spare_in Head = 80
spare_in Blocks = 40
spare_in End = 40
spare_in Listed = 0
spare_in Refused = 0

abbrev pub spare_of : Machine → ℕ
spare_of m = spare_in m.phase

-- the next n bytes from a place on, of so many, end here: all n, or fewer where there are no more
pub record NextEnd (at n many end : ℕ) : Type 0 where
  pub behind : at ≤ end
  pub few : end ≤ at + n
  pub within : end ≤ many
  pub all : end < at + n → end ≡ many
