-- What the functions of the listing promise: an equation or a text, and beside it what the next call asks for.
-- Assumes nothing.
use Rattle.head_rules.specs.declared.HeadReader as readers
use Rattle.refusals.specs.declared.Refusal.{Refusal}
use Rattle.std.specs.Prelude.{◌≡◌, true, List, ℕ, Result, ◌+◌, ◌-◌, ◌*◌, ◌≤◌, length}
use Rattle.head_rules.specs.Answers.{Head}
use Rattle.head_rules.specs.Answers.{HeadReader, reader_answered}
use Rattle.head_rules.specs.Geometry.{blocks_of}
use Rattle.head_rules.specs.Heads.{Sized}
use Rattle.head_rules.specs.Reader.{has_ended}
use Rattle.listing_rules.specs.Machine.{Machine}
use Rattle.listing_rules.specs.Machine.{Ready, at_start, most_in_run, rounds_of, run_of, taken_of}
use Rattle.listing_rules.specs.Promises.{GoesOn, SaysListing, Wants}

-- the reader after what came of the head; an accepted head has a size
pub record TakesNext (reader : HeadReader) (came : List ℕ) (r : Result readers.HeadReader Refusal) : Type 0 where
  pub same : reader_answered r ≡ taken_of reader came
  pub sized : has_ended (reader_answered r) ≡ true → (reader_answered r).head.refusal ≡ 0
      → Sized (reader_answered r).head.width (reader_answered r).head.height

-- the machine at its start
pub record Starts (m : Machine) : Type 0 where
  pub same : m ≡ at_start
  pub ready : Ready m

-- how many blocks the next run has: no more than the buffer holds, and than the sheet has left
pub record TellsRun (head : Head) (from r : ℕ) : Type 0 where
  pub same : r ≡ run_of head from
  pub few : r ≤ most_in_run
  pub inside : from + r ≤ blocks_of head

-- the next state, which is ready and has fewer rounds to go
pub record GoesOnReady (m : Machine) (came : List ℕ) (n : Machine) : Type 0 where
  pub next : GoesOn m came n
  pub ready : Ready n
  pub fewer : rounds_of n ≤ rounds_of m - 1

-- how many bytes are wanted: no more than those of a run, and none where there are no rounds to go
pub record WantsFew (m : Machine) (n : ℕ) : Type 0 where
  pub wants : Wants m n
  pub few : n ≤ 16 * most_in_run
  pub none : n ≤ 16 * most_in_run * rounds_of m

-- what is said, of at most so many bytes from a place on, with some to spare behind it
pub record Spares (spare most at next : ℕ) (Said : Type 0) : Type 0 where
  pub text : Said
  pub room : next + spare ≤ at + most

-- a whole listing, within the output
pub record ListsSheet (sheet before after : List ℕ) (next : ℕ) : Type 0 where
  pub says : SaysListing sheet before 0 after next
  pub fits : next ≤ length after
