-- What the functions on heads and their geometry promise: an equation, and beside it a bound that the next sum or call asks for.
-- Assumes nothing.
use Rattle.std.specs.Prelude.{◌≡◌, List, [], ◌∷◌, ℕ, Result, ◌+◌, ◌*◌, ◌^◌, ◌<◌, ◌≤◌}
use Rattle.head_rules.specs.Answers.{Head}
use Rattle.head_rules.specs.declared.HeadBytes.{HeadBytes}
use Rattle.head_rules.specs.Answers.{bytes_known, reader_answered, reader_known}
use Rattle.head_rules.specs.declared.HeadReader as readers
use Rattle.refusals.specs.declared.Refusal.{Refusal}
use Rattle.head_rules.specs.Geometry.{blocks_of, most_blocks, number_at, stored_at}
use Rattle.head_rules.specs.Heads.{with_bytes}
use Rattle.head_rules.specs.Numbers.{numbers_end}
use Rattle.head_rules.specs.Reader.{next_number}

-- how many blocks a sheet has
pub record CountsBlocks (head : Head) (r : ℕ) : Type 0 where
  pub same : r ≡ blocks_of head
  pub few : r ≤ most_blocks

-- how many blocks are stored before a block; and the number of the block that has so many stored before it
pub record StoresAt (head : Head) (block r : ℕ) : Type 0 where
  pub same : r ≡ stored_at head block
  pub few : r < most_blocks

pub record NumbersAt (head : Head) (stored r : ℕ) : Type 0 where
  pub same : r ≡ number_at head stored
  pub few : r < most_blocks

-- what seven bits count behind so many groups
pub record CountsGroup (bits groups r : ℕ) : Type 0 where
  pub same : r ≡ bits * 128 ^ groups
  pub small : r < numbers_end

-- the reader after the next number, which has three bytes at the most
pub record TakesNumber (sheet : List ℕ) (reader : readers.HeadReader) (r : Result readers.HeadReader Refusal) : Type 0 where
  pub same : reader_answered r ≡ next_number sheet (reader_known reader)
  pub near : (reader_answered r).head.start ≤ reader.head.start + 3

-- one byte more
pub record Pushes (h : HeadBytes) (byte : ℕ) (r : HeadBytes) : Type 0 where
  pub same : bytes_known r ≡ with_bytes (bytes_known h) (byte ∷ [])
  pub more : r.count ≡ h.count + 1
