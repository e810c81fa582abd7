-- What the functions on counts ask and promise.
-- Assumes nothing.
use Rattle.std.specs.Prelude.{ℕ, ◌+◌, Result, Ok, ◌<◌, ◌≤◌, ◌≡◌, ◌≢◌, Bool, true, false, List, [], ◌∷◌, length}
use Rattle.laws.specs.Refusals.{first}
use Rattle.bc7_format.specs.Modes.{mode_of}
use Rattle.refusals.specs.Answers.{number_of}
use Rattle.refusals.specs.declared.Refusal.{Refusal}
use Rattle.head_rules.specs.Answers.{Head, known}
use Rattle.head_rules.specs.Geometry.{blocks_of, most_blocks, place_of, whole_length}
use Rattle.head_rules.specs.Heads.{Sized, read_head}
use Rattle.bcn_format.specs.Block.{put_block}
use Rattle.sheet_rules.specs.Sheets.{block_in, find_refusal}
use Rattle.count_rules.specs.declared.Counts.{Counts}
use Rattle.head_rules.specs.Whole.{whole_refusal}
use Rattle.count_rules.specs.Counts.{counts_below, is_opaque}
use Rattle.count_rules.specs.Keeping.{false_refusal, of_all_modes, of_mode, recounted}
use Rattle.counts.specs.declared.NamedBlock.{NamedBlock}

-- the head of a sheet with all its blocks
pub record ReadsWhole (s : List ℕ) (r : Head) : Type 0 where
  pub refusal : r.refusal ≡ whole_refusal (read_head s) s
  pub same : r.refusal ≡ 0 → r ≡ read_head s

-- a sheet with all the blocks that the head says
pub record WholeBlocks (h : Head) (s : List ℕ) : Type 0 where
  pub sized : Sized h.width h.height
  pub whole : length s ≡ whole_length h

-- the blocks before block b are counted, and there is a block b
pub record CountedBelow (h : Head) (s : List ℕ) (b : ℕ) (n : Counts) : Type 0 where
  pub all : WholeBlocks h s
  pub there : b < blocks_of h
  pub so_far : n ≡ counts_below h s b

-- what is known of a block that a call names
pub record Here (s : List ℕ) (n : Counts) (b : ℕ) (r : NamedBlock) : Type 0 where
  pub found : find_refusal (read_head s) s b ≡ 0
  pub true_of_it : false_refusal (read_head s) s b n ≡ 0
  pub head : known r.head ≡ read_head s
  pub at : r.at ≡ place_of (read_head s) b
  pub block : r.block ≡ block_in s b
  pub mode : r.mode ≡ mode_of (block_in s b)
  pub opaque : r.opaque ≡ is_opaque (read_head s) s b

pub record Names (s : List ℕ) (n : Counts) (b : ℕ) (r : Result NamedBlock Refusal) : Type 0 where
  pub refusal : number_of r ≡ first (find_refusal (read_head s) s b ∷ false_refusal (read_head s) s b n ∷ [])
  pub here : (k : NamedBlock) → r ≡ Ok k → Here s n b k

-- three numbers of 32 bits, far below 2 ^ 64
pub record SumsThree (a b c r : ℕ) : Type 0 where
  pub same : r ≡ a + b + c
  pub small : r < 17179869184

-- counts that are changed: no count falls below 0, and none outgrows its place
pub record RecountAsked (n : Counts) (had : ℕ) (was : Bool) (has : ℕ) (is : Bool) : Type 0 where
  pub a_mode : had < 9
  pub another : has < 9
  pub some : of_mode n had ≢ 0
  pub few : of_all_modes n ≤ most_blocks
  pub some_opaque : was ≡ true → n.opaque ≢ 0
  pub room : was ≡ false → n.opaque < most_blocks

-- the block is there, and the counts are those of it
pub record PutThere (s : List ℕ) (n : Counts) (b : ℕ) (new : List ℕ) (r : Counts) (after : List ℕ) : Type 0 where
  pub counts : r ≡ recounted (read_head s) s b new n
  pub sheet : after ≡ put_block s (place_of (read_head s) b) new
