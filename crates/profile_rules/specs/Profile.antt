-- THE PROFILE OF THE HAND-HELD UNIT: blocks of the modes 4, 5 and 6, in sheets whose width and height are multiples of 4.
-- Assumes nothing.
use Rattle.std.specs.Prelude.{ℕ, zero, suc, ◌<◌, ◌%◌, ◌≡◌, ◌⊎◌, ◌≢◌, Bool, not, List, [], ◌∷◌, ◌++◌, Result, Ok, Err, ⊤, eqb, leb, ltb}
use Rattle.refusals.specs.declared.Refusal.TheVariants.{ProfileBlock}
use Rattle.refusals.specs.Answers.{number}
use Rattle.profile_rules.specs.declared.Breach.{Breach}
use Rattle.profile_rules.specs.declared.Breach.TheVariants.{Refused, Block}
use Rattle.laws.specs.Refusals.{Rule, first, refuse, unless}
use Rattle.laws.specs.Tables.{both, pick}
use Rattle.bc7_format.specs.Modes.{mode_of}
use Rattle.head_rules.specs.Answers.{Head}
use Rattle.head_rules.specs.Geometry.{blocks_of}
use Rattle.head_rules.specs.Heads.{head_rules, read_head}
use Rattle.head_rules.specs.Whole.{Whole, whole_refusal, whole_rule}
use Rattle.sheet_rules.specs.Sheets.{block_by, block_in}

-- which blocks it admits: by the mode alone, so that a reserved block, of mode 8, breaks it
unfoldable pub admits : List ℕ → Bool
admits block = both (leb 4 (mode_of block)) (leb (mode_of block) 6)

-- in words
abbrev pub Admitted : List ℕ → Type 0
Admitted block = (mode_of block ≡ 4) ⊎ ((mode_of block ≡ 5) ⊎ (mode_of block ≡ 6))

-- which sizes: both sides are multiples of 4, so that every block is shown whole
unfoldable pub sides_refusal : Head → ℕ
sides_refusal h = refuse 17 (not (both (eqb (h.width % 4) 0) (eqb (h.height % 4) 0)))

pub record Sides (h : Head) : Type 0 where
  pub wide : h.width % 4 ≡ 0
  pub high : h.height % 4 ≡ 0

-- the lowest number below n that passes a test, and n where none does
unfoldable pub lowest : ℕ → (ℕ → Bool) → ℕ
lowest zero t = 0
lowest (suc n) t = pick (t 0) 0 (suc (lowest n (λ k. t (suc k))))

-- does block b of the sheet s, whose head is h, break the profile
unfoldable pub breaks : Head → List ℕ → ℕ → Bool
breaks h s b = not (admits (block_by h s b))

-- the first block that does, by its number, which counts row by row in either form; as many as there are blocks where none does
unfoldable pub first_breaking : Head → List ℕ → ℕ
first_breaking h s = lowest (blocks_of h) (breaks h s)

-- CHECKING A SHEET: the head's, 10, 17 for the size, 20 where a block breaks it
unfoldable pub check_refusal : Head → List ℕ → ℕ
check_refusal h s = first (whole_refusal h s ∷ sides_refusal h ∷ refuse 20 (ltb (first_breaking h s) (blocks_of h)) ∷ [])

-- what is answered, as document 01 has it: a refusal number, 0 for none, and beside 20 the number of the first block that breaks the profile, beside
-- every other answer 0
pub record Checked : Type 0 where
  pub refusal : ℕ
  pub block : ℕ

-- and beside 20 the number of the block, beside every other answer 0
unfoldable pub checked : Head → List ℕ → Checked
checked h s = record { refusal = check_refusal h s; block = pick (eqb (check_refusal h s) 20) (first_breaking h s) 0 }

-- in words, of a whole sheet whose head was read as h; and down to the numbers of the head
abbrev pub profile_behind_whole : Head → List ℕ → List Rule
profile_behind_whole h s = unless 17 (Sides h) ∷ unless 20 ((b : ℕ) → b < blocks_of h → Admitted (block_by h s b)) ∷ []

abbrev pub profile_rules : List ℕ → List Rule
profile_rules s = head_rules s ++ whole_rule (read_head s) s ∷ profile_behind_whole (read_head s) s

-- A SHEET KEEPS THE PROFILE: it is whole, both sides are multiples of 4, and every block is admitted
pub record Keeps (s : List ℕ) : Type 0 where
  pub whole : Whole (read_head s) s
  pub sides : Sides (read_head s)
  pub blocks : (b : ℕ) → b < blocks_of (read_head s) → Admitted (block_in s b)

-- block b is the first of a sheet that breaks the profile: it does, and none before it
pub record FirstBreaking (s : List ℕ) (b : ℕ) : Type 0 where
  pub there : b < blocks_of (read_head s)
  pub breaks_it : Admitted (block_in s b) → ⊥
  pub none_before : (k : ℕ) → k < b → Admitted (block_in s k)

-- what a result answers; 20 is answered for a block alone
abbrev pub check_answered : Result ⊤ Breach → Checked
check_answered (Ok u) = record { refusal = 0; block = 0 }
check_answered (Err (Refused r)) = record { refusal = number r; block = 0 }
check_answered (Err (Block b)) = record { refusal = 20; block = b }

abbrev pub BlockNamed : Result ⊤ Breach → Type 0
BlockNamed (Ok u) = ⊤
BlockNamed (Err (Refused r)) = r ≢ ProfileBlock
BlockNamed (Err (Block b)) = ⊤

-- what `check_profile` promises: its answer, whole
abbrev pub ChecksProfile : List ℕ → Result ⊤ Breach → Type 0
ChecksProfile sheet answer = (check_answered answer ≡ checked (read_head sheet) sheet) × BlockNamed answer
