-- When a block is found, and where.
-- Assumes nothing.
use mathlib.Core.Path.{◌≡◌, ◌∙◌, ap, sym}
use mathlib.Core.List.{List, [], ◌∷◌, ◌++◌}
use Prim.Native.Nat.{ℕ, ◌+◌, ◌*◌, ◌<◌, ◌≤◌}
use native.Mathlib.Omega.{arith}
use lib.ListN.{length, take, drop}
use lib.Seq.{drop-drop}
use Rattle.laws.specs.Refusals.{handed, unless}
use Rattle.laws.proofs.Refusals.{Answers, answers, by_answer, by_leb, none, rule, rules}
use Rattle.head_rules.specs.Geometry.{blocks_of, number_at, place_of}
use Rattle.head_rules.specs.Heads.{head_rules, read_head}
use Rattle.head_rules.specs.Whole.{whole_refusal}
use Rattle.head_rules.proofs.Orders.{blocks_within, each_place}
use Rattle.head_rules.proofs.Theorems.{head_answers}
use Rattle.bcn_format.specs.Block.{block_at}
use Rattle.head_rules.proofs.Whole.{whole_handed, whole_rules_is}
use Rattle.sheet_rules.specs.Sheets.{behind_head, block_by, block_in, find_refusal, find_rules}

pub finding : (s : List ℕ) (b : ℕ) → Answers (find_refusal (read_head s) s b) (find_rules (read_head s) s b)
unfolding find_refusal
finding s b = answers (rules (whole_handed (read_head s) s) λ w. rule (by_leb tt (blocks_of (read_head s)) b) λ n. none)

-- the same down to the numbers of the head
pub finding_in_words : (s : List ℕ) (b : ℕ)
    → Answers (find_refusal (read_head s) s b) (head_rules s ++ behind_head (read_head s) s b)
unfolding find_refusal
finding_in_words s b = answers (rules (whole_rules_is (read_head s) s (head_answers s)) λ w. rule (by_leb tt (blocks_of (read_head s)) b) λ n. none)

-- and of a sheet whose wholeness was answered
pub finding_handed : (s : List ℕ) (b : ℕ)
    → Answers (find_refusal (read_head s) s b) (handed (whole_refusal (read_head s) s) ∷ unless 12 (b < blocks_of (read_head s)) ∷ [])
unfolding find_refusal
finding_handed s b = answers (rule by_answer λ w. rule (by_leb tt (blocks_of (read_head s)) b) λ n. none)

-- what a block that is found has
pub record Inside (s : List ℕ) (b : ℕ) : Type 0 where
  pub head_told_is : (read_head s).refusal ≡ 0
  pub whole : length s ≡ (read_head s).start + 16 * blocks_of (read_head s)
  pub number : b < blocks_of (read_head s)

pub inside : (s : List ℕ) (b : ℕ) → find_refusal (read_head s) s b ≡ 0 → Inside s b
inside s b e = let (h, (l, (n, u))) = (finding s b).met e in record { head_told_is = h; whole = l; number = n }

-- sixteen bytes are there
pub room : (s : List ℕ) (b : ℕ) → Inside s b → place_of (read_head s) b + 16 ≤ length s
room s b i = omega (arith, i.whole, blocks_within (read_head s) b i.number)

-- the block that is stored p-th, which the listing prints p-th, is the one with the number that it prints
pub stored_block_is : (s : List ℕ) (p : ℕ) → p < blocks_of (read_head s)
    → block_at (drop (read_head s).start s) (16 * p) ≡ block_in s (number_at (read_head s) p)
unfolding block_at block_by
stored_block_is s p l =
    ap (take 16) (drop-drop (16 * p) (read_head s).start s) ∙ ap (λ (k : ℕ). take 16 (drop k s)) (sym (each_place (read_head s) p l))
