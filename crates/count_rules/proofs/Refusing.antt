-- Refusals in order: counting, and calls that come with counts. The tests and the words say the same.
-- Assumes nothing.
use mathlib.Core.Path.{◌≡◌, refl}
use mathlib.Core.Bool.{Bool, true, false, not}
use mathlib.Core.List.{List, [], ◌∷◌, ◌++◌}
use Prim.Native.Nat.{ℕ}
use borrow.Author.Tests.{eqb-false, leb-false, lt-leb, ne_eqb}
use lib.Dec.{T, eqb, leb, ltb}
use Rattle.laws.specs.Refusals.{first, handed, refuse}
use Rattle.laws.specs.Tables.{both}
use Rattle.laws.proofs.Refusals.{Answers, Decided, accepted_when, answers, by_answer, by_eqb, by_not_eqb, by_test, none, rule, rules}
use Rattle.laws.proofs.Tests.{no_both}
use Rattle.bc7_format.specs.Modes.{mode_of}
use Rattle.head_rules.specs.Answers.{Head}
use Rattle.head_rules.specs.Geometry.{blocks_of}
use Rattle.head_rules.specs.Heads.{read_head}
use Rattle.head_rules.specs.Whole.{whole_refusal}
use Rattle.head_rules.specs.Numbers.{Bytes}
use Rattle.head_rules.proofs.Theorems.{head_answers}
use Rattle.head_rules.proofs.Whole.{whole_rules_is}
use Rattle.line_rules.specs.declared.Replacement.{Replacement}
use Rattle.refusals.specs.Answers.{Answer}
use Rattle.line_rules.specs.Replace.{call_of, replaced}
use Rattle.line_rules.proofs.Accepting.{on_block_is}
use Rattle.sheet_rules.specs.Sheets.{block_by, block_in, find_rules, replaced_in}
use Rattle.sheet_rules.proofs.OnBlocks.{sixteen}
use Rattle.sheet_rules.proofs.Finding.{finding, finding_in_words}
use Rattle.count_rules.specs.declared.Counts.{Counts}
use Rattle.count_rules.specs.Counts.{count_rules, is_opaque}
use Rattle.count_rules.specs.Keeping.{block_made, false_of, false_refusal, false_rules, false_rules_of, kept_refusal, kept_rules, line_rules}
use Rattle.count_rules.specs.Keeping.{of_all_modes, of_mode}

-- a test that is made of some blocks only
module _ {n : ℕ} (pos : T (ltb 0 n)) {Q : Type 0} (b : Bool) (f : b ≡ false → Q) (g : Q → b ≡ false) where
  pub where_so : (t : Bool) → Decided (refuse n (both t b)) n (t ≡ true → Q)
  where_so true = by_test pos b (λ e so. f e) (λ q. g (q refl))
  where_so false = by_test pos false (λ e so. absurd (no_both so refl)) (λ q. refl)

  pub where_not : (t : Bool) → Decided (refuse n (both (not t) b)) n (t ≡ false → Q)
  where_not true = by_test pos false (λ e so. absurd (no_both refl so)) (λ q. refl)
  where_not false = by_test pos b (λ e so. f e) (λ q. g (q refl))

-- counting
pub counting : (s : List ℕ) → Answers (whole_refusal (read_head s) s) (count_rules s)
counting s = whole_rules_is (read_head s) s (head_answers s)

-- 19
pub falsehood_of : (blocks mode : ℕ) (opaque : Bool) (n : Counts) → Answers (false_of blocks mode opaque n) (false_rules_of blocks mode opaque n)
unfolding false_of
falsehood_of blocks mode opaque n = answers (
    rule (by_not_eqb tt (of_all_modes n) blocks) λ a.
    rule (by_eqb tt (of_mode n mode) 0) λ c.
    rule (where_so tt (eqb n.opaque 0) (eqb-false n.opaque 0) (ne_eqb n.opaque 0) opaque) λ d.
    rule (where_not tt (leb blocks n.opaque) (leb-false blocks n.opaque) (lt-leb blocks n.opaque) opaque) λ e.
    none)

pub falsehood : (h : Head) (s : List ℕ) (b : ℕ) (n : Counts) → Answers (false_refusal h s b n) (false_rules h s b n)
falsehood h s b n = falsehood_of (blocks_of h) (mode_of (block_by h s b)) (is_opaque h s b) n

module _ (s : List ℕ) (n : Counts) (b : ℕ) where
  -- the head's refusal, 10, 12, 19, then the block's own
  pub keeping : (made : Answer (List ℕ))
      → Answers (kept_refusal (read_head s) s n b made) (find_rules (read_head s) s b ++ false_rules (read_head s) s b n ++ (handed made.refusal ∷ []))
  unfolding kept_refusal
  keeping made = answers (rules (finding s b) λ m. rules (falsehood (read_head s) s b n) λ k. rule by_answer λ z. none)

  -- a whole block has none of its own
  pub block_words : (new : List ℕ) → Answers (kept_refusal (read_head s) s n b (block_made new)) (kept_rules s n b)
  unfolding kept_refusal first
  block_words new = answers (rules (finding_in_words s b) λ m. rules (falsehood (read_head s) s b n) λ k. rules none_of_its_own λ z. none)
    where
      none_of_its_own : Answers 0 []
      none_of_its_own = answers none

  -- a line has 1, 2, 3, 4
  pub line_words : Bytes s → (l : ℕ) (new : Replacement)
      → Answers (kept_refusal (read_head s) s n b (replaced_in (read_head s) s b l new)) (line_rules s n b l new)
  unfolding kept_refusal replaced_in replaced
  line_words y l new = answers (
      rules (finding_in_words s b) λ (f, (o, (w, (h, (k, (v, (z, (long, (i, u))))))))).
      rules (falsehood (read_head s) s b n) λ k'.
      rules (on_block_is (block_in s b)
      (sixteen s (record { bytes = y; told = (accepted_when (head_answers s)).1 (f, (o, (w, (h, (k, (v, (z, tt))))))); long = long }) b i)
      (call_of l new)) λ m.
      none)
