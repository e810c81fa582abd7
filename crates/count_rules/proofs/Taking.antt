-- COUNTS TAKEN FROM A SHEET: they are never false of it; and once another block stands in a block's place, they are what `recounted` says.
-- Assumes nothing.
use mathlib.Core.Path.{◌≡◌, refl, sym, ap, ap₂, ◌∙◌, subst}
use mathlib.Core.Logic.{◌≢◌}
use mathlib.Core.List.{List}
use Prim.Native.Nat.{ℕ, ◌<◌, ◌≤◌}
use native.Mathlib.Omega.{arith}
use borrow.Author.Tests.{eq-eqb}
use lib.Dec.{eqb}
use Rattle.laws.specs.Digits.{Fit}
use Rattle.laws.proofs.Joining.{table_same}
use Rattle.laws.proofs.Part.{get_d_table}
use Rattle.laws.proofs.Refusals.{accepted_when}
use Rattle.laws.specs.Counting.{count}
use Rattle.laws.proofs.Sums.{sum_same}
use Rattle.bcn_format.specs.Block.{eights, put_block}
use Rattle.bc7_format.specs.Modes.{mode_of}
use Rattle.bc7_format.proofs.Modes.{mode_le_8}
use Rattle.head_rules.specs.Answers.{Head}
use Rattle.head_rules.specs.Geometry.{blocks_of, place_of}
use Rattle.head_rules.specs.Heads.{read_head}
use Rattle.opacity_rules.specs.Opacity.{opaque_in}
use Rattle.sheet_rules.specs.Calls.{WholeSheet}
use Rattle.sheet_rules.specs.Sheets.{block_by}
use Rattle.sheet_rules.proofs.OnBlocks.{put_kept, put_named, put_other}
use Rattle.count_rules.specs.Counts.{counts_below, counts_of, has_mode, is_opaque}
use Rattle.count_rules.specs.Keeping.{changed, false_refusal, of_all_modes, of_mode, recounted, recounted_as}
use Rattle.count_rules.proofs.Refusing.{falsehood}
use Rattle.count_rules.proofs.Tallies.{count_changed, count_most, count_some, count_spread, count_under}

module _ (h : Head) (s : List ℕ) where
  pub of_mode_is : (m : ℕ) → m < 9 → of_mode (counts_of h s) m ≡ count (blocks_of h) (has_mode h s m)
  unfolding counts_below
  of_mode_is m l = get_d_table 9 (λ m. count (blocks_of h) (has_mode h s m)) 0 m l

  pub of_opaque : (counts_of h s).opaque ≡ count (blocks_of h) (is_opaque h s)
  unfolding counts_below
  of_opaque = refl

  -- the nine sum to the number of blocks, and the opaque ones are at most as many
  pub of_all : of_all_modes (counts_of h s) ≡ blocks_of h
  unfolding of_all_modes has_mode
  of_all =
      sum_same 9 (of_mode (counts_of h s)) (λ m. count (blocks_of h) (has_mode h s m)) of_mode_is
      ∙ count_spread 9 (λ b. mode_of (block_by h s b)) (blocks_of h) (λ k l. omega (arith, mode_le_8 (block_by h s k)))

  pub opaque_most : (counts_of h s).opaque ≤ blocks_of h
  opaque_most = omega (arith, of_opaque, count_most (blocks_of h) (is_opaque h s))

  -- none of the four grounds of 19
  module _ (b : ℕ) (l : b < blocks_of h) where
    own_mode : of_mode (counts_of h s) (mode_of (block_by h s b)) ≢ 0
    unfolding has_mode
    own_mode z =
        count_some (blocks_of h) b (has_mode h s (mode_of (block_by h s b))) l (eq-eqb (mode_of (block_by h s b)) (mode_of (block_by h s b)) refl)
        (sym (of_mode_is (mode_of (block_by h s b)) (omega (arith, mode_le_8 (block_by h s b)))) ∙ z)

    pub true_counts : false_refusal h s b (counts_of h s) ≡ 0
    true_counts =
        (accepted_when (falsehood h s b (counts_of h s))).1 (
          of_all,
          (
            own_mode,
            (
              λ e z. count_some (blocks_of h) b (is_opaque h s) l e (sym of_opaque ∙ z),
              (λ e. omega (arith, of_opaque, count_under (blocks_of h) b (is_opaque h s) l e), tt),
            ),
          ),
        )

-- two sheets of one head that have the same blocks but one
module _ (h : Head) (s t : List ℕ) (b : ℕ) (l : b < blocks_of h) (others : (k : ℕ) → k < blocks_of h → k ≢ b → block_by h t k ≡ block_by h s k) where
  mode_recounted : (m : ℕ) → m < 9 → count (blocks_of h) (has_mode h t m) ≡ changed (has_mode h s m b) (has_mode h t m b) (of_mode (counts_of h s) m)
  unfolding has_mode
  mode_recounted m lm =
      count_changed (blocks_of h) b (has_mode h s m) (has_mode h t m) l (λ k lk ne. ap (λ (x : List ℕ). eqb (mode_of x) m) (others k lk ne))
      ∙ ap (changed (has_mode h s m b) (has_mode h t m b)) (sym (of_mode_is h s m lm))

  opaque_recounted : count (blocks_of h) (is_opaque h t) ≡ changed (is_opaque h s b) (is_opaque h t b) (counts_of h s).opaque
  unfolding is_opaque counts_below
  opaque_recounted =
      count_changed (blocks_of h) b (is_opaque h s) (is_opaque h t) l (λ k lk ne. ap (opaque_in h.width h.height k) (others k lk ne))

  pub recounted_is : (new : List ℕ) → block_by h t b ≡ new → counts_of h t ≡ recounted h s b new (counts_of h s)
  unfolding counts_below recounted_as has_mode is_opaque
  recounted_is new e =
      ap₂ (λ (ms : List ℕ) (o : ℕ). record { modes = ms; opaque = o })
      (table_same 0 9 _ _ (λ m lm. mode_recounted m lm
      ∙ ap (λ (x : List ℕ). changed (has_mode h s m b) (eqb (mode_of x) m) (of_mode (counts_of h s) m)) e))
      (opaque_recounted ∙ ap (λ (x : List ℕ). changed (is_opaque h s b) (opaque_in h.width h.height b x) (counts_of h s).opaque) e)

-- a block stored in a whole sheet
pub stored_recounted : (s : List ℕ) (z : WholeSheet s) (b : ℕ) (l : b < blocks_of (read_head s)) (new : List ℕ) → Fit eights new
    → counts_of (read_head (put_block s (place_of (read_head s) b) new)) (put_block s (place_of (read_head s) b) new)
    ≡ recounted (read_head s) s b new (counts_of (read_head s) s)
stored_recounted s z b l new f =
    let t = put_block s (place_of (read_head s) b) new in
    let e : read_head t ≡ read_head s = (put_kept s z b l new f).head in
    ap (λ (h : Head). counts_of h t) e
    ∙ recounted_is (read_head s) s t b l
    (λ k lk ne. subst (λ (h : Head). block_by h t k ≡ block_by (read_head s) s k) e (put_other s z b l new f k lk ne))
    new (subst (λ (h : Head). block_by h t b ≡ new) e (put_named s z b l new f))
