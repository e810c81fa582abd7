-- The ways of counting: the head of a whole sheet, and one block after another.
-- Assumes nothing.
use mathlib.Core.Path.{◌≡◌, refl, sym, ap, ap₂, ◌∙◌}
use mathlib.Core.Logic.{◌≢◌}
use mathlib.Core.Bool.{Bool, true, false}
use mir.Val.{bool_byte}
use mathlib.Core.List.{List}
use Prim.Native.Nat.{ℕ, ◌+◌, ◌<◌, ◌≤◌}
use native.Mathlib.Omega.{arith}
use borrow.Author.Tests.{ne_eqb}
use lib.Dec.{eqb}
use lib.ListN.{get_or, set}
use Rattle.laws.specs.Counting.{count}
use Rattle.laws.specs.Tables.{pick, table, table_from}
use Rattle.laws.proofs.Part.{get_d_table}
use Rattle.bc7_format.specs.Modes.{mode_of}
use Rattle.bc7_format.proofs.Modes.{mode_le_8}
use Rattle.head_rules.specs.Answers.{Head}
use Rattle.head_rules.specs.Geometry.{blocks_of, most_blocks}
use Rattle.head_rules.specs.Heads.{Sized, read_head}
use Rattle.head_rules.proofs.Blocks.{few_blocks}
use Rattle.head_rules.proofs.Theorems.{head_sized}
use Rattle.opacity_rules.specs.Opacity.{opaque_in}
use Rattle.head_rules.specs.Whole.{whole_head, whole_refusal}
use Rattle.head_rules.proofs.Whole.{whole_handed, whole_number, whole_told}
use Rattle.sheet_rules.specs.Sheets.{block_by}
use Rattle.count_rules.specs.declared.Counts.{Counts}
use Rattle.count_rules.specs.Counts.{counted, counted_of, counts_below, counts_of, has_mode, is_opaque, no_counts}
use Rattle.count_rules.proofs.Tallies.{count_most, one}
use Rattle.count_rules.proofs.Ways.{counted_next, opaque_next}
use Rattle.counts.specs.Blocks.{CountedBelow, ReadsWhole, WholeBlocks}

-- the head of a whole sheet
pub reads_whole : (s : List ℕ) {x : Head} → x ≡ whole_head (read_head s) s → ReadsWhole s x
reads_whole s ex = record { refusal = whole_number (read_head s) s ex; same = λ z. (whole_told (read_head s) s ex z).1 }

-- what it says of the sheet
module _ (s : List ℕ) {h : Head} (w : ReadsWhole s h) where
  pub not_counted : h.refusal ≢ 0 → counted h.refusal no_counts ≡ counted_of (read_head s) s
  unfolding counted_of
  not_counted ne =
      ap (λ (r : ℕ). counted r no_counts) w.refusal
      ∙ sym (ap (λ (t : Bool). counted (whole_refusal (read_head s) s) (pick t (counts_of (read_head s) s) no_counts))
      (ne_eqb (whole_refusal (read_head s) s) 0 (λ z. ne (w.refusal ∙ z))))

  module _ (a : h.refusal ≡ 0) where
    accepted_whole : whole_refusal (read_head s) s ≡ 0
    accepted_whole = sym w.refusal ∙ a

    pub whole_blocks : WholeBlocks h s
    whole_blocks =
        let (told, (long, u)) = (whole_handed (read_head s) s).met accepted_whole in
        rw (w.same a) (record { sized = head_sized s told; whole = long })

    pub all_counted : {n : Counts} → n ≡ counts_of h s → counted 0 n ≡ counted_of (read_head s) s
    unfolding counted_of
    all_counted {n} e =
        ap (counted 0) (e ∙ ap (λ (x : Head). counts_of x s) (w.same a))
        ∙ sym (ap (λ (r : ℕ). counted r (pick (eqb r 0) (counts_of (read_head s) s) no_counts)) accepted_whole)

-- one where it is, and none where it isn't
pub one_is : (b : Bool) → bool_byte b ≡ one b
one_is true = refl
one_is false = refl

pub byte_small : (b : Bool) → bool_byte b ≤ 1
byte_small true = omega arith
byte_small false = omega arith

few_in : (h : Head) → Sized h.width h.height → blocks_of h ≤ most_blocks
unfolding blocks_of
few_in h z = few_blocks z

-- no block is counted yet
pub none_counted : (h : Head) (s : List ℕ) → no_counts ≡ counts_below h s 0
unfolding counts_below count table table_from
none_counted h s = refl

-- all blocks are
pub all_below : (h : Head) (s : List ℕ) {n : Counts} {b : ℕ} → n ≡ counts_below h s b → b ≡ blocks_of h → n ≡ counts_of h s
all_below h s e eb = e ∙ ap (counts_below h s) eb

-- one block more
module _ {h : Head} {s : List ℕ} {b : ℕ} {n : Counts} (k : CountedBelow h s b n) where
  modes_are : n.modes ≡ table 9 (λ m. count b (has_mode h s m))
  unfolding counts_below
  modes_are = ap (λ (x : Counts). x.modes) k.so_far

  opaque_is : n.opaque ≡ count b (is_opaque h s)
  unfolding counts_below
  opaque_is = ap (λ (x : Counts). x.opaque) k.so_far

  below_most : b < most_blocks
  below_most = omega (arith, k.there, few_in h k.all.sized)

  pub mode_small : (v : ℕ) → v < 9 → get_or n.modes v 0 < most_blocks
  mode_small v l =
      let e : get_or n.modes v 0 ≡ count b (has_mode h s v)
      = ap (λ (x : List ℕ). get_or x v 0) modes_are ∙ get_d_table 9 (λ m. count b (has_mode h s m)) 0 v l in
      omega (arith, e, count_most b (has_mode h s v), below_most)

  pub opaque_small : n.opaque < most_blocks
  opaque_small = omega (arith, opaque_is, count_most b (is_opaque h s), below_most)

  pub opaque_as : {block : List ℕ} {t : Bool} → block ≡ block_by h s b → t ≡ opaque_in h.width h.height b block → t ≡ is_opaque h s b
  unfolding is_opaque
  opaque_as eb et = et ∙ ap (opaque_in h.width h.height b) eb

  pub one_more : {v o : ℕ} {t : Bool} → v ≡ mode_of (block_by h s b) → t ≡ is_opaque h s b → o ≡ bool_byte t
      → record { modes = set n.modes v (get_or n.modes v 0 + 1); opaque = n.opaque + o } ≡ counts_below h s (b + 1)
  unfolding counts_below
  one_more {v} {o} {t} ev et eo =
      ap₂ (λ (ms : List ℕ) (x : ℕ). record { modes = ms; opaque = x }) (counted_next h s b n.modes modes_are v ev)
      (ap₂ (λ (x y : ℕ). x + y) opaque_is (eo ∙ one_is t ∙ ap one et) ∙ sym (opaque_next h s b))

pub mode_in_is : (block : List ℕ) {v : ℕ} → v ≡ mode_of block → v < 9
mode_in_is block e = omega (arith, e, mode_le_8 block)
