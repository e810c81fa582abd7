-- COUNTS DON'T DEPEND ON THE FORM: a sheet that was moved counts the same; and counting in stored order, whatever it is, counts the same.
-- Assumes nothing.
use mathlib.Core.Path.{◌≡◌, sym, ap, ap₂, ◌∙◌}
use mathlib.Core.Bool.{Bool}
use mathlib.Core.List.{List}
use Prim.Native.Nat.{ℕ, ◌*◌, ◌<◌}
use lib.Dec.{eqb}
use lib.ListN.{length}
use Rattle.laws.specs.Tables.{pick, table}
use Rattle.laws.proofs.Joining.{table_same}
use Rattle.laws.proofs.Refusals.{accepted_when}
use Rattle.laws.specs.Counting.{count}
use Rattle.laws.proofs.Counting.{count_same}
use Rattle.bc7_format.specs.Modes.{mode_of}
use Rattle.head_rules.specs.declared.Form.{Form}
use Rattle.head_rules.specs.Answers.{Head}
use Rattle.head_rules.specs.Geometry.{across, blocks_of, number_at, whole_length}
use Rattle.head_rules.specs.Heads.{read_head}
use Rattle.head_rules.specs.Numbers.{Bytes}
use Rattle.head_rules.proofs.Orders.{counted_stored}
use Rattle.move_rules.specs.Moving.{head_in_form, move_after, move_refusal}
use Rattle.move_rules.proofs.Moving.{movable}
use Rattle.move_rules.proofs.Theorems.{head_there, same_block, whole_there}
use Rattle.opacity_rules.specs.Opacity.{opaque_in}
use Rattle.head_rules.proofs.Whole.{whole_handed}
use Rattle.sheet_rules.specs.Sheets.{block_by}
use Rattle.count_rules.specs.Counts.{counted, counted_of, counts_below, counts_of, has_mode, is_opaque, no_counts}

as_many_blocks : (g h : Head) → g.width ≡ h.width → g.height ≡ h.height → blocks_of g ≡ blocks_of h
unfolding blocks_of
as_many_blocks g h w e = ap₂ (λ (x y : ℕ). across y * across x) w e

-- two sheets of one size that have the same blocks by number
pub same_blocks_same_counts : (g h : Head) (t s : List ℕ) → g.width ≡ h.width → g.height ≡ h.height
    → ((b : ℕ) → b < blocks_of h → block_by g t b ≡ block_by h s b) → counts_of g t ≡ counts_of h s
unfolding counts_below has_mode is_opaque
same_blocks_same_counts g h t s w e same =
    ap₂ (λ (ms : List ℕ) (o : ℕ). record { modes = ms; opaque = o })
    (table_same 0 9 _ _ (λ m lm. as_many (has_mode g t m) (has_mode h s m) (λ b l. ap (λ (x : List ℕ). eqb (mode_of x) m) (same b l))))
    (as_many (is_opaque g t) (is_opaque h s) (λ b l.
    ap₂ (λ (x y : ℕ). opaque_in x y b (block_by g t b)) w e ∙ ap (opaque_in h.width h.height b) (same b l)))
  where
    as_many : (f k : ℕ → Bool) → ((b : ℕ) → b < blocks_of h → f b ≡ k b) → count (blocks_of g) f ≡ count (blocks_of h) k
    as_many f k q = ap (λ (n : ℕ). count n f) (as_many_blocks g h w e) ∙ count_same (blocks_of h) f k q

-- what counting answers of a sheet with all its blocks
pub counted_whole_is : (s : List ℕ) → (read_head s).refusal ≡ 0 → length s ≡ whole_length (read_head s)
    → counted_of (read_head s) s ≡ counted 0 (counts_of (read_head s) s)
unfolding counted_of
counted_whole_is s told long =
    ap (λ (r : ℕ). counted r (pick (eqb r 0) (counts_of (read_head s) s) no_counts)) ((accepted_when (whole_handed (read_head s) s)).1 (told, (long, tt)))

-- a move, to either form: counting answers the same afterwards
pub moved_counts : (f : Form) (s out : List ℕ) → Bytes s → move_refusal f s (length out) ≡ 0
    → counted_of (read_head (move_after f s out)) (move_after f s out) ≡ counted_of (read_head s) s
moved_counts f s out y e =
    let m = movable f s (length out) e in
    let t = move_after f s out in
    let z = whole_there f s out y e in
    let q : read_head t ≡ head_in_form f (read_head s) = head_there f s out y e in
    counted_whole_is t z.told z.long
    ∙ ap (counted 0)
    (same_blocks_same_counts (read_head t) (read_head s) t s (ap (λ (h : Head). h.width) q) (ap (λ (h : Head). h.height) q) (same_block f s out y e))
    ∙ sym (counted_whole_is s m.told m.long)

-- counted place by place, as the blocks are stored, or number by number
pub stored_order_counts : (h : Head) (s : List ℕ) → 0 < blocks_of h → counts_of h s ≡ record {
  modes = table 9 (λ m. count (blocks_of h) (λ p. has_mode h s m (number_at h p)));
  opaque = count (blocks_of h) (λ p. is_opaque h s (number_at h p));
}
unfolding counts_below
stored_order_counts h s some =
    ap₂ (λ (ms : List ℕ) (o : ℕ). record { modes = ms; opaque = o })
    (table_same 0 9 _ _ (λ m lm. sym (counted_stored h some (has_mode h s m)))) (sym (counted_stored h some (is_opaque h s)))
