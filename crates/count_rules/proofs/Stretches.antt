-- DEMAND 3 BETWEEN WHOLE-BLOCK REPLACEMENTS: from one of a block to the next, the line replacements that name the block decide what it is.
-- Assumes nothing.
use mathlib.Core.Path.{◌≡◌, refl, ap, ◌∙◌}
use mathlib.Core.Bool.{true, false}
use mathlib.Core.List.{List, [], ◌∷◌, ◌++◌}
use Prim.Native.Nat.{ℕ, ◌<◌}
use native.Mathlib.Decide.{ℕ_discrete}
use borrow.Author.Tests.{eq-eqb, ne_eqb}
use lib.Dec.{T}
use Rattle.laws.specs.Calls as calls
use Rattle.laws.specs.Calls.{All, more}
use Rattle.laws.specs.Digits.{Fit}
use Rattle.bcn_format.specs.Block.{eights}
use Rattle.bcn_format.specs.Partitions.{among}
use Rattle.bc7_format.specs.Lines.{draws, pixel}
use Rattle.bc7_format.specs.Modes.{lines, mode_of}
use Rattle.bc7_format.specs.Splits.{split_of}
use Rattle.head_rules.specs.Geometry.{blocks_of}
use Rattle.head_rules.specs.Heads.{read_head}
use Rattle.line_rules.specs.Calls.{after_all, last, last_of_each, seen}
use Rattle.line_rules.specs.Replace.{Call, after, call_of, replaced}
use Rattle.line_rules.proofs.Blocks.{after_mode, after_sixteen, after_split}
use Rattle.line_rules.proofs.Theorems.{last_call_is_seen, last_calls_decide, others_keep}
use Rattle.sheet_rules.specs.Sheets.{block_in}
use Rattle.sheet_rules.proofs.OnBlocks.{all_block, same_here, sixteen, with_named}
use Rattle.count_rules.specs.Calls.{Edit, IsLine, Kept, KeptCall, NotWhole, kept_with, kept_with_all, line, line_in, lines_on, whole}
use Rattle.count_rules.proofs.Plain.{Truly, act, acting, done, named, plain_with, stepped_truly, truly_on}

-- with true counts the sheet is that of the same calls without counts
all_plain : {s : List ℕ} (cs : List KeptCall) (k : Kept) → Truly s k → (kept_with_all k cs).0 ≡ calls.run plain_with k.0 cs
unfolding calls.run
all_plain [] k u = refl
all_plain (c ∷ cs) k u =
    all_plain cs (kept_with k c) (truly_on k u c) ∙ ap (λ (p : Kept). calls.run plain_with p.0 cs) (stepped_truly k u c)

-- calls on a block, none of which replaces it whole, are calls on its lines
by_line : (e : Edit) → IsLine e → (bs : List ℕ) (es : List Edit) (ls : List Call) → ((bs : List ℕ) → calls.run act bs es ≡ after_all bs ls)
    → calls.run act bs (e ∷ es) ≡ after_all bs (line_in e ++ ls)
unfolding calls.run replaced
by_line (line l g) so bs es ls rest = rest (after bs (call_of l g))
by_line (whole new f) so bs es ls rest = absurd so

module _ (b : ℕ) where
  lines_run : (cs : List KeptCall) → All (NotWhole b) cs → (bs : List ℕ)
      → calls.run act bs (calls.calls_on named done b cs) ≡ after_all bs (lines_on b cs)
  unfolding calls.run calls.calls_on lines_on
  lines_run [] h bs = refl
  lines_run (c ∷ cs) (more n h) bs = go (ℕ_discrete c.block b) (λ x. lines_run cs h x)
    where
      go : Dec (c.block ≡ b) → ((x : List ℕ) → calls.run act x (calls.calls_on named done b cs) ≡ after_all x (lines_on b cs))
          → calls.run act bs (calls.calls_on named done b (c ∷ cs)) ≡ after_all bs (lines_on b (c ∷ cs))
      go (yes e) rest = rw (eq-eqb c.block b e) (by_line c.edit (n e) bs (calls.calls_on named done b cs) (lines_on b cs) rest)
      go (no ne) rest = rw (ne_eqb c.block b ne) (rest bs)

-- what no line draws stays, through any calls on lines of a block
undrawn_all : (q ch : ℕ) (cs : List Call) (bs : List ℕ) → Fit eights bs → ((l : ℕ) → draws (mode_of bs) (split_of bs) l q ch ≡ false)
    → pixel (after_all bs cs) q ch ≡ pixel bs q ch
unfolding calls.run
undrawn_all q ch [] bs f n = refl
undrawn_all q ch (c ∷ cs) bs f n =
    undrawn_all q ch cs (after bs c) (after_sixteen bs f c) (λ l. rw (after_mode bs f c, after_split bs f c) (n l))
    ∙ (others_keep bs f c).channels q ch (n c.line)

-- A STRETCH: `now` is what calls on lines, one after another, make of a block; so it is what the last accepted call of each line makes of it, and
-- every channel that a line draws shows what that line's last accepted call says, or what the block showed at first
pub record Stretch (before : List ℕ) (cs : List Call) (now : List ℕ) : Type 0 where
  pub calls : now ≡ after_all before cs
  pub last_calls : (ls : List ℕ) → ((l : ℕ) → l < lines (mode_of before) → T (among l ls))
      → now ≡ after_all before (last_of_each (mode_of before) (split_of before) ls cs)
  pub drawn : (l q ch : ℕ) → q < 16 → ch < 4 → draws (mode_of before) (split_of before) l q ch ≡ true
      → pixel now q ch ≡ seen (mode_of before) (split_of before) l q ch (pixel before q ch) (last (mode_of before) (split_of before) l cs)
  pub undrawn : (q ch : ℕ) → ((l : ℕ) → draws (mode_of before) (split_of before) l q ch ≡ false) → pixel now q ch ≡ pixel before q ch

stretch : (bs : List ℕ) → Fit eights bs → (cs : List Call) (now : List ℕ) → now ≡ after_all bs cs → Stretch bs cs now
stretch bs f cs now e = record {
  calls = e;
  last_calls = λ ls all. e ∙ last_calls_decide bs f cs ls all;
  drawn = λ l q ch hq hc d. ap (λ (x : List ℕ). pixel x q ch) e ∙ last_call_is_seen bs f cs l q ch hq hc d;
  undrawn = λ q ch n. ap (λ (x : List ℕ). pixel x q ch) e ∙ undrawn_all q ch cs bs f n;
}

module _ (k : Kept) (u : Truly k.0 k) (b : ℕ) (l : b < blocks_of (read_head k.0)) where
  -- from the sheet on, up to the first whole-block replacement of the block
  pub before_whole : (cs : List KeptCall) → All (NotWhole b) cs → Stretch (block_in k.0 b) (lines_on b cs) (block_in (kept_with_all k cs).0 b)
  before_whole cs h =
      stretch (block_in k.0 b) (sixteen k.0 u.0.whole b l) (lines_on b cs) (block_in (kept_with_all k cs).0 b)
      (ap (λ (t : List ℕ). block_in t b) (all_plain cs k u) ∙ all_block acting cs k.0 u.0.whole b l ∙ lines_run b cs h (block_in k.0 b))

-- and from a whole-block replacement of it on, up to the next, or to the last call
pub since_whole : (k : Kept) → Truly k.0 k → (b : ℕ) → b < blocks_of (read_head k.0) → (new : List ℕ) (f : Fit eights new) (cs : List KeptCall)
    → All (NotWhole b) cs
    → Stretch new (lines_on b cs) (block_in (kept_with_all k (record { block = b; edit = whole new f } ∷ cs)).0 b)
unfolding calls.run
since_whole k u b l new f cs h =
    let c : KeptCall = record { block = b; edit = whole new f } in
    let v = truly_on k u c in
    let is : block_in (kept_with k c).0 b ≡ new
    = ap (λ (p : Kept). block_in p.0 b) (stepped_truly k u c) ∙ with_named acting k.0 u.0.whole c b l refl in
    let z = before_whole (kept_with k c) (same_here v.0.whole, v.1) b (rw v.0.head l) cs h in
    stretch new f (lines_on b cs) (block_in (kept_with_all k (c ∷ cs)).0 b) (z.calls ∙ ap (λ (x : List ℕ). after_all x (lines_on b cs)) is)
