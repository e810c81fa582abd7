-- M-109, COUNTS KEPT BESIDE THE SHEET: what is proved, in one place. `Bytes s` says that s is a list of bytes, which each slice of the code is;
-- `WholeSheet s` that it has a head and all its blocks; `Fit eights bs` that bs is sixteen bytes.
-- Assumes nothing.
use mathlib.Core.Path.{◌≡◌, refl, sym, ap, ap₂, ◌∙◌, subst}
use mathlib.Core.Logic.{◌≢◌, ◌↔◌, ◌⊎◌, inl, inr, ⊎_elim}
use mathlib.Core.Bool.{Bool, true, false, not}
use mathlib.Core.List.{List, [], ◌∷◌, map}
use Prim.Native.Nat.{ℕ, ◌+◌, ◌*◌, ◌/◌, ◌%◌, ◌<◌, ◌≤◌}
use native.Mathlib.Decide.{ℕ_discrete}
use native.Mathlib.Omega.{arith}
use lib.Dec.{eqb, eqb→eq, lit<, ltb}
use lib.ListN.{length, get_or}
use Rattle.laws.specs.Calls.{All, more, none as no_more, run, told}
use Rattle.laws.specs.Digits.{Fit}
use Rattle.laws.specs.Refusals.{Given, accepted, first, here, refuse, then}
use Rattle.laws.specs.Tables.{both}
use Rattle.laws.proofs.Cases.{lt_or}
use Rattle.laws.proofs.First.{first_here, first_last, first_skip, first_zero_is}
use Rattle.laws.proofs.Refusals.{exactly}
use Rattle.laws.proofs.Tests.{eqb_of, no_both, same_test}
use Rattle.laws.specs.Counting.{count}
use Rattle.laws.proofs.Counting.{count_same}
use Rattle.bcn_format.specs.Block.{eights, put_block}
use Rattle.bc7_format.specs.Lines.{pixel}
use Rattle.bc7_format.specs.Modes.{lines, mode_of}
use Rattle.bc7_format.specs.Splits.{split_of}
use Rattle.bc7_format.proofs.Reserved.{reserved_mode, zero_byte}
use Rattle.head_rules.specs.Answers.{Head}
use Rattle.head_rules.specs.Geometry.{across, blocks_of, most_blocks, place_of}
use Rattle.head_rules.specs.Heads.{Sized, read_head}
use Rattle.head_rules.specs.Numbers.{Bytes}
use Rattle.head_rules.proofs.Blocks.{few_blocks}
use Rattle.head_rules.proofs.Theorems.{head_sized}
use Rattle.line_rules.specs.declared.Replacement.{Replacement}
use Rattle.line_rules.specs.Replace.{line_fits, line_given, refusal, refusal_in, replaced}
use Rattle.head_rules.proofs.Whole.{whole_handed}
use Rattle.sheet_rules.specs.Calls.{SheetCall, WholeSheet, refusal_on, sheet_with, sheet_with_all}
use Rattle.sheet_rules.specs.Pictures.{all_blocks, picture, pixel_in}
use Rattle.sheet_rules.specs.Sheets.{block_by, block_in, find_refusal, replaced_in, sheet_after, sheet_refusal}
use Rattle.sheet_rules.proofs.OnBlocks.{answered_as_block, beyond, put_kept, put_named, put_other, same_here, sixteen}
use Rattle.sheet_rules.proofs.Finding.{inside}
use Rattle.sheet_rules.proofs.Pictures.{picture_shows_block}
use Rattle.bcn_format.proofs.Storing.{put_long, put_outside}
use Rattle.count_rules.specs.declared.Counts.{Counts}
use Rattle.std.specs.Prelude.{Result, Ok, Err}
use Rattle.refusals.specs.declared.Refusal.{Refusal}
use Rattle.refusals.proofs.Answers.{number_injective, number_not_0}
use Rattle.count_rules.specs.Counts.{Counted, counts_answered, no_counts}
use Rattle.count_rules.specs.Calls.{Edit, Kept, KeptCall, NotWhole, TrueCounts, answer_on, answers_on, kept_with, kept_with_all, line}
use Rattle.count_rules.specs.Calls.{lines_on, made, whole, with_counts}
use Rattle.count_rules.specs.Counts.{CountsSheet, count_rules, counted, counted_of, counts_of, has_mode, is_opaque}
use Rattle.count_rules.specs.Keeping.{False, ReplacesBlockCounted, ReplacesLineCounted, all_opaque, block_made, false_refusal, false_rules}
use Rattle.count_rules.specs.Keeping.{kept_refusal, kept_rules, kept_sheet, line_rules, none_of_its_mode, none_opaque}
use Rattle.count_rules.specs.Keeping.{of_all_modes, of_mode, sum_differs}
use Rattle.count_rules.proofs.Fitting.{Accounted, accounted, of_all_has}
use Rattle.count_rules.proofs.Forms.{counted_whole_is}
use Rattle.count_rules.proofs.Plain.{Truly, acting, all_truly, answered_truly, counts_left, counts_taken, plain_refusal, plain_with, sheet_left}
use Rattle.count_rules.proofs.Plain.{sheet_taken, stepped_truly, tell, truly_on}
use Rattle.count_rules.proofs.Refusing.{block_words, counting, falsehood, line_words}
use Rattle.count_rules.proofs.Stretches.{Stretch, before_whole, since_whole}
use Rattle.count_rules.proofs.Taking.{of_all, of_mode_is, opaque_most}

-- EACH REFUSAL NUMBER exactly when the request says: `count_rules`, `line_rules` and `kept_rules` have the words
pub count_refused_when : (s : List ℕ) (r : ℕ) → ((counted_of (read_head s) s).refusal ≡ r) ↔ Given (count_rules s) r
unfolding counted_of
count_refused_when s = exactly (counting s)

pub line_counted_refused_when : (s : List ℕ) → Bytes s → (n : Counts) (b l : ℕ) (new : Replacement) (r : ℕ)
    → (kept_refusal (read_head s) s n b (replaced_in (read_head s) s b l new) ≡ r) ↔ Given (line_rules s n b l new) r
line_counted_refused_when s y n b l new = exactly (line_words s n b y l new)

pub block_counted_refused_when : (s : List ℕ) (n : Counts) (b : ℕ) (new : List ℕ) (r : ℕ)
    → (kept_refusal (read_head s) s n b (block_made new) ≡ r) ↔ Given (kept_rules s n b) r
block_counted_refused_when s n b new = exactly (block_words s n b new)

-- 19 is given on its four grounds, on each of them, and on no other
module _ (h : Head) (s : List ℕ) (b : ℕ) (n : Counts) where
  zero_or_nineteen : {r : ℕ} → Given (false_rules h s b n) r → (r ≡ 0) ⊎ (r ≡ 19)
  zero_or_nineteen (here x) = inr refl
  zero_or_nineteen (then p (here x)) = inr refl
  zero_or_nineteen (then p (then q (here x))) = inr refl
  zero_or_nineteen (then p (then q (then t (here x)))) = inr refl
  zero_or_nineteen (then p (then q (then t (then u accepted)))) = inl refl

  not_zero : ((of_mode n (mode_of (block_by h s b)) ≢ 0) → ⊥) → of_mode n (mode_of (block_by h s b)) ≡ 0
  not_zero x = go (ℕ_discrete (of_mode n (mode_of (block_by h s b))) 0)
    where
      go : Dec (of_mode n (mode_of (block_by h s b)) ≡ 0) → of_mode n (mode_of (block_by h s b)) ≡ 0
      go (yes e) = e
      go (no ne) = absurd (x ne)

  third : ((is_opaque h s b ≡ true → n.opaque ≢ 0) → ⊥) → False h s b n
  third x = go (is_opaque h s b) refl (ℕ_discrete n.opaque 0)
    where
      go : (t : Bool) → is_opaque h s b ≡ t → Dec (n.opaque ≡ 0) → False h s b n
      go true e (yes z) = none_opaque e z
      go true e (no ne) = absurd (x (λ q. ne))
      go false e d = absurd (x (λ q. absurd (no_both q e)))

  fourth : ((is_opaque h s b ≡ false → n.opaque < blocks_of h) → ⊥) → False h s b n
  fourth x = go (is_opaque h s b) refl (lt_or n.opaque (blocks_of h))
    where
      go : (t : Bool) → is_opaque h s b ≡ t → (n.opaque < blocks_of h) ⊎ (blocks_of h ≤ n.opaque) → False h s b n
      go true e d = absurd (x (λ q. absurd (no_both e q)))
      go false e (inl l) = absurd (x (λ q. l))
      go false e (inr l) = all_opaque e l

  ground : {r : ℕ} → Given (false_rules h s b n) r → r ≡ 19 → False h s b n
  ground (here x) e = sum_differs x
  ground (then p (here x)) e = none_of_its_mode (not_zero x)
  ground (then p (then q (here x))) e = third x
  ground (then p (then q (then t (here x)))) e = fourth x
  ground (then p (then q (then t (then u accepted)))) e = absurd (let z : ⊥ = omega arith in z)

  no_ground : False h s b n → false_refusal h s b n ≢ 0
  no_ground (sum_differs ne) z = ne ((falsehood h s b n).met z).0
  no_ground (none_of_its_mode e) z = ((falsehood h s b n).met z).1.0 e
  no_ground (none_opaque e o) z = ((falsehood h s b n).met z).1.1.0 e o
  no_ground (all_opaque e l) z = let q = ((falsehood h s b n).met z).1.1.1.0 e in omega arith

  pub false_when : (false_refusal h s b n ≡ 19) ↔ False h s b n
  false_when = (
    λ e. ground (falsehood h s b n).given e,
    λ f. ⊎_elim (λ z. absurd (no_ground f z)) (λ e. e) (zero_or_nineteen (falsehood h s b n).given),
  )

-- the block's own number is 4 at most
own_small : (bs : List ℕ) (e : Edit) → tell bs e ≤ 4
unfolding replaced refusal refusal_in first
own_small bs (line l g) =
    let ln = line_given g in
    go (eqb (mode_of bs) 8) (not (ltb l (lines (mode_of bs)))) (not (line_fits (mode_of bs) (split_of bs) l ln))
    (both (eqb (mode_of bs) 1) (not (eqb (ln.p 0) (ln.p 1))))
  where
    go : (a b c d : Bool) → first (refuse 1 a ∷ refuse 2 b ∷ refuse 3 c ∷ refuse 4 d ∷ []) ≤ 4
    go true b c d = omega arith
    go false true c d = omega arith
    go false false true d = omega arith
    go false false false true = omega arith
    go false false false false = omega arith
own_small bs (whole new f) = omega arith

-- so where the block is found, a call of either kind is refused with 19 exactly when the counts are false of it
pub nineteen_when : (s : List ℕ) (n : Counts) (c : KeptCall) → find_refusal (read_head s) s c.block ≡ 0
    → (answer_on (s, n) c ≡ 19) ↔ False (read_head s) s c.block n
unfolding kept_refusal
nineteen_when s n c found = (
  λ e. (false_when (read_head s) s c.block n).0 (⊎_elim (λ z. absurd (not_own z e)) (λ q. q) either),
  λ f. let q = (false_when (read_head s) s c.block n).1 f in
      first_skip (find_refusal (read_head s) s c.block) _ found
      ∙ first_here (false_refusal (read_head s) s c.block n) _ (λ z. let y : ⊥ = omega arith in y) ∙ q,
)
  where
    either : (false_refusal (read_head s) s c.block n ≡ 0) ⊎ (false_refusal (read_head s) s c.block n ≡ 19)
    either = zero_or_nineteen (read_head s) s c.block n (falsehood (read_head s) s c.block n).given

    not_own : false_refusal (read_head s) s c.block n ≡ 0 → answer_on (s, n) c ≢ 19
    not_own z e =
        let own = tell (block_in s c.block) c.edit in
        let is : answer_on (s, n) c ≡ own = first_skip (find_refusal (read_head s) s c.block) _ found
        ∙ first_skip (false_refusal (read_head s) s c.block n) _ z
        ∙ first_last own in
        omega (arith, is, e, own_small (block_in s c.block) c.edit)

-- A REFUSED CALL of either kind hands back the counts it got, and leaves every byte
pub refused_hands_back : (k : Kept) (c : KeptCall) → answer_on k c ≢ 0 → kept_with k c ≡ k
refused_hands_back k c ne =
    let m = made (block_in k.0 c.block) c.edit in
    ap₂ (λ (t : List ℕ) (n : Counts). (t, n)) (sheet_left k.0 k.1 c.block m ne) (counts_left k.0 k.1 c.block m ne)

-- A WHOLE BLOCK: once accepted, the sixteen bytes are the named block, and no other byte has changed; so head and other blocks stay, and the
-- picture shows what the sixteen bytes draw wherever it shows the block: in its columns and rows
pub record BlockPut (s : List ℕ) (b : ℕ) (new t : List ℕ) : Type 0 where
  pub named : block_in t b ≡ new
  pub others : (k : ℕ) → ((place_of (read_head s) b ≤ k) × (k < place_of (read_head s) b + 16) → ⊥) → get_or t k 0 ≡ get_or s k 0
  pub long : length t ≡ length s
  pub head : read_head t ≡ read_head s
  pub other_blocks : (a : ℕ) → a < blocks_of (read_head s) → a ≢ b → block_in t a ≡ block_in s a
  pub whole : WholeSheet t
  pub shown : (x y c : ℕ) → x < (read_head t).width → y < (read_head t).height → c < 4 → x / 4 ≡ b % across (read_head t).width
      → y / 4 ≡ b / across (read_head t).width
      → get_or (picture (read_head t).width (read_head t).height (all_blocks t)) (y * (4 * (read_head t).width) + (4 * x + c)) 0
      ≡ pixel new (pixel_in x y) c

-- a sheet of which a block was found is whole
pub found_whole : (s : List ℕ) → Bytes s → (b : ℕ) → find_refusal (read_head s) s b ≡ 0 → WholeSheet s × (b < blocks_of (read_head s))
found_whole s y b e = let i = inside s b e in (record { bytes = y; told = i.head_told_is; long = i.whole }, i.number)

pub block_is_the_given : (s : List ℕ) → Bytes s → (n : Counts) (b : ℕ) (new : List ℕ) → Fit eights new
    → kept_refusal (read_head s) s n b (block_made new) ≡ 0 → BlockPut s b new (kept_sheet (read_head s) s n b (block_made new))
unfolding kept_refusal
block_is_the_given s y n b new f e =
    let (z, l) = found_whole s y b (first_zero_is (find_refusal (read_head s) s b) _ e).0 in
    let k = put_kept s z b l new f in
    let t = put_block s (place_of (read_head s) b) new in
    subst (BlockPut s b new) (sym (sheet_taken s n b (block_made new) e)) (record {
      named = put_named s z b l new f;
      others = put_outside s (place_of (read_head s) b) new;
      long = put_long s (place_of (read_head s) b) new;
      head = k.head;
      other_blocks = put_other s z b l new f;
      whole = k.whole;
      shown = λ x y c lx ly lc column row.
          picture_shows_block t k.whole b x y (rw k.head l) column row (read_head t).height c lx ly lc
          ∙ ap (λ (bs : List ℕ). pixel bs (pixel_in x y) c) (put_named s z b l new f);
    })

-- WITH TRUE COUNTS a line replacement is answered as the one without counts, and leaves the same bytes
counted_whole : (s : List ℕ) → Bytes s → (counted_of (read_head s) s).refusal ≡ 0 → WholeSheet s
unfolding counted_of
counted_whole s y e = let (h, (l, u)) = (whole_handed (read_head s) s).met e in record { bytes = y; told = h; long = l }

pub counted_is : (s : List ℕ) → WholeSheet s → counted_of (read_head s) s ≡ counted 0 (counts_of (read_head s) s)
counted_is s z = counted_whole_is s z.told z.long

-- true counts are those of a whole sheet
pub true_are : (k : Kept) → Bytes k.0 → TrueCounts k → WholeSheet k.0 × (k.1 ≡ counts_of (read_head k.0) k.0)
true_are k y t =
    let z = counted_whole k.0 y (ap (λ (a : Counted). a.refusal) t) in
    (z, sym (ap (λ (a : Counted). a.counts) t) ∙ ap (λ (a : Counted). a.counts) (counted_is k.0 z))

pub plain_line_answer : (s : List ℕ) (c : SheetCall) → plain_refusal s (with_counts c) ≡ refusal_on s c
unfolding plain_refusal sheet_refusal replaced_in
plain_line_answer s c = refl

pub plain_line_is : (s : List ℕ) (c : SheetCall) → plain_with s (with_counts c) ≡ sheet_with s c
unfolding plain_with plain_refusal sheet_after sheet_refusal replaced_in
plain_line_is s c = refl

pub truly : (k : Kept) → Bytes k.0 → TrueCounts k → Truly k.0 k
truly k y t = let (z, e) = true_are k y t in (same_here z, e)

pub line_as_without_counts : (k : Kept) → Bytes k.0 → TrueCounts k → (c : SheetCall)
    → (answer_on k (with_counts c) ≡ refusal_on k.0 c) × ((kept_with k (with_counts c)).0 ≡ sheet_with k.0 c)
line_as_without_counts k y t c =
    let u = truly k y t in (
      answered_truly k u (with_counts c) ∙ plain_line_answer k.0 c,
      ap (λ (p : Kept). p.0) (stepped_truly k u (with_counts c)) ∙ plain_line_is k.0 c,
    )

-- and so does a list of them
lines_plain : {s : List ℕ} (cs : List SheetCall) (k : Kept) → Truly s k
    → (answers_on k (map with_counts cs) ≡ told sheet_with refusal_on k.0 cs) × ((kept_with_all k (map with_counts cs)).0 ≡ sheet_with_all k.0 cs)
unfolding run told
lines_plain [] k u = (refl, refl)
lines_plain (c ∷ cs) k u =
    let e : (kept_with k (with_counts c)).0 ≡ sheet_with k.0 c = ap (λ (p : Kept). p.0) (stepped_truly k u (with_counts c)) ∙ plain_line_is k.0 c in
    let r = lines_plain cs (kept_with k (with_counts c)) (truly_on k u (with_counts c)) in (
      ap₂ {C = List ℕ} ◌∷◌ (answered_truly k u (with_counts c) ∙ plain_line_answer k.0 c)
          (r.0 ∙ ap (λ (s : List ℕ). told sheet_with refusal_on s cs) e),
      r.1 ∙ ap (λ (s : List ℕ). sheet_with_all s cs) e,
    )

pub lines_as_without_counts : (k : Kept) → Bytes k.0 → TrueCounts k → (cs : List SheetCall)
    → (answers_on k (map with_counts cs) ≡ told sheet_with refusal_on k.0 cs) × ((kept_with_all k (map with_counts cs)).0 ≡ sheet_with_all k.0 cs)
lines_as_without_counts k y t cs = lines_plain cs k (truly k y t)

-- COUNTS STAY TRUE: after any calls of both kinds on a sheet and its counts, refused ones among them, the counts that are handed on are those that
-- counting the sheet answers, and none of the calls was refused with 19
not_nineteen : {s : List ℕ} (k : Kept) → Truly s k → (c : KeptCall) → answer_on k c ≢ 19
not_nineteen k u c e =
    ⊎_elim
    (λ l. omega (arith, e, answered_truly k u c, answered_as_block acting k.0 u.0.whole c l, own_small (block_in k.0 c.block) c.edit))
    (λ l. omega (arith, e, answered_truly k u c, beyond acting k.0 u.0.whole c l)) (lt_or c.block (blocks_of (read_head k.0)))

none_nineteen : {s : List ℕ} (cs : List KeptCall) (k : Kept) → Truly s k → All (λ (r : ℕ). r ≢ 19) (answers_on k cs)
unfolding told
none_nineteen [] k u = no_more
none_nineteen (c ∷ cs) k u = more (not_nineteen k u c) (none_nineteen cs (kept_with k c) (truly_on k u c))

pub record StillTrue (k : Kept) (cs : List KeptCall) : Type 0 where
  pub counts : TrueCounts (kept_with_all k cs)
  pub never_19 : All (λ (r : ℕ). r ≢ 19) (answers_on k cs)
  pub head : read_head (kept_with_all k cs).0 ≡ read_head k.0
  pub whole : WholeSheet (kept_with_all k cs).0

pub counts_true : (k : Kept) → Bytes k.0 → TrueCounts k → (cs : List KeptCall) → StillTrue k cs
counts_true k y t cs =
    let u = all_truly cs k (truly k y t) in
    record {
      counts = counted_is (kept_with_all k cs).0 u.0.whole ∙ ap (counted 0) (sym u.1);
      never_19 = none_nineteen cs k (truly k y t);
      head = u.0.head;
      whole = u.0.whole;
    }

-- DEMAND 3 READS BETWEEN TWO WHOLE-BLOCK REPLACEMENTS of a block, which with true counts are all accepted: `Stretch` says that the block is what the
-- first block of the stretch and the last accepted call for each line give. From the sheet on, up to the first of them ..
pub stretch_from_the_sheet : (k : Kept) → Bytes k.0 → TrueCounts k → (b : ℕ) → b < blocks_of (read_head k.0) → (cs : List KeptCall)
    → All (NotWhole b) cs → Stretch (block_in k.0 b) (lines_on b cs) (block_in (kept_with_all k cs).0 b)
stretch_from_the_sheet k y t b l cs h = before_whole k (truly k y t) b l cs h

-- .. and from each of them on, up to the next or to the end: k is a sheet with true counts, as any list of calls leaves it
pub stretch_from_a_block : (k : Kept) → Bytes k.0 → TrueCounts k → (b : ℕ) → b < blocks_of (read_head k.0) → (new : List ℕ) (f : Fit eights new)
    → (cs : List KeptCall) → All (NotWhole b) cs
    → Stretch new (lines_on b cs) (block_in (kept_with_all k (record { block = b; edit = whole new f } ∷ cs)).0 b)
stretch_from_a_block k y t b l new f cs h = since_whole k (truly k y t) b l new f cs h

-- a whole block is accepted exactly where the sheet has it, whatever stands there and whatever the sixteen bytes are
pub block_accepted_when : (k : Kept) → Bytes k.0 → TrueCounts k → (b : ℕ) (new : List ℕ) (f : Fit eights new)
    → (answer_on k (record { block = b; edit = whole new f }) ≡ 0) ↔ (b < blocks_of (read_head k.0))
block_accepted_when k y t b new f =
    let u = truly k y t in
    let c : KeptCall = record { block = b; edit = whole new f } in (
      λ e. ⊎_elim (λ l. l) (λ l. absurd (let q : ⊥ = omega (arith, e, answered_truly k u c, beyond acting k.0 u.0.whole c l) in q))
          (lt_or b (blocks_of (read_head k.0))),
      λ l. answered_truly k u c ∙ answered_as_block acting k.0 u.0.whole c l,
    )

blocks_few : (h : Head) → Sized h.width h.height → blocks_of h ≤ most_blocks
unfolding blocks_of
blocks_few h z = few_blocks z

-- true counts: the nine sum to the number of blocks, and the opaque are at most as many
pub counts_sum : (k : Kept) → Bytes k.0 → TrueCounts k
    → (of_all_modes k.1 ≡ blocks_of (read_head k.0)) × (k.1.opaque ≤ blocks_of (read_head k.0))
counts_sum k y t =
    let (z, e) = true_are k y t in
    rw e (of_all (read_head k.0) k.0, opaque_most (read_head k.0) k.0)

-- so no count of a sheet outgrows its place, whatever the size
pub counts_few : (s : List ℕ) → (read_head s).refusal ≡ 0
    → ((m : ℕ) → m < 9 → of_mode (counts_of (read_head s) s) m ≤ most_blocks) × ((counts_of (read_head s) s).opaque ≤ most_blocks)
counts_few s e =
    let few = blocks_few (read_head s) (head_sized s e) in
    (λ m l. omega (arith, of_all_has (counts_of (read_head s) s) m l, of_all (read_head s) s, few), omega (arith, opaque_most (read_head s) s, few))

-- the count of mode 8 is that of the blocks whose first byte is zero
pub reserved_counted : (s : List ℕ) → WholeSheet s
    → of_mode (counts_of (read_head s) s) 8 ≡ count (blocks_of (read_head s)) (λ b. eqb (get_or (block_in s b) 0 0) 0)
unfolding has_mode
reserved_counted s z =
    of_mode_is (read_head s) s 8 (lit< tt)
    ∙ count_same (blocks_of (read_head s)) (has_mode (read_head s) s 8) (λ b. eqb (get_or (block_in s b) 0 0) 0)
    (λ b l. same_test _ _
    (λ e. eqb_of (get_or (block_in s b) 0 0) 0 (zero_byte (block_in s b) (sixteen s z b l) (eqb→eq (mode_of (block_in s b)) 8 e)))
    (λ e. eqb_of (mode_of (block_in s b)) 8 (reserved_mode (block_in s b) (eqb→eq (get_or (block_in s b) 0 0) 0 e))))

-- and whatever counts come, an accepted call takes the block that stood there out of them and puts the new one in: none falls below 0, the nine
-- sum to the number of blocks again, and the opaque are at most as many as before or as there are blocks
pub accepted_accounts : (s : List ℕ) (n : Counts) (c : KeptCall) → answer_on (s, n) c ≡ 0
    → Accounted (read_head s) c.block (block_in s c.block) (made (block_in s c.block) c.edit).value n (kept_with (s, n) c).1
unfolding kept_refusal
accepted_accounts s n c e =
    let m = made (block_in s c.block) c.edit in
    let fine = (first_zero_is (false_refusal (read_head s) s c.block n) _ (first_zero_is (find_refusal (read_head s) s c.block) _ e).1).0 in
    subst (Accounted (read_head s) c.block (block_in s c.block) m.value n) (sym (counts_taken s n c.block m e))
    (accounted (read_head s) s c.block n fine m.value)

-- an answer is one result's
counts_fix : (left : Counts) (a b : Result Counts Refusal) → counts_answered left a ≡ counts_answered left b → a ≡ b
counts_fix left (Ok v) (Ok w) e = ap (λ (x : Counted). Ok x.counts) e
counts_fix left (Ok v) (Err q) e = absurd (number_not_0 q (sym (ap (λ (x : Counted). x.refusal) e)))
counts_fix left (Err r) (Ok w) e = absurd (number_not_0 r (ap (λ (x : Counted). x.refusal) e))
counts_fix left (Err r) (Err q) e = ap Err (number_injective (ap (λ (x : Counted). x.refusal) e))

-- DEMAND 1: any two results that a call's promise admits coincide
pub determined_count : (sheet : List ℕ) (a b : Result Counts Refusal)
    → CountsSheet sheet (counts_answered no_counts a) → CountsSheet sheet (counts_answered no_counts b) → a ≡ b
determined_count sheet a b p q = counts_fix no_counts a b (p ∙ sym q)

pub determined_line_counted : (sheet : List ℕ) (n : Counts) (b l : ℕ) (new : Replacement) (x y : Result Counts Refusal) (t u : List ℕ)
    → ReplacesLineCounted sheet n b l new (counts_answered n x) t → ReplacesLineCounted sheet n b l new (counts_answered n y) u → (x ≡ y) × (t ≡ u)
determined_line_counted sheet n b l new x y t u p q = (counts_fix n x y (p.0 ∙ sym q.0), p.1 ∙ sym q.1)

pub determined_block_counted : (sheet : List ℕ) (n : Counts) (b : ℕ) (new : List ℕ) (x y : Result Counts Refusal) (t u : List ℕ)
    → ReplacesBlockCounted sheet n b new (counts_answered n x) t → ReplacesBlockCounted sheet n b new (counts_answered n y) u → (x ≡ y) × (t ≡ u)
determined_block_counted sheet n b new x y t u p q = (counts_fix n x y (p.0 ∙ sym q.0), p.1 ∙ sym q.1)
