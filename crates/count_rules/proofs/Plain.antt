-- The same calls on a sheet without counts: they act on the block that they name (sheet_rules, OnBlocks). With true counts a call is answered
-- so, leaves that sheet, and hands back the counts of it.
-- Assumes nothing.
use mathlib.Core.Path.{◌≡◌, refl, sym, ap, ap₂, ◌∙◌, subst}
use mathlib.Core.Logic.{◌≢◌, ⊎_elim}
use mathlib.Core.List.{List, [], ◌∷◌, ◌++◌}
use Prim.Native.Nat.{ℕ, ◌<◌, ◌≤◌}
use native.Mathlib.Nat.{eq-zero-or-pos}
use native.Mathlib.Omega.{arith}
use borrow.Author.Tests.{eq-eqb, ne_eqb}
use lib.Dec.{eqb}
use Rattle.laws.specs.Digits.{Fit}
use Rattle.laws.specs.Refusals.{first, handed, here, then}
use Rattle.laws.specs.Tables.{pick}
use Rattle.laws.proofs.Cases.{lt_or}
use Rattle.laws.proofs.calls.Trading.{run_good}
use Rattle.laws.proofs.Refusals.{Answers, answers, by_answer, exactly, handed_last, none, rule, rules}
use Rattle.bcn_format.specs.Block.{eights, put_block}
use Rattle.head_rules.specs.Geometry.{blocks_of, place_of}
use Rattle.head_rules.specs.Heads.{read_head}
use Rattle.refusals.specs.Answers.{Answer}
use Rattle.line_rules.specs.Replace.{call_of, replaced}
use Rattle.line_rules.proofs.Blocks.{after_sixteen}
use Rattle.line_rules.proofs.Theorems.{refused_same}
use Rattle.sheet_rules.specs.Calls.{WholeSheet}
use Rattle.sheet_rules.specs.Sheets.{block_in, find_refusal, find_rules}
use Rattle.sheet_rules.proofs.OnBlocks.{Acting, Same, answered_as_block, beyond, same_on, sixteen, with_kept}
use Rattle.sheet_rules.proofs.Finding.{finding}
use Rattle.count_rules.specs.declared.Counts.{Counts}
use Rattle.count_rules.specs.Calls.{Edit, Kept, KeptCall, answer_on, kept_with, kept_with_all, line, made, whole}
use Rattle.count_rules.specs.Counts.{counts_of}
use Rattle.count_rules.specs.Keeping.{kept_counts, kept_refusal, kept_sheet, recounted}
use Rattle.count_rules.proofs.Refusing.{falsehood, keeping}
use Rattle.count_rules.proofs.Taking.{stored_recounted, true_counts}

abbrev pub tell : List ℕ → Edit → ℕ
tell bs e = (made bs e).refusal

abbrev pub act : List ℕ → Edit → List ℕ
act bs e = (made bs e).value

abbrev pub named : KeptCall → ℕ
named c = c.block

abbrev pub done : KeptCall → Edit
done c = c.edit

unfoldable pub plain_refusal : List ℕ → KeptCall → ℕ
plain_refusal s c = first (find_refusal (read_head s) s c.block ∷ tell (block_in s c.block) c.edit ∷ [])

unfoldable pub plain_with : List ℕ → KeptCall → List ℕ
plain_with s c = pick (eqb (plain_refusal s c) 0) (put_block s (place_of (read_head s) c.block) (act (block_in s c.block) c.edit)) s

act_stays : (bs : List ℕ) (e : Edit) → tell bs e ≢ 0 → act bs e ≡ bs
unfolding replaced
act_stays bs (line l g) ne = refused_same bs (call_of l g) ne
act_stays bs (whole new f) ne = absurd (ne refl)

pub act_fits : (bs : List ℕ) → Fit eights bs → (e : Edit) → Fit eights (act bs e)
unfolding replaced
act_fits bs h (line l g) = after_sixteen bs h (call_of l g)
act_fits bs h (whole new f) = f

pub plain_accepted : (s : List ℕ) (c : KeptCall) → plain_refusal s c ≡ 0
    → plain_with s c ≡ put_block s (place_of (read_head s) c.block) (act (block_in s c.block) c.edit)
unfolding plain_with
plain_accepted s c e = rw (eq-eqb (plain_refusal s c) 0 e)

pub plain_refused : (s : List ℕ) (c : KeptCall) → plain_refusal s c ≢ 0 → plain_with s c ≡ s
unfolding plain_with
plain_refused s c ne = rw (ne_eqb (plain_refusal s c) 0 ne)

plain_answers : (s : List ℕ) (c : KeptCall)
    → Answers (plain_refusal s c) (find_rules (read_head s) s c.block ++ (handed (tell (block_in s c.block) c.edit) ∷ []))
unfolding plain_refusal
plain_answers s c = answers (rules (finding s c.block) λ m. rule by_answer λ z. none)

pub acting : Acting plain_refusal plain_with named done tell act
acting = record { answers = plain_answers; accepted = plain_accepted; refused = plain_refused; stays = act_stays; fits = act_fits }

-- what an accepted call and a refused one hand back
module _ (s : List ℕ) (n : Counts) (b : ℕ) (m : Answer (List ℕ)) where
  pub sheet_taken : kept_refusal (read_head s) s n b m ≡ 0 → kept_sheet (read_head s) s n b m ≡ put_block s (place_of (read_head s) b) m.value
  unfolding kept_sheet
  sheet_taken e = rw (eq-eqb (kept_refusal (read_head s) s n b m) 0 e)

  pub sheet_left : kept_refusal (read_head s) s n b m ≢ 0 → kept_sheet (read_head s) s n b m ≡ s
  unfolding kept_sheet
  sheet_left ne = rw (ne_eqb (kept_refusal (read_head s) s n b m) 0 ne)

  pub counts_taken : kept_refusal (read_head s) s n b m ≡ 0 → kept_counts (read_head s) s n b m ≡ recounted (read_head s) s b m.value n
  unfolding kept_counts
  counts_taken e = rw (eq-eqb (kept_refusal (read_head s) s n b m) 0 e)

  pub counts_left : kept_refusal (read_head s) s n b m ≢ 0 → kept_counts (read_head s) s n b m ≡ n
  unfolding kept_counts
  counts_left ne = rw (ne_eqb (kept_refusal (read_head s) s n b m) 0 ne)

-- WITH TRUE COUNTS
abbrev own_counts : List ℕ → Counts
own_counts s = counts_of (read_head s) s

module _ (s : List ℕ) (z : WholeSheet s) (c : KeptCall) where
  abbrev own : Answer (List ℕ)
  own = made (block_in s c.block) c.edit

  pub answered : answer_on (s, counts_of (read_head s) s) c ≡ plain_refusal s c
  answered =
      ⊎_elim (λ l. there l ∙ sym (answered_as_block acting s z c l)) (λ l. away l ∙ sym (beyond acting s z c l))
      (lt_or c.block (blocks_of (read_head s)))
    where
      there : c.block < blocks_of (read_head s) → answer_on (s, counts_of (read_head s) s) c ≡ tell (block_in s c.block) c.edit
      there l =
          let (a, (b, (d, (e, u)))) = (falsehood (read_head s) s c.block (counts_of (read_head s) s)).met (true_counts (read_head s) s c.block l) in
          (exactly (keeping s (counts_of (read_head s) s) c.block own) _).1
          (then z.told (then z.long (then l (then a (then b (then d (then e (handed_last _))))))))

      away : blocks_of (read_head s) ≤ c.block → answer_on (s, counts_of (read_head s) s) c ≡ 12
      away l = (exactly (keeping s (counts_of (read_head s) s) c.block own) 12).1 (then z.told (then z.long (here (λ n. omega arith))))

  sheet_is : (kept_with (s, counts_of (read_head s) s) c).0 ≡ plain_with s c
  unfolding kept_sheet plain_with
  sheet_is = ap (λ (r : ℕ). pick (eqb r 0) (put_block s (place_of (read_head s) c.block) own.value) s) answered

  counts_are : (kept_with (s, counts_of (read_head s) s) c).1 ≡ counts_of (read_head (plain_with s c)) (plain_with s c)
  counts_are = ⊎_elim taken (λ p. left (λ q. omega arith)) (eq-zero-or-pos (plain_refusal s c))
    where
      taken : plain_refusal s c ≡ 0 → (kept_with (s, counts_of (read_head s) s) c).1 ≡ counts_of (read_head (plain_with s c)) (plain_with s c)
      taken e =
          let (told, (long, (l, u))) = (plain_answers s c).met e in
          let fits = act_fits (block_in s c.block) (sixteen s z c.block l) c.edit in
          counts_taken s (counts_of (read_head s) s) c.block own (answered ∙ e)
          ∙ sym (ap own_counts (plain_accepted s c e) ∙ stored_recounted s z c.block l own.value fits)

      left : plain_refusal s c ≢ 0 → (kept_with (s, counts_of (read_head s) s) c).1 ≡ counts_of (read_head (plain_with s c)) (plain_with s c)
      left ne =
          counts_left s (counts_of (read_head s) s) c.block own (λ e. ne (sym answered ∙ e))
          ∙ sym (ap own_counts (plain_refused s c ne))

  pub stepped : kept_with (s, counts_of (read_head s) s) c ≡ (plain_with s c, counts_of (read_head (plain_with s c)) (plain_with s c))
  stepped = ap₂ (λ (t : List ℕ) (n : Counts). (t, n)) sheet_is counts_are

-- so through any calls: a sheet that is s but for its blocks, and beside it the counts of it
abbrev pub Truly : List ℕ → Kept → Type 0
Truly s k = Same s k.0 × (k.1 ≡ counts_of (read_head k.0) k.0)

module _ {s : List ℕ} (k : Kept) (t : Truly s k) (c : KeptCall) where
  beside : k ≡ (k.0, counts_of (read_head k.0) k.0)
  beside i = (k.0, t.1 i)

  pub answered_truly : answer_on k c ≡ plain_refusal k.0 c
  answered_truly = ap (λ (p : Kept). answer_on p c) beside ∙ answered k.0 t.0.whole c

  pub stepped_truly : kept_with k c ≡ (plain_with k.0 c, counts_of (read_head (plain_with k.0 c)) (plain_with k.0 c))
  stepped_truly = ap (λ (p : Kept). kept_with p c) beside ∙ stepped k.0 t.0.whole c

  pub truly_on : Truly s (kept_with k c)
  truly_on = subst (Truly s) (sym stepped_truly) (same_on t.0 (with_kept acting k.0 t.0.whole c), refl)

pub all_truly : {s : List ℕ} (cs : List KeptCall) (k : Kept) → Truly s k → Truly s (kept_with_all k cs)
all_truly {s} cs k t = run_good kept_with (Truly s) (λ k c t. truly_on k t c) cs k t
