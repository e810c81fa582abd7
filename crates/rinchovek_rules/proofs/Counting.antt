-- What a counted call of Rattle says of the call for C, which is lent sheet and counts: refused, it writes neither.
-- Assumes nothing.
use mathlib.Core.Path.{◌≡◌, sym, ap, ap₂, ◌∙◌, subst}
use mathlib.Core.Logic.{◌≢◌}
use mathlib.Core.List.{List}
use Prim.Native.Nat.{ℕ}
use borrow.Author.Tests.{eq-eqb, ne_eqb}
use Rattle.head_rules.specs.Heads.{read_head}
use Rattle.line_rules.specs.declared.Replacement.{Replacement}
use Rattle.refusals.specs.Answers.{Answer}
use Rattle.line_rules.specs.Read.{replacement_of}
use Rattle.sheet_rules.specs.Sheets.{replaced_in}
use Rattle.count_rules.specs.declared.Counts.{Counts}
use Rattle.count_rules.specs.Counts.{Counted}
use Rattle.count_rules.specs.Keeping as keeping
use Rattle.count_rules.specs.Keeping.{kept_answer, kept_counts, kept_refusal, kept_sheet}
use Rattle.count_rules.proofs.Plain.{sheet_left}
use Rattle.rinchovek_rules.specs.Promises.{Keeps, counts_of_ten, ten_of}

module _ (s c : List ℕ) (b : ℕ) (made : Answer (List ℕ)) {n : Counts} (en : n ≡ counts_of_ten c) {a : Counted} {t : List ℕ} (k : keeping.Keeps s n b made a t)
  where
    told : a.refusal ≡ kept_refusal (read_head s) s (counts_of_ten c) b made
    unfolding kept_answer
    told = ap (λ (x : Counted). x.refusal) k.0 ∙ ap (λ (x : Counts). kept_refusal (read_head s) s x b made) en

    sheet_is : t ≡ kept_sheet (read_head s) s (counts_of_ten c) b made
    sheet_is = k.1 ∙ ap (λ (x : Counts). kept_sheet (read_head s) s x b made) en

    counts_are : a.counts ≡ kept_counts (read_head s) s (counts_of_ten c) b made
    unfolding kept_answer
    counts_are = ap (λ (x : Counted). x.counts) k.0 ∙ ap (λ (x : Counts). kept_counts (read_head s) s x b made) en

    pub counted_refused : a.refusal ≢ 0 → Keeps (s, c) b made a.refusal (t, c)
    counted_refused ne =
        let ne' : kept_refusal (read_head s) s (counts_of_ten c) b made ≢ 0 = λ z. ne (told ∙ z) in
        record {
          answers = told;
          leaves = ap (λ (x : List ℕ). (x, c)) (sheet_is ∙ sheet_left s (counts_of_ten c) b made ne') ∙ rw (ne_eqb _ 0 ne');
        }

    pub counted_accepted : a.refusal ≡ 0 → {ten : List ℕ} → ten ≡ ten_of a.counts → Keeps (s, c) b made 0 (t, ten)
    counted_accepted z {ten} et =
        let e : kept_refusal (read_head s) s (counts_of_ten c) b made ≡ 0 = sym told ∙ z in
        record {
          answers = sym e;
          leaves = ap₂ (λ (x y : List ℕ). (x, y)) sheet_is (et ∙ ap (λ (x : Counts). ten_of x) counts_are) ∙ rw (eq-eqb _ 0 e);
        }

-- a line: the replacement comes as bytes
pub of_bytes : (s : List ℕ) (n : Counts) (b l : ℕ) {new : Replacement} (bytes : List ℕ) → new ≡ replacement_of bytes → {a : Counted} {t : List ℕ}
    → keeping.Keeps s n b (replaced_in (read_head s) s b l new) a t → keeping.Keeps s n b (replaced_in (read_head s) s b l (replacement_of bytes)) a t
of_bytes s n b l bytes e {a} {t} k = subst (λ (x : Replacement). keeping.Keeps s n b (replaced_in (read_head s) s b l x) a t) e k
