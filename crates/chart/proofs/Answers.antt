-- The answer from a text that was written into zeros, and which answer it is.
-- Assumes nothing.
use mathlib.Core.Path.{◌≡◌, sym, ap, ap₂, ◌∙◌}
use mathlib.Core.List.{List}
use mathlib.Core.Logic.{◌≢◌}
use Prim.Native.Nat.{ℕ}
use native.Mathlib.Omega.{arith}
use borrow.Author.Tests.{eq-eqb, ne_eqb}
use lib.ListN.{length, replicate}
use Rattle.std.specs.Prelude.{Option}
use Rattle.refusals.specs.declared.Refusal.{Refusal}
use Rattle.bc7_format.specs.declared.Split.{Split}
use Rattle.laws.specs.Digits.{Fit}
use Rattle.laws.specs.Padding.{padded}
use Rattle.laws.specs.Refusals.{first}
use Rattle.laws.proofs.Padding.{stored_zeros}
use Rattle.bcn_format.specs.Block.{block_at, eights}
use Rattle.bcn_format.proofs.Storing.{whole_block}
use Rattle.bc7_format.specs.Modes.{mode_of}
use Rattle.bc7_format.specs.Places.{place_count}
use Rattle.bc7_format.specs.Splits.{split_of}
use Rattle.bc7_format.proofs.Opening.{good_kind, good_partition, opened_good}
use Rattle.laws.specs.Text.{refused_text}
use Rattle.text.specs.Puts.{Puts}
use Rattle.chart_rules.specs.Charts.{Answers, chart, chart_refusal, charted, places_text, refusal_number, text_room}
use Rattle.chart_rules.proofs.Theorems.{accepted_prints, not_sixteen, refused_prints_only}
use Rattle.chart.specs.Asked.{BlockMode, SplitOfMode}

pub answered : (r : Option Refusal) {t out : List ℕ} {n : ℕ} → Puts text_room (replicate text_room 0) 0 t out n
    → Answers (charted (refusal_number r) t) (record { refusal = r; length = n; text = out })
answered r {t} {out} {n} p =
    let w = p.text in
    let told : ◌≡◌ {A = List ℕ × ℕ} (out, n) (padded text_room t, length t) =
    ap₂ (λ (o : List ℕ) (k : ℕ). (o, k)) w.bytes w.ends ∙ stored_zeros text_room t (omega (arith, w.ends, p.within)) in
    record { is = ap (λ (p : List ℕ × ℕ). record { refusal = refusal_number r; length = p.1; text = p.0 }) told; within = p.within }

-- where there are not sixteen bytes
pub says_10 : (bs : List ℕ) → length bs ≢ 16 → charted 10 (refused_text 10) ≡ charted (chart_refusal bs) (chart bs)
says_10 bs n = let e = not_sixteen bs n in sym (ap₂ charted e (refused_prints_only bs 9 e))

-- where there are, and make a block with its mode
module _ (bs : List ℕ) (l : length bs ≡ 16) {block : List ℕ} {mode : ℕ} (taken : block ≡ block_at bs 0) (em : mode ≡ mode_of block) where
  eb : block ≡ bs
  eb = taken ∙ whole_block bs l

  mode_is : mode ≡ mode_of bs
  mode_is = em ∙ ap mode_of eb

  reserved : mode ≡ 8 → chart_refusal bs ≡ 1
  unfolding chart_refusal first
  reserved e = rw (eq-eqb (length bs) 16 l, eq-eqb (mode_of bs) 8 (sym mode_is ∙ e))

  pub says_1 : mode ≡ 8 → charted 1 (refused_text 1) ≡ charted (chart_refusal bs) (chart bs)
  says_1 m = let e = reserved m in sym (ap₂ charted e (refused_prints_only bs 0 e))

  fine : mode ≢ 8 → chart_refusal bs ≡ 0
  unfolding chart_refusal first
  fine n = rw (eq-eqb (length bs) 16 l, ne_eqb (mode_of bs) 8 (λ e. n (mode_is ∙ e)))

  pub says_fields : mode ≢ 8 → charted 0 (places_text mode (split_of block) place_count) ≡ charted (chart_refusal bs) (chart bs)
  says_fields n =
      let e = fine n in
      ap₂ (λ (m : ℕ) (b : List ℕ). charted 0 (places_text m (split_of b) place_count)) mode_is eb ∙ sym (ap₂ charted e (accepted_prints bs e))

-- the split of a block that is not reserved
pub of_mode_is : (bs : List ℕ) → Fit eights bs → {mode : ℕ} {s : Split} → BlockMode bs mode → s ≡ split_of bs → SplitOfMode mode s
of_mode_is bs sixteen b e =
    let g = opened_good bs sixteen (rw b.is at b.low) in
    record { low = b.low; kind = rw (e, b.is) (good_kind g); few = rw (e, b.is) (good_partition g) }
