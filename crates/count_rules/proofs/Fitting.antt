-- Counts that are handed on, true or not: what an accepted call makes of them is one less and one more, and none falls below 0 or outgrows
-- its place by it.
-- Assumes nothing.
use mathlib.Core.Path.{◌≡◌, refl, ap, ◌∙◌}
use mathlib.Core.Logic.{◌≢◌, ◌⊎◌, inl, inr, ⊎_elim}
use mathlib.Core.Bool.{Bool, true, false}
use mathlib.Core.List.{List}
use Prim.Native.Nat.{ℕ, ◌+◌, ◌<◌, ◌≤◌}
use native.Mathlib.Nat.{eq-zero-or-pos}
use native.Mathlib.Omega.{arith}
use borrow.Author.Tests.{eqb-true}
use lib.Dec.{eqb}
use Rattle.laws.specs.Tables.{pick}
use Rattle.laws.proofs.Part.{get_d_table}
use Rattle.laws.specs.Counting.{sum}
use Rattle.laws.proofs.Sums.{sum_add, sum_same}
use Rattle.bc7_format.specs.Modes.{mode_of}
use Rattle.bc7_format.proofs.Modes.{mode_le_8}
use Rattle.head_rules.specs.Answers.{Head}
use Rattle.head_rules.specs.Geometry.{blocks_of}
use Rattle.opacity_rules.specs.Opacity.{opaque_in}
use Rattle.sheet_rules.specs.Sheets.{block_by}
use Rattle.count_rules.specs.declared.Counts.{Counts}
use Rattle.count_rules.specs.Counts.{is_opaque}
use Rattle.count_rules.specs.Keeping.{changed, false_refusal, of_all_modes, of_mode, recounted, recounted_as}
use Rattle.count_rules.proofs.Refusing.{falsehood}
use Rattle.count_rules.proofs.Tallies.{one, one_each, sum_has}

-- of counts n the block `old` is taken out, and `new` put in: m is what is left
pub record Accounted (h : Head) (b : ℕ) (old new : List ℕ) (n m : Counts) : Type 0 where
  pub modes : (k : ℕ) → k < 9 → of_mode m k + pick (eqb (mode_of old) k) 1 0 ≡ of_mode n k + pick (eqb (mode_of new) k) 1 0
  pub opaque : m.opaque + pick (opaque_in h.width h.height b old) 1 0 ≡ n.opaque + pick (opaque_in h.width h.height b new) 1 0
  pub sum : of_all_modes m ≡ blocks_of h
  pub each : (k : ℕ) → k < 9 → of_mode m k ≤ blocks_of h
  pub most : (m.opaque ≤ n.opaque) ⊎ (m.opaque ≤ blocks_of h)

pub of_all_has : (n : Counts) (k : ℕ) → k < 9 → of_mode n k ≤ of_all_modes n
unfolding of_all_modes
of_all_has n k l = sum_has 9 (of_mode n) k l

module _ (h : Head) (s : List ℕ) (b : ℕ) (n : Counts) (fine : false_refusal h s b n ≡ 0) (new : List ℕ) where
  abbrev old : List ℕ
  old = block_by h s b

  abbrev m : Counts
  m = recounted h s b new n

  counted_one : (k : ℕ) → pick (eqb (mode_of old) k) 1 0 ≤ of_mode n k
  counted_one k = go (eqb (mode_of old) k) refl
    where
      go : (t : Bool) → eqb (mode_of old) k ≡ t → one t ≤ of_mode n k
      go true e =
          let some : of_mode n (mode_of old) ≢ 0 = ((falsehood h s b n).met fine).1.0 in
          ⊎_elim (λ z. absurd (some (ap (of_mode n) (eqb-true (mode_of old) k e) ∙ z))) (λ p. p) (eq-zero-or-pos (of_mode n k))
      go false e = omega arith

  mode_is : (k : ℕ) → k < 9 → of_mode m k ≡ changed (eqb (mode_of old) k) (eqb (mode_of new) k) (of_mode n k)
  unfolding recounted_as
  mode_is k l = get_d_table 9 (λ k. changed (eqb (mode_of old) k) (eqb (mode_of new) k) (of_mode n k)) 0 k l

  modes_account : (k : ℕ) → k < 9 → of_mode m k + pick (eqb (mode_of old) k) 1 0 ≡ of_mode n k + pick (eqb (mode_of new) k) 1 0
  modes_account k l = omega (arith, mode_is k l, counted_one k)

  sum_stays : of_all_modes m ≡ blocks_of h
  unfolding of_all_modes
  sum_stays =
      let before : sum 9 (of_mode n) ≡ blocks_of h = ((falsehood h s b n).met fine).0 in
      let took = one_each 9 (mode_of old) (omega (arith, mode_le_8 old)) in
      let gave = one_each 9 (mode_of new) (omega (arith, mode_le_8 new)) in
      omega (
        arith,
        sum_add 9 (of_mode m) (λ k. pick (eqb (mode_of old) k) 1 0),
        sum_add 9 (of_mode n) (λ k. pick (eqb (mode_of new) k) 1 0),
        sum_same 9 (λ k. of_mode m k + pick (eqb (mode_of old) k) 1 0) (λ k. of_mode n k + pick (eqb (mode_of new) k) 1 0) modes_account,
      )

  opaque_is : m.opaque ≡ changed (opaque_in h.width h.height b old) (opaque_in h.width h.height b new) n.opaque
  unfolding recounted_as is_opaque
  opaque_is = refl

  -- by whether the block was opaque, and whether it is
  opaque_parts : (was is : Bool) → opaque_in h.width h.height b old ≡ was → changed was is n.opaque + one was ≡ n.opaque + one is
  unfolding is_opaque
  opaque_parts true is e =
      let some : n.opaque ≢ 0 = ((falsehood h s b n).met fine).1.1.0 e in
      ⊎_elim (λ z. absurd (some z)) (λ p. omega arith) (eq-zero-or-pos n.opaque)
  opaque_parts false is e = omega arith

  opaque_bound : (was is : Bool) → opaque_in h.width h.height b old ≡ was
      → (changed was is n.opaque ≤ n.opaque) ⊎ (changed was is n.opaque ≤ blocks_of h)
  unfolding is_opaque
  opaque_bound true true e = inl (omega (arith, opaque_parts true true e))
  opaque_bound true false e = inl (omega arith)
  opaque_bound false true e = inr (omega (arith, ((falsehood h s b n).met fine).1.1.1.0 e))
  opaque_bound false false e = inl (omega arith)

  pub accounted : Accounted h b old new n m
  accounted = record {
    modes = modes_account;
    opaque = ap (λ (o : ℕ). o + one (opaque_in h.width h.height b old)) opaque_is
        ∙ opaque_parts (opaque_in h.width h.height b old) (opaque_in h.width h.height b new) refl;
    sum = sum_stays;
    each = λ k l. omega (arith, of_all_has m k l, sum_stays);
    most = rw opaque_is (opaque_bound (opaque_in h.width h.height b old) (opaque_in h.width h.height b new) refl);
  }
