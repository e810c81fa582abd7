-- Which answer a call gets.
-- Assumes nothing.
use mathlib.Core.Path.{◌≡◌, refl, subst}
use mathlib.Core.Logic.{◌≢◌}
use mathlib.Core.Bool.{Bool, true, false, not}
use mathlib.Core.List.{List, [], ◌∷◌}
use Prim.Native.Nat.{ℕ}
use borrow.Author.Tests.{eqb-true, eqb-false, eq-eqb, ne_eqb, not-false}
use lib.Dec.{T, eqb, ltb, ltb→lt, lt→ltb}
use lib.ListN.{get_or}
use Rattle.bc7_format.specs.declared.Split.{Split}
use Rattle.laws.specs.Digits.{Fit}
use Rattle.laws.specs.Refusals.{refuse, unless}
use Rattle.laws.specs.Tables.{below, both}
use Rattle.laws.proofs.Refusals.{Answers, Decided, Tests, answers, by_eqb, by_not, by_not_ltb, by_test, none, rule}
use Rattle.laws.proofs.Tests.{T_true, at, below_intro, both_intro, both_true, true_T}
use Rattle.bcn_format.specs.Block.{eights}
use Rattle.bc7_format.specs.Modes.{mode_of, lines}
use Rattle.bc7_format.specs.Lines.{Line}
use Rattle.bc7_format.specs.Splits.{split_of}
use Rattle.bc7_format.proofs.Reserved.{reserved_mode, zero_byte}
use Rattle.line_rules.specs.Acceptable.{Acceptable, WithinLine, call_rules, line_rules}
use Rattle.line_rules.specs.Replace.{Call, index_fits, line_fits, p_fits, refusal, refusal_in, value_fits}

pub second : (a b : Bool) → a ≡ true → both a b ≡ false → b ≡ false
second true b p q = q
second false b p q = absurd (subst (λ (c : Bool). T (not c)) p tt)

module _ (m : ℕ) (s : Split) (l : ℕ) (ln : Line) where
  -- the test of all values, and each value
  pub fits_within : line_fits m s l ln ≡ true → WithinLine m s l ln
  unfolding line_fits value_fits p_fits index_fits
  fits_within e =
      let a = both_true (below 2 (λ k. below 4 (value_fits m s l ln k))) (both (below 2 (p_fits m s l ln)) (below 16 (index_fits m s l ln))) e in
      let b = both_true (below 2 (p_fits m s l ln)) (below 16 (index_fits m s l ln)) a.1 in
      record {
        value = λ k c hk hc. ltb→lt _ _ (at 4 (value_fits m s l ln k) (at 2 (λ k. below 4 (value_fits m s l ln k)) (true_T _ a.0) k hk) c hc);
        p = λ k hk. ltb→lt _ _ (at 2 (p_fits m s l ln) (true_T _ b.0) k hk);
        index = λ q hq. ltb→lt _ _ (at 16 (index_fits m s l ln) (true_T _ b.1) q hq);
      }

  pub within_fits : WithinLine m s l ln → line_fits m s l ln ≡ true
  unfolding line_fits value_fits p_fits index_fits
  within_fits w =
      let a = below_intro 2 (λ k. below 4 (value_fits m s l ln k))
      (λ k hk. below_intro 4 (value_fits m s l ln k) (λ c hc. lt→ltb _ _ (w.value k c hk hc))) in
      let b = below_intro 2 (p_fits m s l ln) (λ k hk. lt→ltb _ _ (w.p k hk)) in
      let c = below_intro 16 (index_fits m s l ln) (λ q hq. lt→ltb _ _ (w.index q hq)) in
      T_true _ (both_intro (below 2 (λ k. below 4 (value_fits m s l ln k))) _ a (both_intro (below 2 (p_fits m s l ln)) _ b c))

  -- each test and its rule
  differ : (m ≡ 1 → ln.p 0 ≡ ln.p 1) → both (eqb m 1) (not (eqb (ln.p 0) (ln.p 1))) ≡ false
  differ f = go (eqb m 1) refl
    where
      go : (b : Bool) → eqb m 1 ≡ b → both b (not (eqb (ln.p 0) (ln.p 1))) ≡ false
      go true e = rw (eq-eqb (ln.p 0) (ln.p 1) (f (eqb-true m 1 e)))
      go false e = refl

  behind_1 : Tests (refuse 2 (not (ltb l (lines m))) ∷ refuse 3 (not (line_fits m s l ln)) ∷
      refuse 4 (both (eqb m 1) (not (eqb (ln.p 0) (ln.p 1)))) ∷ []) (line_rules m s l ln)
  behind_1 =
      rule (by_not_ltb tt l (lines m)) λ h.
      rule (by_not tt (line_fits m s l ln) fits_within within_fits) λ w.
      rule (by_test tt (both (eqb m 1) (not (eqb (ln.p 0) (ln.p 1))))
      (λ e z. eqb-true _ _ (not-false _ (second (eqb m 1) _ (eq-eqb m 1 z) e))) differ) λ p.
      none

  answering : Answers (refusal_in m s l ln) (unless 1 (m ≢ 8) ∷ line_rules m s l ln)
  unfolding refusal_in
  answering = answers (rule (by_eqb tt m 8) λ o. behind_1)

  -- what is not refused
  pub accepted_is : refusal_in m s l ln ≡ 0 → Acceptable m s l ln
  accepted_is e = let (o, (h, (w, (p, u)))) = answering.met e in record { line = h; within = w; same_p = p }

-- on a block: mode 8 is a first byte of zero
pub open_is : (bs : List ℕ) → Fit eights bs → Decided (refuse 1 (eqb (mode_of bs) 8)) 1 (get_or bs 0 0 ≢ 0)
open_is bs sixteen =
    by_test tt (eqb (mode_of bs) 8) (λ e z. eqb-false (mode_of bs) 8 e (reserved_mode bs z))
    (λ n. ne_eqb (mode_of bs) 8 (λ z. n (zero_byte bs sixteen z)))

pub on_block_is : (bs : List ℕ) → Fit eights bs → (c : Call) → Answers (refusal bs c) (call_rules bs c)
unfolding refusal refusal_in
on_block_is bs sixteen c = answers (rule (open_is bs sixteen) λ o. behind_1 (mode_of bs) (split_of bs) c.line c.given)
